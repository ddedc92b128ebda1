-- Bounds of the snapshots that fit a transaction, as they are found read by read: a commit, and the first event that asks for it or
-- bars it.
use Rattle.std.specs.Prelude.{◌≡◌, ◌⊎◌, ◌↔◌, ℕ, ◌<◌, ◌≤◌, List, IsTrue, MatchOption, Some, slice_get}
use Rattle.sia_events.specs.declared.event.Event.{Event}
use Rattle.sia_events.specs.Numbering.{txns_of}
use Rattle.sia_index.specs.Info.{IsKeyAt}
use Rattle.si_audit.specs.SnapshotLines.{IsNeeded}
use Rattle.si_audit.specs.Snapshots.{AccessesAt, Bars, FitsStart, IsAsked, IsFirst, IsInNone, ReadAsks}
use Rattle.si_audit.specs.declared.snapshots.Bound.{Bound}
use Rattle.si_audit.specs.declared.snapshots.Bounds.{Bounds}

-- of the commits c, places p and keys k that have P, the bound has the commit beyond which none is, with the first place and key of
-- it; or there is none, and it has the commit and place that stand for that
pub record IsBound (Reaches : ℕ → ℕ → Type 0) (unbound : ℕ) (P : ℕ → ℕ → ℕ → Type 0) (b : Bound) : Type 0 where
  pub none : b.place ≡ 0 → (b.commit ≡ unbound) × ((c p k : ℕ) → ¬ P c p k)
  pub some : 0 < b.place → IsFirst (P b.commit) b.place b.key
  pub each : (c p k : ℕ) → P c p k → Reaches b.commit c

-- a read before place p, or at p of a written key below number m
abbrev pub IsSoFar : List Event → ℕ → ℕ → ℕ → ℕ → Type 0
IsSoFar h p m q k = (q < p) ⊎ ((q ≡ p) × (i : ℕ) × IsKeyAt h i k × (i < m))

-- what t's reads so far ask for and bar
pub record AreSoFar (h : List Event) (t p m : ℕ) (b : Bounds) : Type 0 where
  pub low : IsBound (λ c d. d ≤ c) 0 (λ c q k. IsSoFar h p m q k × ReadAsks h t c q k) b.low
  pub high : IsBound (λ c d. c ≤ d) 4294967295 (λ c q k. IsSoFar h p m q k × Bars h t c q k) b.high

-- old is what is known up to key number m at place p, and new the same up to key number n at place q
pub record Sees (h : List Event) (t p m q n : ℕ) (old new : Bounds) : Type 0 where
  pub misfit : new.misfit ≡ old.misfit
  pub never : new.never ≡ old.never
  pub first : new.first ≡ old.first
  pub bounds : AreSoFar h t p m old → AreSoFar h t q n new

-- t's first read or write before place p is at place first, which is 0 where there is none
abbrev pub IsFirstSoFar : List Event → ℕ → ℕ → ℕ → Type 0
IsFirstSoFar h t p first = ((first ≡ 0) × ((q : ℕ) → AccessesAt h t q → p ≤ q)) ⊎ (AccessesAt h t first × ((q : ℕ) → AccessesAt h t q → first ≤ q))

-- whether t's recorded start fits it, and its first read that no snapshot has
pub record IsMarked (h : List Event) (t : ℕ) (b : Bounds) : Type 0 where
  pub misfit : IsTrue b.misfit ↔ (¬ FitsStart h t)
  pub never : MatchOption b.never ((p k : ℕ) → ¬ IsInNone h t p k) (λ at. IsFirst (IsInNone h t) at.0 at.1)

-- the same, and where it doesn't fit what its events before place p tell
pub record IsKnownTo (h : List Event) (t p : ℕ) (b : Bounds) : Type 0 where
  pub marked : IsMarked h t b
  pub reads : IsTrue b.misfit → AreSoFar h t p 0 b
  pub first : IsTrue b.misfit → IsFirstSoFar h t p b.first

-- the latest commit that t's snapshot has to have, if it has to have one
abbrev pub IsLow : List Event → ℕ → Bound → Type 0
IsLow h t low = ((low.commit ≡ 0) × ((c : ℕ) → ¬ IsAsked h t c)) ⊎ IsNeeded h t low.commit low.place low.key

-- the same, and where it doesn't fit what all its reads and writes ask for and bar
pub record IsKnownOf (h : List Event) (t : ℕ) (b : Bounds) : Type 0 where
  pub marked : IsMarked h t b
  pub low : IsTrue b.misfit → IsLow h t b.low
  pub high : IsTrue b.misfit → IsBound (λ c d. c ≤ d) 4294967295 (Bars h t) b.high
  pub first : IsTrue b.misfit → AccessesAt h t b.first × ((q : ℕ) → AccessesAt h t q → b.first ≤ q)

-- each transaction's row, by its number in the log, is such
abbrev pub EachTxn : (ℕ → Bounds → Type 0) → List Event → List Bounds → Type 0
EachTxn Is h all = (i t : ℕ) → slice_get (txns_of h) i ≡ Some t → (b : Bounds) × (slice_get all i ≡ Some b) × Is t b
