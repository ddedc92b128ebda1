-- Each transaction has a value, as its commit. Of those who saw a version before another one the greatest value, by positions and
-- by blocks of keys.
use Rattle.std.specs.Prelude.{◌≡◌, ◌⊎◌, ◌↔◌, ℕ, ◌*◌, ◌<◌, ◌≤◌, List, length, slice_index}
use Rattle.sia_events.specs.declared.event.Event.{Event}
use Rattle.sia_events.specs.Dependencies.{RwEdge}
use Rattle.sia_events.specs.NarrowDependencies.{IsNextVersion}
use Rattle.sia_events.specs.Transactions.{CommitsAt}
use Rattle.sia_index.specs.declared.info.KeyVersion.{KeyVersion}
use Rattle.sia_index.specs.Info.{IsKeyAt}
use Rattle.sia_index.specs.Numbers.{IsCommittedAt}
use Rattle.sia_index.specs.Positions.{ArePositions, IsAtPosition}
use Rattle.sia_parts.specs.declared.accesses.Accesses.{Accesses}
use Rattle.sia_parts.specs.Accesses.{SawPosition}
use Rattle.sia_graph.specs.Extremes.{HasRwEdge}
use Rattle.sia_graph.specs.KeyBlocks.{IsOver}
use Rattle.sia_graph.specs.Makers.{IsNextMaker}
use Rattle.sia_graph.specs.Passed.{IsOwnPassed, IsPassed}

-- the number is the greatest that has P, or 0 where none has
abbrev pub IsLastOf : (ℕ → Type 0) → ℕ → Type 0
IsLastOf P last = (x : ℕ) → 0 < x → (x ≤ last) ↔ ((y : ℕ) × P y × (x ≤ y))

-- number i made the next version after position p, which stands at position e
abbrev pub IsNextOwn : List Event → ℕ → ℕ → ℕ → Type 0
IsNextOwn h i p e = (v : KeyVersion) × (w : KeyVersion) × IsAtPosition h p v × IsAtPosition h e w × (w.key ≡ v.key) × (0 < w.commit) × IsNextVersion h v.key v.commit w.txn × IsCommittedAt h i w.txn

-- number i, who looked at the version at position p, stands there, or where it made the next version
abbrev pub StandsAt : List Event → ℕ → ℕ → ℕ → Type 0
StandsAt h i p e = ((e ≡ p) × ¬ IsNextMaker h p i) ⊎ IsNextOwn h i p e

-- number i saw position p, or passed over its key, of which it made the first version
abbrev pub IsLookAt : List Event → Accesses → ℕ → ℕ → Type 0
IsLookAt h a i p = SawPosition a i p ⊎ ((j : ℕ) × (v : KeyVersion) × IsOwnPassed h a i j × IsAtPosition h p v × IsKeyAt h j v.key × (v.commit ≡ 0))

-- the table is raised to a number where number i, who looked at positions, stands, and nowhere else
pub record IsRaised (h : List Event) (i : ℕ) (IsLook : ℕ → Type 0) (old new : List ℕ) (to : ℕ) : Type 0 where
  pub long : length new ≡ length old
  pub kept : (e : ℕ) → slice_index old e ≤ slice_index new e
  pub sound : (e x : ℕ) → x ≤ slice_index new e → (x ≤ slice_index old e) ⊎ ((p : ℕ) × IsLook p × StandsAt h i p e × (x ≤ to))
  pub has : (p : ℕ) → IsLook p → (e : ℕ) × StandsAt h i p e × (to ≤ slice_index new e)

-- for each of the first n numbers its value is marked where it stands, and there are no other marks
pub record AreSeenMarks (h : List Event) (a : Accesses) (values : List ℕ) (n : ℕ) (seen : List ℕ) : Type 0 where
  pub long : ArePositions h (length seen)
  pub sound : (e x : ℕ) → 0 < x → x ≤ slice_index seen e → (i : ℕ) × (t : ℕ) × (p : ℕ) × IsCommittedAt h i t × IsLookAt h a i p × StandsAt h i p e × (x ≤ slice_index values i)
  pub has : (i t p : ℕ) → i < n → IsCommittedAt h i t → IsLookAt h a i p → (e : ℕ) × StandsAt h i p e × (slice_index values i ≤ slice_index seen e)

-- a mark of at least x is with a block over key number j
abbrev pub IsMarkedOver : ℕ → List ℕ → ℕ → ℕ → Type 0
IsMarkedOver size most j x = (b : ℕ) × IsOver size b j × (0 < b) × (x ≤ slice_index most b)

-- the marks over a key are those of the first n numbers that passed over it, but of who made its first version
pub record ArePassedMarks (h : List Event) (a : Accesses) (values : List ℕ) (size n : ℕ) (most : List ℕ) : Type 0 where
  pub long : length most ≡ 2 * size
  pub each : (j x : ℕ) → j < size → 0 < x → IsMarkedOver size most j x ↔ ((i : ℕ) × (t : ℕ) × (i < n) × IsCommittedAt h i t × IsPassed h a i j × (x ≤ slice_index values i))

-- before the version at position q a mark of at least x stands at its key, or is with a block over the key
abbrev pub IsMarkedBefore : List Event → ℕ → List ℕ → List ℕ → ℕ → KeyVersion → ℕ → Type 0
IsMarkedBefore h size seen most q v x = ((e : ℕ) × (w : KeyVersion) × (e < q) × IsAtPosition h e w × (w.key ≡ v.key) × (x ≤ slice_index seen e))
    ⊎ ((j : ℕ) × IsKeyAt h j v.key × IsMarkedOver size most j x)

-- for each position but those of version 0 the greatest of these
pub record AreLastBefore (h : List Event) (size : ℕ) (seen most late : List ℕ) : Type 0 where
  pub long : length late ≡ length seen
  pub each : (q : ℕ) (v : KeyVersion) → IsAtPosition h q v → 0 < v.commit → (x : ℕ) → 0 < x → (x ≤ slice_index late q) ↔ IsMarkedBefore h size seen most q v x

-- y is the value of one with an rw edge to t at key k
abbrev pub EntersAt : List Event → List ℕ → ℕ → ℕ → ℕ → Type 0
EntersAt h values t k y = (i : ℕ) × (r : ℕ) × IsCommittedAt h i r × RwEdge h r t k × (slice_index values i ≡ y)

-- at each position but those of version 0 the greatest value of those with an rw edge to who made the version, at its key
pub record AreLate (h : List Event) (values late : List ℕ) : Type 0 where
  pub long : ArePositions h (length late)
  pub each : (q : ℕ) (v : KeyVersion) → IsAtPosition h q v → 0 < v.commit → IsLastOf (EntersAt h values v.txn v.key) (slice_index late q)

-- y is the value of one with an rw edge to t
abbrev pub Enters : List Event → List ℕ → ℕ → ℕ → Type 0
Enters h values t y = (i : ℕ) × (r : ℕ) × IsCommittedAt h i r × HasRwEdge h r t × (slice_index values i ≡ y)

-- the commits of the committed transactions, by their numbers
abbrev pub AreCommits : List Event → List ℕ → Type 0
AreCommits h commits = (i t : ℕ) → IsCommittedAt h i t → CommitsAt h t (slice_index commits i)
