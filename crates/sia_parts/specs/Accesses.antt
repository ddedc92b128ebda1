-- What committed transactions saw of the written keys, by their numbers: the positions of the versions that they looked at, and
-- range misses, which are stretches of keys at which a range read saw version 0.
use Rattle.std.specs.Prelude.{◌≡◌, ◌⊎◌, ℕ, ◌<◌, ◌≤◌, List, Contains, Some, length}
use Rattle.std.specs.List.{slice_get}
use Rattle.sia_events.specs.declared.event.Event.{Event}
use Rattle.sia_events.specs.Lists.{ListsAscending}
use Rattle.sia_events.specs.NarrowDependencies.{Looked}
use Rattle.sia_events.specs.Transactions.{IsCommitted, Wrote}
use Rattle.sia_index.specs.declared.info.KeyVersion.{KeyVersion}
use Rattle.sia_index.specs.Info.{IsKeyAt}
use Rattle.sia_index.specs.Numbers.{IsCommittedAt}
use Rattle.sia_index.specs.Positions.{IsAtPosition}
use Rattle.sia_parts.specs.declared.accesses.Accesses.{Accesses}
use Rattle.sia_parts.specs.declared.accesses.RangeMiss.{RangeMiss}
use Rattle.sia_parts.specs.Sights.{FromSome}

-- number i saw the version at position q
abbrev pub SawPosition : Accesses → ℕ → ℕ → Type 0
SawPosition a i q = (positions : List ℕ) × (slice_get a.saw i ≡ Some positions) × Contains positions q

-- number i has the range miss
abbrev pub HasMiss : Accesses → ℕ → RangeMiss → Type 0
HasMiss a i miss = (misses : List RangeMiss) × (slice_get a.missed i ≡ Some misses) × Contains misses miss

-- number i passed over key number j
abbrev pub Missed : Accesses → ℕ → ℕ → Type 0
Missed a i j = (miss : RangeMiss) × HasMiss a i miss × (miss.from ≤ j) × (j < miss.to)

-- number i is that of t, which looked at the version of k that stands at position q as of c
pub record IsLook (h : List Event) (a : Accesses) (i q t k c : ℕ) : Type 0 where
  pub saw : SawPosition a i q
  pub txn : IsCommittedAt h i t
  pub version : (v : KeyVersion) × IsAtPosition h q v × (v.key ≡ k) × (v.commit ≡ c)

-- number i is that of t, which passed over k
pub record IsPassing (h : List Event) (a : Accesses) (i t k : ℕ) : Type 0 where
  pub txn : IsCommittedAt h i t
  pub key : (j : ℕ) × IsKeyAt h j k × Missed a i j

-- what the committed transactions saw at the written keys that lie within
pub record AreAccesses (h : List Event) (Within : ℕ → Type 0) (a : Accesses) : Type 0 where
  pub saw_long : (txns : List ℕ) → ListsAscending (IsCommitted h) txns → length a.saw ≡ length txns
  pub missed_long : (txns : List ℕ) → ListsAscending (IsCommitted h) txns → length a.missed ≡ length txns
  pub saw : (i q : ℕ) → SawPosition a i q → (t k c : ℕ) × IsLook h a i q t k c × Looked h t k c × Within k
  pub missed : (i j : ℕ) → Missed a i j → (t k : ℕ) × IsCommittedAt h i t × IsKeyAt h j k × Looked h t k 0 × Within k
  pub some : (i : ℕ) (miss : RangeMiss) → HasMiss a i miss → miss.from < miss.to
  pub each : (t k c u : ℕ) → Looked h t k c → Wrote h u k → Within k
      → ((i q : ℕ) × IsLook h a i q t k c) ⊎ ((c ≡ 0) × (i : ℕ) × IsPassing h a i t k)

-- key number j is one of those missed
abbrev pub IsMissAt : RangeMiss → ℕ → Type 0
IsMissAt miss j = (miss.from ≤ j) × (j < miss.to)

-- reader and key have these numbers, and the reader passed over the key in this miss
abbrev pub IsPassedBy : ℕ × RangeMiss → ℕ × ℕ → Type 0
IsPassedBy row at = (row.0 ≡ at.0) × IsMissAt row.1 at.1

-- number i is that of t, and at position q stands the version of k as of c
abbrev pub IsLookAt : List Event → ℕ → ℕ → ℕ → ℕ → ℕ → Type 0
IsLookAt h i q t k c = IsCommittedAt h i t × (v : KeyVersion) × IsAtPosition h q v × (v.key ≡ k) × (v.commit ≡ c)

-- the same as accesses, where positions and range misses stand with the numbers of those who saw them
pub record AreSights (h : List Event) (Within : ℕ → Type 0) (looks : List (ℕ × ℕ)) (misses : List (ℕ × RangeMiss)) : Type 0 where
  pub saw : (i q : ℕ) → Contains looks (i, q) → (t k c : ℕ) × IsLookAt h i q t k c × Looked h t k c × Within k
  pub missed : (i j : ℕ) → FromSome IsPassedBy misses (i, j) → (t k : ℕ) × IsCommittedAt h i t × IsKeyAt h j k × Looked h t k 0 × Within k
  pub some : (i : ℕ) (miss : RangeMiss) → Contains misses (i, miss) → miss.from < miss.to
  pub each : (t k c u : ℕ) → Looked h t k c → Wrote h u k → Within k
      → ((i q : ℕ) × Contains looks (i, q) × IsLookAt h i q t k c) ⊎ ((c ≡ 0) × (i j : ℕ) × FromSome IsPassedBy misses (i, j) × IsCommittedAt h i t × IsKeyAt h j k)
