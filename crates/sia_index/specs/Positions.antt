-- Positions: all versions of the written keys stand in one list, by key and then by commit, version 0 of each key first, as of 0.
-- A position is a place in it, counted from 0.
use Rattle.std.specs.Prelude.{◌≡◌, ◌⊎◌, ℕ, zero, suc, ◌+◌, ◌<◌, ◌≤◌, List, [], ◌∷◌, Some, length, slice_index_or}
use Rattle.std.specs.List.{slice_get}
use Rattle.sia_events.specs.declared.event.Event.{Event}
use Rattle.sia_events.specs.Lists.{ListsBy}
use Rattle.sia_events.specs.NarrowDependencies.{CommitsVersion, IsNextVersion}
use Rattle.sia_index.specs.Numbers.{IsCommittedAt}
use Rattle.sia_index.specs.Rows.{IsWritten}
use Rattle.sia_index.specs.declared.info.KeyVersion.{KeyVersion}

-- version 0 of a written key, as of 0, or a version that a committed transaction made, as of its commit
abbrev pub IsVersion : List Event → KeyVersion → Type 0
IsVersion h v = (IsWritten h v.key × (v.commit ≡ 0) × (v.txn ≡ 0)) ⊎ CommitsVersion h v.key v.txn v.commit

-- all of them, by key and then by commit
abbrev pub AreAllVersions : List Event → List KeyVersion → Type 0
AreAllVersions h versions = ListsBy (λ v. v.key ∷ v.commit ∷ []) (IsVersion h) versions

-- the version at position q
abbrev pub IsAtPosition : List Event → ℕ → KeyVersion → Type 0
IsAtPosition h q v = (versions : List KeyVersion) × AreAllVersions h versions × (slice_get versions q ≡ Some v)

-- there is a version at position q
abbrev pub HasPosition : List Event → ℕ → Type 0
HasPosition h q = (v : KeyVersion) × IsAtPosition h q v

-- there are so many positions
abbrev pub ArePositions : List Event → ℕ → Type 0
ArePositions h count = (versions : List KeyVersion) × AreAllVersions h versions × (length versions ≡ count)

-- no version of k is committed behind place c
abbrev pub NoneBehind : List Event → ℕ → ℕ → Type 0
NoneBehind h k c = (u : ℕ) (d : ℕ) → CommitsVersion h k u d → d ≤ c

-- the version is the newest of its key as of place c
abbrev pub IsNewestAsOf : List Event → ℕ → KeyVersion → Type 0
IsNewestAsOf h c v = (v.commit ≤ c) × ((u : ℕ) (d : ℕ) → CommitsVersion h v.key u d → d ≤ c → d ≤ v.commit)

-- some version of k is committed up to place c
abbrev pub HasVersionUpTo : List Event → ℕ → ℕ → Type 0
HasVersionUpTo h k c = (u : ℕ) × (d : ℕ) × CommitsVersion h k u d × (d ≤ c)

-- the version behind that at position q is the next of its key and commits there, or there is none and the place is 0
abbrev pub IsCommitBehind : List Event → ℕ → KeyVersion → ℕ → Type 0
IsCommitBehind h q v zero = NoneBehind h v.key v.commit
IsCommitBehind h q v (suc before) = (w : KeyVersion) × IsAtPosition h (q + 1) w × (w.key ≡ v.key) × (w.commit ≡ suc before) × IsNextVersion h v.key v.commit w.txn

-- the other versions of the key of v, which is at position q, that aren't before it stand right behind it, and the numbers are of who made them
pub record AreMakersBehind (h : List Event) (q : ℕ) (v : KeyVersion) (makers : List ℕ) : Type 0 where
  pub each : (i d : ℕ) → i < length makers → (w : KeyVersion) × IsAtPosition h (q + 1 + i) w × (w.key ≡ v.key) × (0 < w.commit) × IsCommittedAt h (slice_index_or makers i d) w.txn
  pub all : (p : ℕ) (w : KeyVersion) → IsAtPosition h p w → w.key ≡ v.key → p ≤ q + length makers
