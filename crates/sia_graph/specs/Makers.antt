-- Who made the versions that stand at positions, by the numbers of committed transactions.
use Rattle.std.specs.Prelude.{ℕ, ◌<◌, List}
use Rattle.sia_events.specs.declared.event.Event.{Event}
use Rattle.sia_events.specs.NarrowDependencies.{CommitsVersion, IsNextVersion}
use Rattle.sia_index.specs.declared.info.KeyVersion.{KeyVersion}
use Rattle.sia_index.specs.Info.{IsKeyAt}
use Rattle.sia_index.specs.Numbers.{IsCommittedAt}
use Rattle.sia_index.specs.Positions.{IsAtPosition}

-- number i made the version at position q
abbrev pub IsMaker : List Event → ℕ → ℕ → Type 0
IsMaker h q i = (v : KeyVersion) × IsAtPosition h q v × (0 < v.commit) × IsCommittedAt h i v.txn

-- number i made the next version of its key
abbrev pub IsNextMaker : List Event → ℕ → ℕ → Type 0
IsNextMaker h q i = (v : KeyVersion) × IsAtPosition h q v × (u : ℕ) × IsNextVersion h v.key v.commit u × IsCommittedAt h i u

-- the version at position q isn't version 0, and number i made the one before it
abbrev pub IsMakerBefore : List Event → ℕ → ℕ → Type 0
IsMakerBefore h q i = (v : KeyVersion) × IsAtPosition h q v × (t : ℕ) × (c : ℕ) × CommitsVersion h v.key t c × IsNextVersion h v.key c v.txn × (c < v.commit) × IsCommittedAt h i t

-- number i made the first version of key number j
abbrev pub IsFirstMaker : List Event → ℕ → ℕ → Type 0
IsFirstMaker h j i = (k : ℕ) × (u : ℕ) × IsKeyAt h j k × IsNextVersion h k 0 u × IsCommittedAt h i u
