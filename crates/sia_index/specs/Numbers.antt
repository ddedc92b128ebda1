-- The numbers of committed transactions: the place of each in the ascending list of these.
use Rattle.std.specs.Prelude.{◌≡◌, ◌<◌, ℕ, List, slice_index, length}
use Rattle.sia_events.specs.declared.event.Event.{Event}
use Rattle.sia_events.specs.Lists.{ListsAscending}
use Rattle.sia_events.specs.Transactions.{IsCommitted}

-- t is number i of the committed transactions, counted from 0
abbrev pub IsCommittedAt : List Event → ℕ → ℕ → Type 0
IsCommittedAt h i t = (txns : List ℕ) × ListsAscending (IsCommitted h) txns × (i < length txns) × (slice_index txns i ≡ t)
