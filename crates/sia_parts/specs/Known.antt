-- What is known of who reads.
use Rattle.std.specs.Prelude.{◌≡◌, ◌↔◌, ◌<◌, ℕ, ⊤, List, Option, Some, IsSome, MatchOption, length}
use Rattle.sia_events.specs.declared.event.Event.{Event}
use Rattle.sia_events.specs.Numbering.{names_of, txns_of, txn_at}
use Rattle.sia_events.specs.Transactions.{IsCommitted}
use Rattle.sia_index.specs.Info.{IsReader}
use Rattle.sia_index.specs.Numbers.{IsCommittedAt}
use Rattle.sia_parts.specs.declared.audit.sights.Known.{Known}

-- what is known of who reads: the log's transaction, what an index knows of it, and its number, if it committed
pub record IsKnown (h : List Event) (known : Known) : Type 0 where
  pub few : known.txn < length (txns_of h)
  pub name : known.reader.txn ≡ txn_at (names_of h) known.txn
  pub reader : IsReader h known.reader.txn known.reader.place known.reader
  pub number : (i : ℕ) → (known.number ≡ Some i) ↔ IsCommittedAt h i known.reader.txn
  pub ends : IsSome known.number ↔ IsCommitted h known.reader.txn

-- what is known of who read last, if it is known
abbrev pub IsLastKnown : List Event → Option Known → Type 0
IsLastKnown h last = MatchOption last ⊤ (IsKnown h)
