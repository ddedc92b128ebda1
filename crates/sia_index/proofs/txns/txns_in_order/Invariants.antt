-- The rows so far are those of the first numbers.
use Rattle.sia_events.specs.Numbering.{txns_of}
use Rattle.sia_events.specs.Transactions.{HasEvent}
use Rattle.sia_index.proofs.TxnTables.Collected.{HoldsBelow}
use Rattle.sia_index.proofs.Shared.NumberedNames.{IsRowOf}
use Rattle.sia_index.proofs.txns.txns_in_order.Given as goal

abbrev pub invariant-loop-number : goal.invariant-loop-number
invariant-loop-number l = HoldsBelow (IsRowOf (HasEvent l.log) (txns_of l.log)) l.number l.rows.items
