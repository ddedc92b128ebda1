-- No write of the key stands from there on.
use Rattle.std.proofs.Common.{◌≡◌, ℕ, ◌<◌, Some, slice_get}
use Rattle.sia_events.specs.declared.log.WriteRow.{WriteRow}
use Rattle.sia_events.specs.OwnWrites.{IsOwn}
use Rattle.sia_events.proofs.own_writes.OwnWrites.find.Given as goal

abbrev pub invariant-loop-at : goal.invariant-loop-at
invariant-loop-at l = record {
  own : IsOwn l.rows l.txn l.at;
  none : (n : ℕ) (w : WriteRow) → slice_get l.rows n ≡ Some w → w.txn ≡ l.txn → w.key ≡ l.key → n < l.at;
}

abbrev pub decreases-loop-at : goal.decreases-loop-at
decreases-loop-at l = l.at
