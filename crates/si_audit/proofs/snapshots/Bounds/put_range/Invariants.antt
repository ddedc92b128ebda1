-- What is known goes up to number `next`: the keys of the pairs so far have numbers below it, and those of the others don't.
use Rattle.si_audit.specs.Bounds.{Sees}
use Rattle.si_audit.proofs.Shared.RowTells.{CoveredTo, IsRangeSeen}
use Rattle.si_audit.proofs.snapshots.Bounds.put_range.Given as goal

abbrev pub invariant-loop-pair : goal.invariant-loop-pair
invariant-loop-pair l = record {
  range : IsRangeSeen l.log l.txn l.place l.listed l.lo l.hi l.initial.next l.end;
  covered : CoveredTo l.log l.listed l.lo l.hi l.initial.next l.end l.pair-index l.next;
  sees : Sees l.log l.txn l.place l.initial.next l.place l.next l.fn.self l.self;
}
