-- The rows have what the events so far tell; then the rows so far have all that is to be known.
use Rattle.std.proofs.Common.{◌+◌}
use Rattle.si_audit.specs.Bounds.{EachTxn, IsKnownTo}
use Rattle.si_audit.proofs.Shared.KnownRows.{AreKnownFrom}
use Rattle.si_audit.proofs.snapshots.bounds_of.Given as goal

abbrev pub invariant-loop-before : goal.invariant-loop-before
invariant-loop-before l = EachTxn (λ t. IsKnownTo l.log t (l.before + 1)) l.log l.all.items

abbrev pub invariant-loop-number : goal.invariant-loop-number
invariant-loop-number l = AreKnownFrom l.log l.number l.all.items
