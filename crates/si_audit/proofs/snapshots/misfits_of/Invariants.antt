use Rattle.std.proofs.Common.{[], take}
use Rattle.si_audit.proofs.Shared.Marking.{AreTold}
use Rattle.si_audit.proofs.snapshots.misfits_of.Given as goal

abbrev pub invariant-loop-b : goal.invariant-loop-b
invariant-loop-b l = AreTold l.log (take l.b-index l.b-items) [] l.all.items

abbrev pub invariant-loop-b-2 : goal.invariant-loop-b-2
invariant-loop-b-2 l = AreTold l.log l.j.bad_reads.items (take l.b-index l.b-items) l.all.items
