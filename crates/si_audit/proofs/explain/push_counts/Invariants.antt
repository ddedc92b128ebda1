use Rattle.std.proofs.Common.{[], take}
use Rattle.si_audit.proofs.OfReasons.Counting.{AreBegun, AreCounted, rows_of}
use Rattle.si_audit.proofs.explain.push_counts.Given as goal

abbrev pub invariant-loop-b : goal.invariant-loop-b
invariant-loop-b l = AreCounted l.of.history.now (take l.b-index l.b-items) [] l.counts

abbrev pub invariant-loop-b-2 : goal.invariant-loop-b-2
invariant-loop-b-2 l = AreCounted l.of.history.now l.j.bad_reads.items (take l.b-index l.b-items) l.counts

abbrev pub invariant-loop-name : goal.invariant-loop-name
invariant-loop-name l = AreBegun (take l.name (rows_of l.counts)) l.fn.out.items l.out.items l.before l.end
