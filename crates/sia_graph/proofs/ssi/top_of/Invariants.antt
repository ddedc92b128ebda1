use Rattle.std.proofs.Common.{◌+◌}
use Rattle.sia_graph.proofs.SsiTest.Marks.{IsRising}
use Rattle.sia_graph.proofs.ssi.top_of.Given as goal

abbrev pub invariant-loop-block : goal.invariant-loop-block
invariant-loop-block l = IsRising l.size (l.size + l.key) l.most l.block l.top

abbrev pub decreases-loop-block : goal.decreases-loop-block
decreases-loop-block l = l.block
