use Rattle.std.proofs.Common.{◌-◌}
use Rattle.sia_graph.proofs.SparseGraphs.KeyBlocks.{IsClimbing}
use Rattle.sia_graph.proofs.SparseGraphs.StretchBlocks.{HasBlocksTo}
use Rattle.sia_graph.proofs.sparse.put_all_blocks.Given as goal

abbrev pub invariant-loop-stretch : goal.invariant-loop-stretch
invariant-loop-stretch l = HasBlocksTo l.size l.stretches l.stretch-index l.initial.blocks.items l.blocks.items

abbrev pub invariant-loop-low : goal.invariant-loop-low
invariant-loop-low l = IsClimbing l.size l.from l.to l.initial.blocks.items l.blocks.items l.low l.high

abbrev pub decreases-loop-low : goal.decreases-loop-low
decreases-loop-low l = l.high - l.low
