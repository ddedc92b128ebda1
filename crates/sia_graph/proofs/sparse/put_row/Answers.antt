use Rattle.std.proofs.Common.{arith}
use Rattle.std.proofs.lemmas.List.{take_more}
use Rattle.sia_parts.proofs.EdgeRows.AccessRows.{put_last}
use Rattle.sia_graph.proofs.sparse.put_row.Goals as goal

pub loop-node-preserved : goal.loop-node-preserved
loop-node-preserved c = grind (arith, put_last, take_more)
