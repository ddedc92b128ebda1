use Rattle.std.proofs.Common.{◌≤◌, ◌+◌, ◌*◌}
use Rattle.sia_graph.specs.SparseGraphs.{HasNodes}
use Rattle.sia_graph.proofs.sparse.graph_of.Given as goal

abbrev pub invariant-loop-block : goal.invariant-loop-block
invariant-loop-block l = HasNodes l.evidence.index.now l.evidence.accesses.now l.size l.block l.graph × (l.block ≤ 2 * l.size)

abbrev pub invariant-loop-txn : goal.invariant-loop-txn
invariant-loop-txn l = HasNodes l.evidence.index.now l.evidence.accesses.now l.size (2 * l.size + l.txn) l.graph × (l.txn ≤ l.txn-end)
