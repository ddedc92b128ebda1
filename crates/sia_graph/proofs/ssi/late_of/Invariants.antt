use Rattle.std.proofs.Common.{◌≤◌}
use Rattle.sia_graph.specs.Late.{ArePassedMarks, AreSeenMarks}
use Rattle.sia_graph.proofs.SsiTest.LateEdges.{HasLastTo}
use Rattle.sia_graph.proofs.ssi.late_of.Given as goal

abbrev pub invariant-loop-txn : goal.invariant-loop-txn
invariant-loop-txn l = AreSeenMarks l.evidence.index.now l.evidence.accesses.now l.values l.txn l.seen × ArePassedMarks l.evidence.index.now l.evidence.accesses.now l.values l.size l.txn l.most × (l.txn ≤ l.txn-end)

abbrev pub invariant-loop-position : goal.invariant-loop-position
invariant-loop-position l = HasLastTo l.index l.size l.initial.seen l.most l.position l.seen l.last × (l.position ≤ l.position-end)
