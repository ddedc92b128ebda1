-- The nodes from here on have the least numbers below them.
use Rattle.sia_index.specs.Minima.{AreLeaves}
use Rattle.sia_index.proofs.VersionRows.Trees.{TreeFrom}
use Rattle.sia_index.proofs.minima.minima_of.Given as goal

abbrev pub invariant-loop-i : goal.invariant-loop-i
invariant-loop-i g l = AreLeaves g.O.By.by l.rows l.i l.size l.minima.items

abbrev pub invariant-loop-node : goal.invariant-loop-node
invariant-loop-node g l = TreeFrom g.O.By.by l.rows l.size l.node l.minima.items
