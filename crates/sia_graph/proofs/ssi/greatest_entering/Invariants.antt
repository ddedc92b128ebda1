use Rattle.std.proofs.Common.{ℕ, List}
use Rattle.sia_graph.specs.Late.{AreLate, IsLastOf}
use Rattle.sia_graph.proofs.SsiTest.Entering.{EntersByFirst}
use Rattle.sia_graph.proofs.ssi.greatest_entering.Given as goal

abbrev pub invariant-loop-position : goal.invariant-loop-position
invariant-loop-position l = (values : List ℕ) → AreLate l.index values l.late → IsLastOf (EntersByFirst l.index values l.position-items l.position-index) l.greatest
