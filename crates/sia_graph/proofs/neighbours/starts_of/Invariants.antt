-- The numbers are as they should be, and those of the next positions will be.
use Rattle.sia_graph.specs.Found.{AreFirstStarts}
use Rattle.sia_graph.proofs.OfNeighbours.Stops.{StartFrom}
use Rattle.sia_graph.proofs.neighbours.starts_of.Given as goal

abbrev pub invariant-loop-position : goal.invariant-loop-position
invariant-loop-position l = AreFirstStarts l.index l.starts.items × StartFrom l.index l.position l.least
