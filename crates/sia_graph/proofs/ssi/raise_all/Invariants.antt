use Rattle.sia_graph.proofs.SsiTest.Raised.{HasRaised}
use Rattle.sia_graph.proofs.ssi.raise_all.Given as goal

abbrev pub invariant-loop-place : goal.invariant-loop-place
invariant-loop-place l = HasRaised l.fn.table l.places l.place-index l.to l.table
