use Rattle.std.proofs.Common.{arith}
use Rattle.sia_graph.proofs.SsiTest.Raised.{raised_all, raised_more}
use Rattle.sia_graph.proofs.ssi.raise_all.Goals as goal

pub loop-place-preserved : goal.loop-place-preserved
loop-place-preserved c = grind (arith, raised_more)

pub returns-clause-raised : goal.returns-clause-raised
returns-clause-raised c = raised_all c.args.table.now c.args.places.now c.loop-place.place-index c.args.to c.loop-place.table (omega arith) c.loop-place.invariant
