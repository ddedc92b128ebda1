use Rattle.std.proofs.Common.{arith}
use Rattle.sia_events.proofs.Shared.LogReads.{few_rows}
use Rattle.sia_events.proofs.log.Log.len.Goals as goal

pub overflow_cast-result : goal.overflow_cast-result
overflow_cast-result c = let few = few_rows c.self.inside.tables c.self.invariant.1 in omega (arith, c.len.ensures)
