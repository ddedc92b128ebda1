use Rattle.std.proofs.Common.{arith, length-append}
use Rattle.sia_pool.proofs.LineLemmas.{line_push}
use Rattle.sia_pool.proofs.RuleLemmas.{pushes}
use Rattle.sia_pool.proofs.line.line_up.Goals as goal

pub giving-preserved : goal.giving-preserved
giving-preserved c = grind (arith, length-append, line_push)

pub push_as-requires-clause-pushes : goal.push_as-requires-clause-pushes
push_as-requires-clause-pushes c = pushes _ _ _ c.loop-part.invariant.view
