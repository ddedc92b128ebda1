use Rattle.std.proofs.Common.{arith}
use Rattle.sia_pool.proofs.RuleLemmas.{forks}
use Rattle.sia_pool.proofs.line.new_stealer.Goals as goal

pub another-pass-requires : goal.another-pass-requires
another-pass-requires g c = grind (arith, forks)
