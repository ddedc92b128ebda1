use Rattle.std.proofs.Common.{arith}
use Rattle.sia_pool.proofs.RuleLemmas.{takes, finds_few}
use Rattle.sia_pool.proofs.stealer.Stealer.next_part.Goals as goal

pub steal_as-requires-clause-takes : goal.steal_as-requires-clause-takes
steal_as-requires-clause-takes c = takes _ _ c.args.self.now.live

pub steal_as-requires-clause-empty : goal.steal_as-requires-clause-empty
steal_as-requires-clause-empty c = finds_few _ _ _ (omega (arith, c.args.self.now.fifo)) c.args.self.now.live
