use Rattle.sia_pool.proofs.RuleLemmas.{takes, finds}
use Rattle.sia_pool.proofs.owner.Owner.next_part.Goals as goal

pub pop_as-requires-clause-fifo : goal.pop_as-requires-clause-fifo
pop_as-requires-clause-fifo c = λ _. takes _ _ c.args.self.now.live

pub pop_as-requires-clause-empty : goal.pop_as-requires-clause-empty
pop_as-requires-clause-empty c = finds _ _ c.args.self.now.live
