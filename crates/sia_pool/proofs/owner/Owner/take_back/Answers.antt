use Rattle.std.proofs.Common.{ap}
use Rattle.sia_pool.specs.declared.rule.View.{View}
use Rattle.sia_pool.proofs.RuleLemmas.{merges}
use Rattle.sia_pool.proofs.owner.Owner.take_back.Goals as goal

pub absorb-requires-clause-rule : goal.absorb-requires-clause-rule
absorb-requires-clause-rule c = merges _ _ _ _ c.args.self.now.number c.args.self.now.live c.args.stealer.live (ap (λ (v : View). v.number) c.requires.next)
