-- The key is there.
use Rattle.sia_events.proofs.Shared.Drafted.{has_key}
use Rattle.sia_events.proofs.draft.Draft.key.Goals as goal

pub returns-in-Some-clause-has : goal.returns-in-Some-clause-has
returns-in-Some-clause-has c = has_key c.args.self.now.tables c.args.name _ (c.in-Some.ensures.some c.requires)
