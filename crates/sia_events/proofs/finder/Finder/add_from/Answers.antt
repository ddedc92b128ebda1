use Rattle.sia_events.proofs.LogRows.Finders.{below_none}
use Rattle.sia_events.proofs.finder.Finder.add_from.Goals as goal

pub returns-then-len-rows : goal.returns-then-len-rows
returns-then-len-rows g c = λ finds. c.put_from.ensures (below_none _ _)
