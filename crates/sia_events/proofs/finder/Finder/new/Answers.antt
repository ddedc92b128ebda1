use Rattle.sia_events.proofs.LogRows.Finders.{nothing_found}
use Rattle.sia_events.proofs.finder.Finder.new.Goals as goal

pub returns : goal.returns
returns c = nothing_found _
