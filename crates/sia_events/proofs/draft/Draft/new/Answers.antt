use Rattle.sia_events.proofs.Shared.Drafted.{none_known}
use Rattle.sia_events.proofs.draft.Draft.new.Goals as goal

pub returns-clause-knows : goal.returns-clause-knows
returns-clause-knows c = none_known _ c.in_ok-with_capacity-2.ensures.items c.in_ok-with_capacity-3.ensures.items c.in_ok-with_capacity-4.ensures.items c.in_ok-with_capacity-5.ensures.items c.in_ok-with_capacity-6.ensures.items c.in_ok-with_capacity.ensures.items c.new.ensures c.new-2.ensures c.in_ok-new.ensures.none c.in_ok-with_capacity-7.ensures.items
