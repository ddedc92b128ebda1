use Rattle.std.proofs.Common.{refl}
use Rattle.sia_events.proofs.LogRows.OwnWrites.{none_tracked}
use Rattle.sia_events.proofs.own_writes.OwnWrites.new.Goals as goal

pub returns-clause-none : goal.returns-clause-none
returns-clause-none c = none_tracked _ c.in_ok-with_capacity.ensures.items c.in_ok-with_capacity-2.ensures.items refl
