-- What is asked of is there.
use Rattle.std.proofs.Common.{refl}
use Rattle.sia_parts.proofs.EdgeRows.PositionOrder.{has_position}
use Rattle.sia_parts.proofs.tests.index.is_answered.Goals as goal

pub is_newest-requires : goal.is_newest-requires
is_newest-requires c = has_position _ _ _ c.position_count.ensures c.if-position-position_count.true

pub is_at-requires : goal.is_at-requires
is_at-requires c = has_position _ _ _ c.position_count-in-At.ensures c.if-position-position_count-2.true

pub made_by-requires : goal.made_by-requires
made_by-requires c = (_, (_, c.committed.ensures, c.if-txn-committed.true, refl))
