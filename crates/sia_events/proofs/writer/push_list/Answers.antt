-- One more listed key after its separator.
use Rattle.std.proofs.Common.{arith}
use Rattle.std.proofs.lemmas.List.{take_more, length-take}
use Rattle.sia_events.proofs.Writing.Writing.{list_step, pair_put}
use Rattle.sia_events.proofs.writer.push_list.Goals as goal
use Rattle.sia_events.proofs.writer.push_list.Goals.{then-i-eq0, else-i-eq0}

pub loop-i-preserved : goal.loop-i-preserved
loop-i-preserved c = grind (arith, length-take, then-i-eq0, else-i-eq0, take_more, list_step, pair_put)
