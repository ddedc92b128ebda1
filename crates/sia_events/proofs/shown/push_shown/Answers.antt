-- The bytes that are gone through are the first 60.
use Rattle.std.proofs.Common.{take, flat_map, arith}
use Rattle.sia_events.specs.Locations.{shown_byte}
use Rattle.sia_events.proofs.Shared.Following.{take_least}
use Rattle.sia_events.proofs.Writing.Flattened.{spelled_more}
use Rattle.sia_events.proofs.shown.push_shown.Goals as goal
use Rattle.std.proofs.lemmas.List.{take_all}

pub returns : goal.returns
returns c = grind (arith, take_all, take_least, flat_map)

pub loop-byte-preserved : goal.loop-byte-preserved
loop-byte-preserved c = spelled_more shown_byte c.args.out.now.items c.loop-byte.out.items c.push_byte.new.out.items (take c.min-len.result c.args.token.now) c.loop-byte.byte-index _ c.loop-byte-test.true c.loop-byte.invariant c.in_ok-push_byte.ensures
