-- The bytes so far are shown.
use Rattle.std.proofs.Common.{◌≡◌, ◌++◌, take, flat_map}
use Rattle.sia_events.specs.Locations.{shown_byte}
use Rattle.sia_events.proofs.shown.push_shown.Given as goal

abbrev pub invariant-loop-byte : goal.invariant-loop-byte
invariant-loop-byte l = l.out.items ≡ l.initial.out.items ++ flat_map shown_byte (take l.byte-index l.byte-items)
