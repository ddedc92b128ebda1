-- The bytes of the piece so far are passed, up to the last token that is to be passed.
use Rattle.std.proofs.Common.{◌≤◌, ◌-◌, length, take}
use Rattle.sia_events.proofs.TokenPlaces.Stopping.{PassesPiece}
use Rattle.sia_events.proofs.locating.Locator.feed.Given as goal

abbrev pub invariant-loop-at : goal.invariant-loop-at
invariant-loop-at l = record { within : l.at ≤ length l.piece; passes : PassesPiece l.initial.self l.self l.piece (take l.at l.piece) l.last }

abbrev pub decreases-loop-at : goal.decreases-loop-at
decreases-loop-at l = length l.piece - l.at
