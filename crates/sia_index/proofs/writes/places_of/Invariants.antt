-- The places of the writes behind those that are left.
use Rattle.sia_index.specs.Tables.{AreWritePlaces}
use Rattle.sia_index.proofs.writes.places_of.Given as goal

abbrev pub invariant-loop-before : goal.invariant-loop-before
invariant-loop-before l = AreWritePlaces l.log l.before l.places.items
