-- The places of the writes so far.
use Rattle.std.specs.Prelude.{slice_index}
use Rattle.sia_index.specs.Rows.{IsColumn}
use Rattle.sia_index.proofs.writes.own_places_of.Given as goal

abbrev pub invariant-loop-at : goal.invariant-loop-at
invariant-loop-at l = IsColumn (λ at. slice_index l.places (slice_index l.writes at)) l.at-items l.at-index l.own.items
