-- The places so far are counted from 1.
use Rattle.sia_parts.proofs.ReadLists.AllPlaces.{CountsTo}
use Rattle.sia_parts.proofs.reads.places_of_reads.Given as goal

abbrev pub invariant-loop-place : goal.invariant-loop-place
invariant-loop-place l = CountsTo l.place-index l.initial.place-items l.place-items
