-- Each number of a row so far has its place.
use Rattle.sia_index.specs.declared.names.Numbered.{Numbered}
use Rattle.sia_index.proofs.TxnTables.PlacesOf.{PlacesSoFar}
use Rattle.sia_index.proofs.names.places_of.Given as goal

abbrev pub invariant-loop-i : goal.invariant-loop-i
invariant-loop-i g l = PlacesSoFar (λ (row : Numbered g.row.N.Denot). row.number) l.rows l.i l.count l.places.items
