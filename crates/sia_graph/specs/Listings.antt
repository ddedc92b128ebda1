-- That what is listed of a history is finite, as a statement.
use Rattle.std.specs.Prelude.{List, ⊤}
use Rattle.sia_events.specs.declared.event.Event.{Event}
use Rattle.sia_parts.specs.declared.finding.Edge.{Edge}
use Rattle.sia_parts.specs.Findings.{ListsEdges}
use Rattle.sia_graph.specs.declared.pivot.Pivot.{Pivot}
use Rattle.sia_graph.specs.Pivots.{ArePivots}

-- some list has all edges of the history, and some list all its pivots
abbrev pub ListingLaw : List Event → Type 0
ListingLaw h = ((edges : List Edge) × ListsEdges h (λ _. ⊤) edges) × ((pivots : List Pivot) × ArePivots h pivots)
