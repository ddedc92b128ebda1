-- The list of pivots, each with its neighbours. Pivots: Cahill, Roehm and Fekete (2008).
use Rattle.std.specs.Prelude.{List, map, All}
use Rattle.sia_events.specs.declared.event.Event.{Event}
use Rattle.sia_events.specs.Lists.{ListsAscending}
use Rattle.sia_events.specs.DangerousStructures.{IsPivot, IsVulnerable, IsFirst}
use Rattle.sia_graph.specs.declared.pivot.Pivot.{Pivot}

-- the entry lists each overlapping transaction that has an rw edge to its own, each to which that has one, and those of
-- the latter that commit first in a dangerous structure
pub record ListsNeighbours (h : List Event) (p : Pivot) : Type 0 where
  pub ins : ListsAscending (λ t. IsVulnerable h t p.txn) p.ins
  pub outs : ListsAscending (λ t. IsVulnerable h p.txn t) p.outs
  pub firsts : ListsAscending (λ t. IsFirst h p.txn t) p.firsts

-- an entry for each pivot, ascending, and no other
pub record ArePivots (h : List Event) (found : List Pivot) : Type 0 where
  pub txns : ListsAscending (IsPivot h) (map (λ p. p.txn) found)
  pub neighbours : All (ListsNeighbours h) found
