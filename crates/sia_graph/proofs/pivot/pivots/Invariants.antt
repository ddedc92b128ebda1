use Rattle.std.proofs.Common.{[], ◌∷◌, All, map}
use Rattle.sia_events.specs.DangerousStructures.{IsPivot}
use Rattle.sia_parts.specs.Sights.{Adds}
use Rattle.sia_parts.proofs.Shared.Adding.{FromFirst}
use Rattle.sia_graph.specs.declared.pivot.Pivot.{Pivot}
use Rattle.sia_graph.specs.Pivots.{ListsNeighbours}
use Rattle.sia_graph.proofs.OfPivots.Picked.{ArePicked}
use Rattle.sia_graph.proofs.OfPivots.Vulnerable.{IsLinkOf}
use Rattle.sia_graph.proofs.pivot.pivots.Given as goal

abbrev pub invariant-loop-e : goal.invariant-loop-e
invariant-loop-e l = Adds (FromFirst (IsLinkOf l.ix) l.e-items l.e-index) [] l.links.items

abbrev pub invariant-loop-txn : goal.invariant-loop-txn
invariant-loop-txn l = ArePicked (λ t. t ∷ []) (IsPivot l.ix) l.txns l.txn (map (λ (p : Pivot). p.txn) l.found.items) × All (ListsNeighbours l.ix) l.found.items
