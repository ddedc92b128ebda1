use Rattle.std.proofs.Common.{◌≡◌, []}
use Rattle.sia_parts.specs.Sights.{Adds}
use Rattle.sia_parts.proofs.Shared.Adding.{FromFirst}
use Rattle.sia_graph.specs.ListedGraphs.{IsTargetOf}
use Rattle.sia_graph.proofs.Shared.RowLists.{AreLists}
use Rattle.sia_graph.proofs.Settling.EdgesListed.{AreTargetsAt}
use Rattle.sia_graph.proofs.listed_edges.graph_of.Given as goal

abbrev pub invariant-loop-id : goal.invariant-loop-id
invariant-loop-id l = AreLists (AreTargetsAt l.ids l.edges) l.targets l.id-index × AreLists (λ q row. row ≡ []) l.sources l.id-index

abbrev pub invariant-loop-edge : goal.invariant-loop-edge
invariant-loop-edge l = Adds (FromFirst (IsTargetOf l.ids) l.edge-items l.edge-index) [] l.row.items
