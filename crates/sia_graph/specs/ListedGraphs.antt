-- A list of edges between listed transactions, as a graph of their places.
use Rattle.std.specs.Prelude.{◌≡◌, ◌↔◌, ℕ, ◌<◌, List, [], Contains, length, slice_index, slice_index_or}
use Rattle.sia_parts.specs.declared.finding.Edge.{Edge}
use Rattle.sia_graph.specs.Graphs.{IsGraph}
use Rattle.sia_graph.specs.Orders.{Leads}
use Rattle.sia_graph.specs.declared.order.Graph.{Graph}

-- the edge leads to the id at place q
abbrev pub IsTargetOf : List ℕ → Edge → ℕ → Type 0
IsTargetOf ids e q = (q < length ids) × (slice_index ids q ≡ e.dst)

-- one place leads to another, as told at the first, if an edge leads from the one id to the other; nothing is told at the second
pub record IsGraphOf (ids : List ℕ) (edges : List Edge) (g : Graph) : Type 0 where
  pub graph : IsGraph (length ids) g
  pub at_targets : (p q : ℕ) → p < length ids → Contains (slice_index_or g.targets p []) q ↔ ((q < length ids) × Leads (Contains edges) (slice_index ids p) (slice_index ids q))
  pub no_sources : (q : ℕ) → slice_index_or g.sources q [] ≡ []
