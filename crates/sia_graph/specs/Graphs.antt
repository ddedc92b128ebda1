-- Nodes 0, 1, 2 and so on, and which lead to which: a node leads to its targets, and is led to from its sources.
use Rattle.std.specs.Prelude.{◌≡◌, ◌≢◌, ◌⊎◌, ℕ, ◌<◌, [], Contains, length, slice_index_or}
use Rattle.sia_parts.specs.declared.finding.Edge.{Edge}
use Rattle.sia_parts.specs.declared.finding.Kind.TheVariants.{Ww}
use Rattle.sia_graph.specs.declared.order.Graph.{Graph}

-- one node leads to another, which is told at the one or at the other
abbrev pub LeadsTo : Graph → ℕ → ℕ → Type 0
LeadsTo g s t = Contains (slice_index_or g.targets s []) t ⊎ Contains (slice_index_or g.sources t []) s

-- the same as edges, all of one kind
abbrev pub IsGraphEdge : Graph → Edge → Type 0
IsGraphEdge g e = LeadsTo g e.src e.dst × (e.kind ≡ Ww) × (e.key ≡ 0)

-- the graph has so many nodes, and no node leads to itself
pub record IsGraph (nodes : ℕ) (g : Graph) : Type 0 where
  pub targets_long : length g.targets ≡ nodes
  pub sources_long : length g.sources ≡ nodes
  pub within : (s t : ℕ) → LeadsTo g s t → (s < nodes) × (t < nodes)
  pub apart : (s t : ℕ) → LeadsTo g s t → s ≢ t
