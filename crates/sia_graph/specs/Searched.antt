-- Edges among which the least one between two members is found, and what these members and edges are.
use Rattle.std.specs.Prelude.{ℕ, List, AllPairs, Contains}
use Rattle.sia_events.specs.Lists.{ListsAscending, Precedes}
use Rattle.sia_events.specs.Transactions.{IsCommitted}
use Rattle.sia_parts.specs.declared.finding.Edge.{Edge}
use Rattle.sia_parts.specs.Entries.{IsEdge, edge_rank}
use Rattle.sia_graph.specs.declared.cycle.EdgesIn.{EdgesIn}
use Rattle.sia_graph.specs.declared.cycle.EdgesIn.TheVariants.{Listed, Seen}
use Rattle.sia_graph.specs.Evidence.{IsEvidence}

abbrev pub IsEdgeIn : EdgesIn → Edge → Type 0
IsEdgeIn (Listed edges) = Contains edges.now
IsEdgeIn (Seen evidence) = IsEdge evidence.now.index.now

-- all ids of a list, or the committed transactions of a history
abbrev pub IsMemberIn : List ℕ → EdgesIn → ℕ → Type 0
IsMemberIn ids (Listed edges) = Contains ids
IsMemberIn ids (Seen evidence) = IsCommitted evidence.now.index.now

-- the list is in order; or the evidence is that of its index's history, whose committed transactions are listed
abbrev pub CanFind : List ℕ → EdgesIn → Type 0
CanFind ids (Listed edges) = AllPairs (λ d e. Precedes (edge_rank d) (edge_rank e)) edges.now
CanFind ids (Seen evidence) = ListsAscending (IsCommitted evidence.now.index.now) ids × IsEvidence evidence.now
