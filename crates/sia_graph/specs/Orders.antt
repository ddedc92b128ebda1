-- Orders of some members that keep some edges, and the least of them. Which of several orders is told is this project's own
-- choice. Members and edges are any, so that one definition serves a list of edges and a whole history.
use Rattle.std.specs.Prelude.{◌≡◌, ℕ, List}
use Rattle.sia_events.specs.Lists.{HoldsExactly, Precedes}
use Rattle.sia_events.specs.Replay.{Keeps}
use Rattle.sia_parts.specs.declared.finding.Edge.{Edge}

-- some edge leads from t to u
abbrev pub Leads : (Edge → Type 0) → ℕ → ℕ → Type 0
Leads IsEdge t u = (e : Edge) × IsEdge e × (e.src ≡ t) × (e.dst ≡ u)

-- each member once and nothing else, and it keeps every edge
abbrev pub IsKeepingOrder : (ℕ → Type 0) → (Edge → Type 0) → List ℕ → Type 0
IsKeepingOrder IsMember IsEdge order = HoldsExactly IsMember order × Keeps (Leads IsEdge) order

-- it keeps every edge, and no order that does is before it
abbrev pub IsLeastOrder : (ℕ → Type 0) → (Edge → Type 0) → List ℕ → Type 0
IsLeastOrder IsMember IsEdge order = IsKeepingOrder IsMember IsEdge order
    × ((other : List ℕ) → IsKeepingOrder IsMember IsEdge other → ¬ Precedes other order)
