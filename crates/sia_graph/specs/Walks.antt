-- Going back from a transaction to the least one with an edge to it, among those that are left. Transactions are told by their
-- positions among ids. What is left and what is an edge is any, so that one definition serves a list of edges and a whole history.
use Rattle.std.specs.Prelude.{◌≡◌, ◌↔◌, ◌⊎◌, ℕ, zero, suc, ◌<◌, ◌≤◌, ◌==◌, ◌||◌, ◌&&◌, Bool, List, [], ◌∷◌, length, slice_index, nat_lt, Contains}
use Rattle.sia_parts.specs.declared.finding.Edge.{Edge}
use Rattle.sia_graph.specs.declared.cycle.Step.{Step}
use Rattle.sia_graph.specs.Orders.{Leads}
use Rattle.sia_graph.specs.Cycles.{IsPrevious, GoesRound, StartsAtLeast}

-- p is left, and has an edge to i
abbrev pub IsSource : List ℕ → (Edge → Type 0) → (ℕ → Type 0) → ℕ → ℕ → Type 0
IsSource ids IsEdge IsLeft i p = (p < length ids) × IsLeft p × Leads IsEdge (slice_index ids p) (slice_index ids i)

abbrev pub IsLeastSource : List ℕ → (Edge → Type 0) → (ℕ → Type 0) → ℕ → ℕ → Type 0
IsLeastSource ids IsEdge IsLeft i p = IsSource ids IsEdge IsLeft i p × ((q : ℕ) → IsSource ids IsEdge IsLeft i q → p ≤ q)

-- what is left has an edge from what is left
abbrev pub IsFedBack : List ℕ → (Edge → Type 0) → (ℕ → Type 0) → Type 0
IsFedBack ids IsEdge IsLeft = (i : ℕ) → i < length ids → IsLeft i → (p : ℕ) × IsSource ids IsEdge IsLeft i p

-- for each position its least source, or itself where it has no source
abbrev pub AreLeastSources : List ℕ → (Edge → Type 0) → (ℕ → Type 0) → List ℕ → Type 0
AreLeastSources ids IsEdge IsLeft previous = (i : ℕ) → i < length ids
    → IsLeastSource ids IsEdge IsLeft i (slice_index previous i) ⊎ ((slice_index previous i ≡ i) × ((q : ℕ) → ¬ IsSource ids IsEdge IsLeft i q))

-- each position leads back to one
abbrev pub StaysWithin : List ℕ → Type 0
StaysWithin previous = (i : ℕ) → i < length previous → slice_index previous i < length previous

-- where n steps back from i lead
abbrev pub back : List ℕ → ℕ → ℕ → ℕ
back previous zero i = i
back previous (suc n) i = back previous n (slice_index previous i)

-- all that going back from start reaches lead back to their least sources
abbrev pub ArePreviousFrom : List ℕ → (Edge → Type 0) → (ℕ → Type 0) → List ℕ → ℕ → Type 0
ArePreviousFrom ids IsEdge IsLeft previous start = (n : ℕ) → IsLeastSource ids IsEdge IsLeft (back previous n start) (slice_index previous (back previous n start))

-- one goes round from home by these steps, and home is the least on the way
abbrev pub GoesRoundFrom : List ℕ → (Edge → Type 0) → ℕ → List Step → Type 0
GoesRoundFrom stuck IsEdge home [] = ⊥
GoesRoundFrom stuck IsEdge home (first ∷ steps) = (first.txn ≡ home) × StartsAtLeast steps first.txn × GoesRound IsEdge stuck (first ∷ steps) first.txn

-- along the whole way back from home the steps lead to the previous ones
abbrev pub LeadsBack : List ℕ → List ℕ → (Edge → Type 0) → List ℕ → ℕ → Type 0
LeadsBack stuck ids IsEdge previous home = (n : ℕ)
    → IsPrevious IsEdge stuck (slice_index ids (slice_index previous (back previous n home))) (slice_index ids (back previous n home))

-- the list holds those that are left
abbrev pub AreLeft : List ℕ → (ℕ → Type 0) → List ℕ → Type 0
AreLeft ids IsLeft stuck = (t : ℕ) → Contains stuck t ↔ ((i : ℕ) × (i < length ids) × (slice_index ids i ≡ t) × IsLeft i)

-- the edge stands before those from s to t
abbrev pub is_before : ℕ → ℕ → Edge → Bool
is_before s t e = nat_lt e.src s || e.src == s && nat_lt e.dst t
