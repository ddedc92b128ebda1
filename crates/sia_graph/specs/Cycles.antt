-- The cycle that is printed where no order keeps every edge. Which of several cycles is printed is this project's own choice.
-- Each member of the cycle has an edge from the one before it; the members are found by going back along edges.
use Rattle.std.specs.Prelude.{◌≡◌, ℕ, zero, suc, ◌<◌, ◌≤◌, List, [], ◌∷◌, Contains, All, ⊤}
use Rattle.sia_events.specs.Lists.{Precedes}
use Rattle.sia_parts.specs.declared.finding.Edge.{Edge}
use Rattle.sia_parts.specs.Entries.{kind_number}
use Rattle.sia_graph.specs.declared.cycle.Step.{Step}
use Rattle.sia_graph.specs.Orders.{Leads}

-- some members, each with an edge from one of them
abbrev pub IsSelfFed : (ℕ → Type 0) → (Edge → Type 0) → List ℕ → Type 0
IsSelfFed IsMember IsEdge set = (t : ℕ) → Contains set t → IsMember t × (s : ℕ) × Contains set s × Leads IsEdge s t

-- the greatest such set
pub record IsStuckSet (IsMember : ℕ → Type 0) (IsEdge : Edge → Type 0) (stuck : List ℕ) : Type 0 where
  pub self_fed : IsSelfFed IsMember IsEdge stuck
  pub greatest : (set : List ℕ) → IsSelfFed IsMember IsEdge set → (t : ℕ) → Contains set t → Contains stuck t

-- p is the least in stuck with an edge to t
abbrev pub IsPrevious : (Edge → Type 0) → List ℕ → ℕ → ℕ → Type 0
IsPrevious IsEdge stuck p t = Contains stuck p × Leads IsEdge p t × ((q : ℕ) → Contains stuck q → Leads IsEdge q t → p ≤ q)

-- going back n times from t leads to s
abbrev pub GoesBack : (Edge → Type 0) → List ℕ → ℕ → ℕ → ℕ → Type 0
GoesBack IsEdge stuck zero t s = t ≡ s
GoesBack IsEdge stuck (suc n) t s = (p : ℕ) × IsPrevious IsEdge stuck p t × GoesBack IsEdge stuck n p s

abbrev pub step_edge : Step → ℕ → Edge
step_edge s next = record { src = s.txn; kind = s.kind; dst = next; key = s.key }

-- the step takes the least edge to the next transaction, by kind and key
abbrev pub TakesLeastEdge : (Edge → Type 0) → Step → ℕ → Type 0
TakesLeastEdge IsEdge s next = IsEdge (step_edge s next)
    × ((e : Edge) → IsEdge e → e.src ≡ s.txn → e.dst ≡ next → ¬ Precedes (kind_number e.kind ∷ e.key ∷ []) (kind_number s.kind ∷ s.key ∷ []))

-- each step leads to the next, and the last one to home; each goes back to the one before it
abbrev pub GoesRound : (Edge → Type 0) → List ℕ → List Step → ℕ → Type 0
GoesRound IsEdge stuck [] home = ⊤
GoesRound IsEdge stuck (s ∷ []) home = IsPrevious IsEdge stuck s.txn home × TakesLeastEdge IsEdge s home
GoesRound IsEdge stuck (s ∷ next ∷ steps) home =
    IsPrevious IsEdge stuck s.txn next.txn × TakesLeastEdge IsEdge s next.txn × GoesRound IsEdge stuck (next ∷ steps) home

-- every later step starts above the first
abbrev pub StartsAtLeast : List Step → ℕ → Type 0
StartsAtLeast steps first = All (λ s. first < s.txn) steps

-- the steps of the cycle that going back from the least stuck member reaches, from its least member on
abbrev pub IsPrintedCycle : (ℕ → Type 0) → (Edge → Type 0) → List Step → Type 0
IsPrintedCycle IsMember IsEdge [] = ⊥
IsPrintedCycle IsMember IsEdge (first ∷ steps) = (stuck : List ℕ) × IsStuckSet IsMember IsEdge stuck
    × (least : ℕ) × Contains stuck least × ((t : ℕ) → Contains stuck t → least ≤ t)
    × (n : ℕ) × GoesBack IsEdge stuck n least first.txn
    × StartsAtLeast steps first.txn
    × GoesRound IsEdge stuck (first ∷ steps) first.txn
