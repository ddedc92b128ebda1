-- The edges of the steps of a cycle, and whose events are at hand.
use Rattle.std.proofs.Common.{◌≡◌, ◌<◌, List, map, subst, sym, All, ℕ, zero, suc, ◌+◌, [], ◌∷◌, ◌++◌, length, take, get_or, refl, ap, arith}
use Rattle.std.proofs.lemmas.List.{get_or-map, length-map, take_more}
use Rattle.std.proofs.lemmas.List.Elements.{All-cons, All-nil}
use Rattle.sia_events.specs.declared.event.Event.{Event}
use Rattle.sia_parts.specs.declared.finding.Edge.{Edge}
use Rattle.sia_graph.specs.declared.cycle.Step.{Step}
use Rattle.sia_graph.specs.declared.judgement.Verdict.TheVariants.{Cycle}
use Rattle.sia_graph.specs.Cycles.{GoesRound, IsPrintedCycle, step_edge}
use Rattle.si_audit.specs.Explained.{TellsAll, TellsCycle, TellsVerdict, edges_round}
use Rattle.si_audit.specs.Reasons.{TellsClass, TellsStep}

-- what holds of all that is made of these
pub all_of_map : {A B : Type 0} (P : B → Type 0) (f : A → B) (xs : List A) (ys : List B) → ys ≡ map f xs → All P ys → All (λ x. P (f x)) xs
all_of_map P f xs ys is all k d below =
    subst P (get_or-map f xs k d (f d) below)
    (subst (All P) is all k (f d) (subst (λ n. k < n) (sym (length-map xs f)) below))

-- each step of a cycle takes an edge
pub all_are_edges : (IsEdge : Edge → Type 0) (stuck : List ℕ) (steps : List Step) (home : ℕ) → GoesRound IsEdge stuck steps home → All IsEdge (edges_round steps home)
all_are_edges IsEdge stuck [] home round = All-nil IsEdge
all_are_edges IsEdge stuck (s ∷ []) home round = All-cons IsEdge (step_edge s home) [] round.1.0 (All-nil IsEdge)
all_are_edges IsEdge stuck (s ∷ next ∷ steps) home round =
    All-cons IsEdge (step_edge s next.txn) (edges_round (next ∷ steps) home) round.1.0 (all_are_edges IsEdge stuck (next ∷ steps) home round.2)

-- there are as many as steps
pub as_many : (steps : List Step) (home : ℕ) → length (edges_round steps home) ≡ length steps
as_many (s ∷ next ∷ steps) home = ap suc (as_many (next ∷ steps) home)
as_many steps home = refl

-- those that lead to the next step, and the one that leads home
pub edge_to_next : (steps : List Step) (home i : ℕ) (d : Edge) (e : Step) → i + 1 < length steps → get_or (edges_round steps home) i d ≡ step_edge (get_or steps i e) (get_or steps (suc i) e).txn
edge_to_next (s ∷ next ∷ steps) home zero d e inside = refl
edge_to_next (s ∷ next ∷ third ∷ steps) home (suc i) d e inside = edge_to_next (next ∷ third ∷ steps) home i d e (omega arith)
edge_to_next steps home i d e inside = absurd (omega arith)

pub edge_home : (steps : List Step) (home i : ℕ) (d : Edge) (e : Step) → i + 1 ≡ length steps → get_or (edges_round steps home) i d ≡ step_edge (get_or steps i e) home
edge_home (s ∷ []) home zero d e last = refl
edge_home (s ∷ next ∷ steps) home (suc i) d e last = edge_home (next ∷ steps) home i d e (omega arith)
edge_home steps home i d e last = absurd (omega arith)

-- the next edge is pushed behind those before it
pub edge_pushed : (steps : List Step) (home i : ℕ) (e : Step) (edge : Edge) (front : List Edge) → i < length steps → front ≡ take i (edges_round steps home)
    → get_or (edges_round steps home) i (step_edge e 0) ≡ edge → front ++ edge ∷ [] ≡ take (i + 1) (edges_round steps home)
edge_pushed steps home i e edge front inside so is = grind (arith, as_many, take_more)

-- it leads to the next step, or home
pub leads_on : (steps : List Step) (home i next : ℕ) (d : Edge) (e : Step) → i + 1 < length steps → next ≡ i + 1 → get_or (edges_round steps home) i d ≡ step_edge (get_or steps i e) (get_or steps next e).txn
leads_on steps home i next d e inside is = grind (arith, edge_to_next)

pub leads_home : (steps rest : List Step) (home : Step) (i next : ℕ) (d : Edge) (e : Step) → steps ≡ home ∷ rest → i + 1 ≡ length steps → next ≡ 0
    → get_or (edges_round steps home.txn) i d ≡ step_edge (get_or steps i e) (get_or steps next e).txn
leads_home steps rest home i next d e starts last is = grind (arith, edge_home)

-- what edges_of makes of the steps of a printed cycle: its edges, and what is told of them is what is told of the cycle
abbrev pub AreRound : List Step → List Edge → Type 0
AreRound steps edges = (home : Step) (rest : List Step) → steps ≡ home ∷ rest → edges ≡ edges_round steps home.txn

pub cycle_edges : (IsMember : ℕ → Type 0) (IsEdge : Edge → Type 0) (steps : List Step) (edges : List Edge) → IsPrintedCycle IsMember IsEdge steps → AreRound steps edges → All IsEdge edges
cycle_edges IsMember IsEdge [] edges is so = absurd is
cycle_edges IsMember IsEdge (s ∷ steps) edges is so = subst (All IsEdge) (sym (so s steps refl)) (all_are_edges IsEdge is.0 (s ∷ steps) s.txn is.8)

pub tells_cycle : (h : List Event) (IsMember : ℕ → Type 0) (IsEdge : Edge → Type 0) (steps : List Step) (edges : List Edge) (bytes class : List ℕ) → IsPrintedCycle IsMember IsEdge steps → AreRound steps edges
    → TellsAll (TellsStep h) edges bytes → TellsClass h edges class → TellsVerdict h (Cycle steps) (bytes ++ class)
tells_cycle h IsMember IsEdge [] edges bytes class is so told of = absurd is
tells_cycle h IsMember IsEdge (s ∷ steps) edges bytes class is so told of = subst (λ es. TellsCycle h es (bytes ++ class)) (so s steps refl) (bytes, class, told, of, refl)
