-- One list more among lists that stand side by side.
use Rattle.std.proofs.Common.{◌≡◌, ℕ, ◌+◌, ◌*◌, ◌<◌, List, [], ◌∷◌, ◌++◌, length, get_or, sym, subst, arith, ◌↔◌, Contains}
use Rattle.std.proofs.lemmas.Bool.{cases_lt}
use Rattle.std.proofs.lemmas.List.{get_or_append_left, length-append, get_or_push}
use Rattle.sia_events.specs.declared.event.Event.{Event}
use Rattle.sia_parts.specs.declared.accesses.Accesses.{Accesses}
use Rattle.sia_graph.specs.declared.order.Graph.{Graph}
use Rattle.sia_graph.specs.NarrowSteps.{node_of}
use Rattle.sia_graph.specs.SparseGraphs.{AreMemberTargets, AreSourcesOf, AreTargetsOf, HasNodes, IsBlockStep}

-- each list of the first n has P with its number
abbrev pub AreLists : (ℕ → List ℕ → Type 0) → List (List ℕ) → ℕ → Type 0
AreLists P lists n = (length lists ≡ n) × ((x : ℕ) → x < n → P x (get_or lists x []))

pub lists_more : (P : ℕ → List ℕ → Type 0) (lists : List (List ℕ)) (n : ℕ) (row : List ℕ) → AreLists P lists n → P n row → AreLists P (lists ++ (row ∷ [])) (n + 1)
lists_more P lists n row are is = grind (arith, length-append, cases_lt, get_or_append_left, get_or_push)

-- one node more
pub nodes_more : (h : List Event) (a : Accesses) (size n : ℕ) (g new : Graph) (targets sources : List ℕ) → HasNodes h a size n g → new.targets ≡ g.targets ++ (targets ∷ []) → new.sources ≡ g.sources ++ (sources ∷ [])
    → AreTargetsOf h a size n targets → AreSourcesOf h a size n sources → HasNodes h a size (n + 1) new
nodes_more h a size n g new targets sources has first second to from =
    let t = subst (λ (l : List (List ℕ)). AreLists (AreTargetsOf h a size) l (n + 1)) (sym first) (lists_more (AreTargetsOf h a size) g.targets n targets (has.targets_long, has.targets) to) in
    let s = subst (λ (l : List (List ℕ)). AreLists (AreSourcesOf h a size) l (n + 1)) (sym second) (lists_more (AreSourcesOf h a size) g.sources n sources (has.sources_long, has.sources) from) in
    record { targets_long = t.0; sources_long = s.0; targets = t.1; sources = s.1 }

pub nodes_to : (h : List Event) (a : Accesses) (size n next : ℕ) → n + 1 ≡ next → (g new : Graph) (targets sources : List ℕ) → HasNodes h a size n g → new.targets ≡ g.targets ++ (targets ∷ []) → new.sources ≡ g.sources ++ (sources ∷ [])
    → AreTargetsOf h a size n targets → AreSourcesOf h a size n sources → HasNodes h a size next new
nodes_to h a size n next is g new targets sources has first second to from = subst (λ m. HasNodes h a size m new) is (nodes_more h a size n g new targets sources has first second to from)

-- a block has no sources, and none of a transaction's targets
pub block_sources : (h : List Event) (a : Accesses) (size b : ℕ) → b < 2 * size → AreSourcesOf h a size b []
block_sources h a size b below n = ((λ c. let l = c.1 in absurd (omega arith)), (λ w. let e = w.2 in absurd (omega arith)))

pub block_targets : (h : List Event) (a : Accesses) (size b : ℕ) (row : List ℕ) → b < 2 * size → ((n : ℕ) → Contains row n ↔ IsBlockStep h size b n) → AreTargetsOf h a size b row
block_targets h a size b row below is = record { block = λ l. is; member = λ i e. absurd (omega arith) }

pub member_targets : (h : List Event) (a : Accesses) (size i : ℕ) (row : List ℕ) → AreMemberTargets h a size i row → AreTargetsOf h a size (node_of size i) row
member_targets h a size i row is = grind arith
