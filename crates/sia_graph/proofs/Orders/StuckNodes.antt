-- Which nodes are taken, and which are left once none is ready: the stuck set.
use Rattle.std.proofs.Common.{◌≡◌, ◌⊎◌, inl, inr, ℕ, zero, suc, ◌+◌, ◌*◌, ◌<◌, Bool, true, false, cond, not, List, [], ◌∷◌, length, get_or, slice_get, Some, ap, sym, ◌∙◌, subst, arith, ◌↔◌, Contains}
use Rattle.std.specs.List.{filter, range_with_len}
use Rattle.std.proofs.lemmas.Bool.{cases_Bool, not-true, not_from_false}
use Rattle.std.proofs.lemmas.Option.{same_Some}
use Rattle.sia_graph.specs.Cycles.{IsStuckSet}
use Rattle.sia_graph.specs.Graphs.{IsGraph, IsGraphEdge}
use Rattle.sia_graph.specs.Orders.{IsLeastOrder}
use Rattle.sia_graph.specs.Taken.{AreLeftNodes, node_list}
use Rattle.sia_graph.specs.UnderWay.{IsDone, IsLastFront}
use Rattle.sia_graph.specs.declared.order.Graph.{Graph}
use Rattle.sia_graph.proofs.Shared.Fronts.{none_fed, whole_front}
use Rattle.sia_graph.proofs.Shared.Positions.{Stands, contains_stands, stands_contains}
use Rattle.sia_graph.proofs.Orders.TakenFronts.{edge_leads, in_range, leads_edge, range_in}

module _ (p : ℕ → Bool) where
  -- what a filter keeps
  kept : (xs : List ℕ) (x : ℕ) → Stands xs x → p x ≡ true → Stands (filter p xs) x
  kept [] x s e = absurd (let a = s.1 in cc)
  kept (y ∷ xs) x s e = by_place (cases_Bool (p y)) (kept xs x) s.0 s.1
    where
      by_place : (p y ≡ true) ⊎ (p y ≡ false) → (Stands xs x → p x ≡ true → Stands (filter p xs) x) → (i : ℕ) → slice_get (y ∷ xs) i ≡ Some x → Stands (filter p (y ∷ xs)) x
      by_place (inl t) later zero at = subst (λ b. Stands (cond b (y ∷ filter p xs) (filter p xs)) x) (sym t) (0, at)
      by_place (inl t) later (suc i) at = let w = later (i, at) e in subst (λ b. Stands (cond b (y ∷ filter p xs) (filter p xs)) x) (sym t) (suc w.0, w.1)
      by_place (inr f) later zero at = absurd (let a = sym f ∙ ap p (same_Some y x at) ∙ e in cc)
      by_place (inr f) later (suc i) at = subst (λ b. Stands (cond b (y ∷ filter p xs) (filter p xs)) x) (sym f) (later (i, at) e)

  was_kept : (xs : List ℕ) (x : ℕ) → Stands (filter p xs) x → Stands xs x × (p x ≡ true)
  was_kept [] x s = absurd (let a = s.1 in cc)
  was_kept (y ∷ xs) x s = elim (cases_Bool (p y)) [
    | inl t ↦ let w = subst (λ b. Stands (cond b (y ∷ filter p xs) (filter p xs)) x) t s in by_place t (was_kept xs x) w.0 w.1
    | inr f ↦ let w = was_kept xs x (subst (λ b. Stands (cond b (y ∷ filter p xs) (filter p xs)) x) f s) in ((suc w.0.0, w.0.1), w.1)
  ]
    where
      by_place : p y ≡ true → (Stands (filter p xs) x → Stands xs x × (p x ≡ true)) → (i : ℕ) → slice_get (y ∷ filter p xs) i ≡ Some x → Stands (y ∷ xs) x × (p x ≡ true)
      by_place t later zero at = ((0, at), ap p (sym (same_Some y x at)) ∙ t)
      by_place t later (suc i) at = let w = later (i, at) in ((suc w.0.0, w.0.1), w.1)

module _ (n : ℕ) (g : Graph) (graph : IsGraph n g) (done : List Bool) (front : List ℕ) (last : IsLastFront (Contains (range_with_len 0 n)) g done front) where
  abbrev M : ℕ → Type 0
  M = Contains (range_with_len 0 n)

  pub whole_order : ((t : ℕ) → t < n → IsDone done t) → IsLeastOrder M (IsGraphEdge g) front
  whole_order all =
      whole_front M (IsGraphEdge g) front last.is_front (λ t m. (last.is_done t m).0 (all t (range_in n t m)))
      (λ s t leads. in_range n t (graph.within s t (edge_leads g s t leads)).1)

  -- those that are left
  abbrev left_ones : List ℕ
  left_ones = filter (λ t. not (get_or done t false)) (range_with_len 0 n)

  left_is : (t : ℕ) → Contains left_ones t ↔ (M t × ¬ IsDone done t)
  left_is t = (
    λ c.
        let w = was_kept (λ u. not (get_or done u false)) (range_with_len 0 n) t (contains_stands left_ones t c) in
        (stands_contains (range_with_len 0 n) t w.0, λ d. (let f = sym d ∙ not-true (get_or done t false) w.1 in cc)),
    λ w. stands_contains left_ones t (kept (λ u. not (get_or done u false)) (range_with_len 0 n) t (contains_stands (range_with_len 0 n) t w.0)
        (not_from_false (get_or done t false) (elim (cases_Bool (get_or done t false)) [ inl d ↦ absurd (w.1 d) | inr f ↦ f ]))),
  )

  stuck_set : IsStuckSet M (IsGraphEdge g) left_ones
  stuck_set = record {
    self_fed = λ t c.
        let w = (left_is t).0 c in
        let s = last.fed t w.0 w.1 in
        (w.0, s.0, (left_is s.0).1 (s.1, s.2), leads_edge g s.0 t s.3);
    greatest = λ set fed t c. (left_is t).1 (
      (fed t c).0,
      λ d. none_fed M (IsGraphEdge g) front last.is_front.closed (λ u. Contains set u) (λ u e. let w = fed u e in (w.1, w.2, w.3)) t ((last.is_done t (fed t c).0).0 d) c,
    );
  }

pub left_nodes : (size : ℕ) (txns : List ℕ) (g : Graph) (graph : IsGraph (2 * size + length txns) g) (done : List Bool) (front : List ℕ)
    → IsLastFront (Contains (node_list size txns)) g done front → (left : List Bool) → length left ≡ length txns
    → ((i : ℕ) → i < length txns → get_or left i false ≡ not (get_or done (2 * size + i) false)) → (some : (t : ℕ) × (t < 2 * size + length txns) × (get_or done t false ≡ false))
    → AreLeftNodes size txns g left
left_nodes size txns g graph done front last left long each some =
    let n = 2 * size + length txns in
    record {
      long = long;
      set = left_ones n g graph done front last;
      is_stuck = stuck_set n g graph done front last;
      some = (some.0, (left_is n g graph done front last some.0).1 (in_range n some.0 some.1, λ d. (let e = sym d ∙ some.2 in cc)));
      each = λ i l. (
        (λ is. (left_is n g graph done front last (2 * size + i)).1 (
          in_range n (2 * size + i) (omega arith),
          λ d. (let e = sym (each i l ∙ ap not d) ∙ is in cc),
        )),
        (λ c.
            let w = (left_is n g graph done front last (2 * size + i)).0 c in
            each i l ∙ not_from_false (get_or done (2 * size + i) false) (elim (cases_Bool (get_or done (2 * size + i) false)) [ inl d ↦ absurd (w.1 d) | inr f ↦ f ])),
      );
    }
