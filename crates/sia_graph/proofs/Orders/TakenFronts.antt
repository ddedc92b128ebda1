-- A front grows by a node that is ready.
use Rattle.std.proofs.Common.{◌≡◌, inl, inr, ℕ, ◌+◌, ◌<◌, ◌≤◌, Bool, true, false, cond, List, [], ◌∷◌, ◌++◌, length, get_or, set, refl, ap, sym, subst, ◌∙◌, arith, ◌↔◌, Contains, sum_by, get_or-set_same, get_or-set_other, length-set}
use Rattle.std.specs.List.{range_with_len}
use Rattle.std.proofs.lemmas.Bool.{cases_eq, cases_lt}
use Rattle.std.proofs.lemmas.List.Sums.{sum_by-set}
use Rattle.std.proofs.lemmas.List.FromFn.{get_or-range_with_len, length-range_with_len}
use Rattle.sia_parts.specs.declared.finding.Kind.TheVariants.{Ww}
use Rattle.sia_graph.specs.Fronts.{IsFront}
use Rattle.sia_graph.specs.Graphs.{IsGraph, IsGraphEdge, LeadsTo}
use Rattle.sia_graph.specs.Orders.{Leads}
use Rattle.sia_graph.specs.UnderWay.{IsDone, IsLastFront, IsReadyIn, IsTaking, none_pending, told}
use Rattle.sia_graph.specs.declared.order.Graph.{Graph}
use Rattle.sia_graph.specs.declared.order.Taking.{Taking}
use Rattle.sia_graph.proofs.Shared.Fronts.{IsReady, front_more, front_none}
use Rattle.sia_graph.proofs.Shared.Positions.{Stands, stands_cases, stands_last, stands_more}
use Rattle.sia_graph.proofs.Orders.Told.{none_told, some_told}
use Rattle.sia_graph.proofs.Orders.UnderWay.{waits_led}

-- the numbers below n are the nodes
pub in_range : (n t : ℕ) → t < n → Contains (range_with_len 0 n) t
in_range n t l = (t, (let e = length-range_with_len 0 n in omega arith), (let e = get_or-range_with_len 0 n t t l in e ∙ (let z : 0 + t ≡ t = omega arith in z)))

pub range_in : (n t : ℕ) → Contains (range_with_len 0 n) t → t < n
range_in n t c = grind (arith, length-range_with_len, get_or-range_with_len)

pub edge_leads : (g : Graph) (s t : ℕ) → Leads (IsGraphEdge g) s t → LeadsTo g s t
edge_leads g s t e = subst (λ u. LeadsTo g u t) e.2 (subst (λ u. LeadsTo g e.0.src u) e.3 e.1.0)

pub leads_edge : (g : Graph) (s t : ℕ) → LeadsTo g s t → Leads (IsGraphEdge g) s t
leads_edge g s t l = (record { src = s; dst = t; kind = Ww; key = 0 }, (l, refl, refl), refl, refl)

-- a front whose members are those that are done
pub record IsFrontOf (n : ℕ) (g : Graph) (done : List Bool) (front : List ℕ) : Type 0 where
  pub is_front : IsFront (Contains (range_with_len 0 n)) (IsGraphEdge g) front
  pub done_long : length done ≡ n
  pub is_done : (t : ℕ) → t < n → IsDone done t ↔ Stands front t

module _ (n : ℕ) (g : Graph) (graph : IsGraph n g) (done : List Bool) (k : Taking) (long : length k.counts.items ≡ n) (is : IsTaking g done k none_pending n) where
  -- a node whose count is 0 has all that lead to it done, and a node with a count has one that isn't
  pub all_done : (t : ℕ) → t < n → get_or k.counts.items t 0 ≡ 0 → (s : ℕ) → LeadsTo g s t → IsDone done s
  all_done t l none s leads =
      let f = is.under_way.free t (omega arith) none in
      let b = (graph.within s t leads).0 in
      elim leads [ inl at_target ↦ none_told g.targets done t s (omega arith) (omega arith) at_target | inr at_source ↦ f.1 s at_source ]

  pub one_left : (t : ℕ) → t < n → 0 < get_or k.counts.items t 0 → (s : ℕ) × (s < n) × (¬ IsDone done s) × LeadsTo g s t
  one_left t l some = elim (cases_lt 0 (told g.targets done t)) [
    | inl more ↦ grind (arith, cases_lt, some_told, waits_led)
    | inr none ↦
        let w = is.under_way.stops t (omega arith) (omega arith) in
        let led = waits_led g k.counts.items k.passed.items t w.0 w.1 in
        let b = (graph.within w.0 t led).0 in
        (w.0, b, (λ d. (let e = is.under_way.left t w.0 w.1 d in omega arith)), led)
  ]

  module _ (front : List ℕ) (of : IsFrontOf n g done front) where
    abbrev M : ℕ → Type 0
    M = Contains (range_with_len 0 n)

    ready_is : (t : ℕ) → t < n → IsReadyIn k t → IsReady M (IsGraphEdge g) front t
    ready_is t l r =
        let w = (is.ready t (omega arith)).0 r in (
          in_range n t l,
          (λ s. w.1 ((of.is_done t l).1 s)),
          (λ s leads. let e = edge_leads g s t leads in (of.is_done s (graph.within s t e).0).0 (all_done t l w.0 s e)),
        )

    is_ready : (t : ℕ) → IsReady M (IsGraphEdge g) front t → IsReadyIn k t
    is_ready t r =
        let l = range_in n t r.0 in
        (is.ready t (omega arith)).1 (
          elim (cases_lt 0 (get_or k.counts.items t 0)) [
            | inl some ↦ let w = one_left t l some in absurd (w.2 ((of.is_done w.0 w.1).1 (r.2 w.0 (leads_edge g w.0 t w.3))))
            | inr none ↦ omega arith
          ],
          (λ d. r.1 ((of.is_done t l).0 d)),
        )

    pub front_taken : (t : ℕ) → t < n → IsReadyIn k t → ((u : ℕ) → IsReadyIn k u → t ≤ u)
        → IsFrontOf n g (set done t true) (front ++ t ∷ [])
    front_taken t l r least = record {
      is_front = front_more M (IsGraphEdge g) front t of.is_front (ready_is t l r) (λ u s. least u (is_ready u s));
      done_long = length-set done t true ∙ of.done_long;
      is_done = λ u m. elim (cases_eq u t) [
        | inl e ↦ (
          (λ d. subst (λ x. Stands (front ++ t ∷ []) x) (sym e) (stands_last front t)),
          (λ s. ap (λ x. get_or (set done t true) x false) e ∙ get_or-set_same done t true false (let a = of.done_long in omega arith)),
        )
        | inr other ↦
            let same = get_or-set_other done t u true false other in (
              (λ d. stands_more front t u ((of.is_done u m).0 (sym same ∙ d))),
              (λ s. same ∙ (of.is_done u m).1 (elim (stands_cases front t u s) [ inl here ↦ here | inr e ↦ absurd (other (sym e)) ])),
            )
      ];
    }

    -- a ready node is a node that isn't done, and has no count
    pub ready_within : (t : ℕ) → IsReadyIn k t → t < n
    ready_within t (inl b) = let l = is.before.before t b in let w = is.within in omega arith
    ready_within t (inr w) = let l = w.1 in omega arith

    pub ready_left : (t : ℕ) → t < n → IsReadyIn k t → (get_or k.counts.items t 0 ≡ 0) × ¬ IsDone done t
    ready_left t l r = (is.ready t (omega arith)).0 r

    pub last_front : ((t : ℕ) → ¬ IsReadyIn k t) → IsLastFront M g done front
    last_front none = record {
      is_front = of.is_front;
      is_done = λ t m. of.is_done t (range_in n t m);
      fed = λ t m out.
          let l = range_in n t m in
          elim (cases_lt 0 (get_or k.counts.items t 0)) [
            | inl some ↦ let w = one_left t l some in (w.0, in_range n w.0 w.1, w.2, w.3)
            | inr zero_ ↦ absurd (none t ((is.ready t (omega arith)).1 (omega arith, out)))
          ];
    }

-- how many aren't done
abbrev pub many_left : List Bool → ℕ
many_left done = sum_by (λ d. cond d 0 1) done

pub fewer_left : (done : List Bool) (t : ℕ) → t < length done → ¬ IsDone done t → many_left (set done t true) < many_left done
fewer_left done t l out = grind (arith, sum_by-set)

-- nothing is done
pub no_front : (n : ℕ) (g : Graph) (done : List Bool) → length done ≡ n → ((s : ℕ) → get_or done s false ≡ false) → IsFrontOf n g done []
no_front n g done long none = grind (arith, front_none)
