-- The first of those that wait at a node is woken.
use Rattle.std.proofs.Common.{◌≡◌, ◌≢◌, ◌+◌, ◌<◌, ℕ, suc, [], ◌∷◌, Bool, true, List, Some, length, get_or, set, slice_get, inl, inr, eqb, ap, refl, sym, subst, ◌∙◌, arith, rules, ◌↔◌, ◌&&◌, Contains}
use Rattle.std.specs.List.{count_by, range_with_len}
use Rattle.std.proofs.lemmas.Bool.{and_from, and_parts, cases_Bool, cases_eq, cases_lt, eq-eqb, eqb-true}
use Rattle.std.proofs.lemmas.List.{get_or-set_same, get_or-set_other, get_or_past, length-set}
use Rattle.std.proofs.lemmas.List.FromFn.{get_or-range_with_len, length-range_with_len}
use Rattle.std.proofs.lemmas.Option.{get_or_from_slice_get, same_Some, slice_get-get_or}
use Rattle.sia_graph.specs.UnderWay.{AreChains, IsBehind, IsDone, IsOneFewer, IsReadyAt, IsTaking, IsUnderWay, WaitsAt}
use Rattle.sia_graph.specs.declared.order.Graph.{Graph}
use Rattle.sia_graph.specs.declared.order.Taking.{Taking}
use Rattle.sia_graph.proofs.Orders.Chains.{chain_ended, chain_goes_on, chain_once}
use Rattle.sia_graph.proofs.Shared.Counted.{one_fewer}
use Rattle.sia_graph.proofs.Orders.Released.{none_freed}
use Rattle.sia_graph.proofs.Orders.UnderWay.{changed, now_was, was_now}
use Rattle.sia_parts.proofs.Auditing.Members.{contains_first, contains_later, first_or_later}

-- t waits at s, as a test
abbrev pub waits_test : List (List ℕ) → List ℕ → List ℕ → ℕ → ℕ → Bool
waits_test sources counts passed s t = eqb (get_or counts t 0) 1 && eqb (get_or (get_or sources t []) (get_or passed t 0) (suc s)) s

module _ (sources : List (List ℕ)) (counts passed : List ℕ) (s t : ℕ) where
  pub test_waits : waits_test sources counts passed s t ≡ true → WaitsAt sources counts passed t s
  test_waits e = grind (arith, and_parts, eqb, eqb-true, cases_lt, get_or_past, slice_get-get_or)

  pub waits_tested : WaitsAt sources counts passed t s → waits_test sources counts passed s t ≡ true
  waits_tested w = grind (arith, and_from, eqb, eq-eqb, get_or_from_slice_get)

-- one node fewer waits at s
pub fewer_wait : (sources : List (List ℕ)) (counts passed cs ps : List ℕ) (s node n : ℕ) → node < n → WaitsAt sources counts passed node s
    → ((t : ℕ) → WaitsAt sources cs ps t s → WaitsAt sources counts passed t s × (t ≢ node))
    → count_by (waits_test sources cs ps s) (range_with_len 0 n) < count_by (waits_test sources counts passed s) (range_with_len 0 n)
fewer_wait sources counts passed cs ps s node n l had kept =
    let e = get_or-range_with_len 0 n node 0 l in
    let many = length-range_with_len 0 n in
    let is : get_or (range_with_len 0 n) node 0 ≡ node = omega arith in
    one_fewer (waits_test sources counts passed s) (waits_test sources cs ps s)
    (λ t e. waits_tested sources counts passed s t (kept t (test_waits sources cs ps s t e)).0)
    (range_with_len 0 n) node node (slice_get-get_or (range_with_len 0 n) node 0 (omega arith) ∙ ap Some is)
    (waits_tested sources counts passed s node had)
    (elim (cases_Bool (waits_test sources cs ps s node)) [
      | inl still ↦ absurd ((kept node (test_waits sources cs ps s node still)).1 refl)
      | inr not_now ↦ not_now
    ])

module _ (g : Graph) (done : List Bool) (k : Taking) (pending : ℕ → ℕ) (at : ℕ) (below : at < length k.counts.items) (is : IsTaking g done k pending at) where
  abbrev counts : List ℕ
  counts = k.counts.items

  at_first : at < length k.first_waiting.items
  at_first = let e = is.under_way.first_long in omega arith

  pub none_wait : get_or k.first_waiting.items at 0 ≡ 4294967295 → IsTaking g done k pending (length k.counts.items)
  none_wait none =
      let left : (t s : ℕ) → WaitsAt g.sources k.counts.items k.passed.items t s → IsDone done s → s ≡ length k.counts.items = λ t s w d.
      let c = (is.under_way.waits t at below).1 (subst (λ x. WaitsAt g.sources k.counts.items k.passed.items t x) (is.under_way.left t s w d) w) in
      let z = chain_ended k.first_waiting.items k.next_waiting.items is.under_way.lists is.under_way.chains at at_first none in
      absurd (omega (arith, (subst (λ xs. Contains xs t) z c).1)) in
      grind (arith, left)

  module _ (node : ℕ) (is_node : node ≡ get_or k.first_waiting.items at 0) (some : node ≢ 4294967295) where
    abbrev GoesOn : ℕ → Type 0
    GoesOn n = (n < length k.next_waiting.items) × (rest : List ℕ) × (get_or is.under_way.lists at [] ≡ n ∷ rest)
        × AreChains (set k.first_waiting.items at (get_or k.next_waiting.items n 0)) k.next_waiting.items (set is.under_way.lists at rest)

    goes_on : GoesOn node
    goes_on = subst GoesOn (sym is_node) (chain_goes_on k.first_waiting.items k.next_waiting.items is.under_way.lists is.under_way.chains at at_first (λ e. some (is_node ∙ e)))

    pub node_within : node < length k.counts.items
    node_within = let l = goes_on.0 in let e = is.under_way.next_long in omega arith

    pub node_waits : WaitsAt g.sources k.counts.items k.passed.items node at
    node_waits = (is.under_way.waits node at below).0 (subst (λ xs. Contains xs node) (sym goes_on.2) (contains_first node goes_on.1))

    module _ (v : ℕ) (is_v : v ≡ get_or k.counts.items node 0 + 1) where
      abbrev cs : List ℕ
      cs = set k.counts.items node v

      two : get_or cs node 0 ≡ 2
      two = let e = get_or-set_same k.counts.items node v 0 node_within in let w = node_waits.1 in omega arith

      elsewhere : (t : ℕ) → t ≢ node → get_or cs t 0 ≡ get_or k.counts.items t 0
      elsewhere t n = get_or-set_other k.counts.items node t v 0 n

      not_now : (s : ℕ) → ¬ WaitsAt g.sources cs k.passed.items node s
      not_now s w = let e = w.1 in let t = two in omega arith

      to_new : (t s : ℕ) → t ≢ node → WaitsAt g.sources k.counts.items k.passed.items t s → WaitsAt g.sources cs k.passed.items t s
      to_new = grind (arith, was_now, node_within, length-set, elsewhere)

      pub waited_before : (t s : ℕ) → WaitsAt g.sources cs k.passed.items t s → WaitsAt g.sources k.counts.items k.passed.items t s × (t ≢ node)
      waited_before t s w = search (rules, arith, cases_eq, not_now, now_was, node_within, length-set, elsewhere)

      abbrev rest : List ℕ
      rest = goes_on.1

      row : (s : ℕ) → s ≡ at → get_or (set is.under_way.lists at rest) s [] ≡ rest
      row s e = grind (arith, at_first, get_or-set_same)

      not_in_rest : ¬ Contains rest node
      not_in_rest = grind (arith, chain_once, goes_on, at_first)

      listed : (t s : ℕ) → s < length k.counts.items → Contains (get_or (set is.under_way.lists at rest) s []) t ↔ WaitsAt g.sources cs k.passed.items t s
      listed t s l = elim (cases_eq s at) [
        | inl same ↦ (
          (λ c.
              let in' = subst (λ xs. Contains xs t) (row s same) c in
              let n : t ≢ node = λ e. not_in_rest (subst (λ u. Contains rest u) e in') in
              to_new t s n ((is.under_way.waits t s l).0 (subst (λ x. Contains (get_or is.under_way.lists x []) t) (sym same) (subst (λ xs. Contains xs t) (sym goes_on.2) (contains_later node t rest in'))))),
          (λ w.
              let old = waited_before t s w in
              let c = subst (λ xs. Contains xs t) goes_on.2 (subst (λ x. Contains (get_or is.under_way.lists x []) t) same ((is.under_way.waits t s l).1 old.0)) in
              subst (λ xs. Contains xs t) (sym (row s same)) (elim (first_or_later node t rest c) [ inl e ↦ absurd (old.1 (sym e)) | inr in' ↦ in' ])),
        )
        | inr other ↦
            let same : get_or (set is.under_way.lists at rest) s [] ≡ get_or is.under_way.lists s [] = get_or-set_other is.under_way.lists at s rest [] other in (
              (λ c.
                  let w = (is.under_way.waits t s l).0 (subst (λ xs. Contains xs t) same c) in
                  to_new t s (λ e. other (same_Some s at (sym (subst (λ u. slice_get (get_or g.sources u []) (get_or k.passed.items u 0) ≡ Some s) e w.2) ∙ node_waits.2))) w),
              (λ w. subst (λ xs. Contains xs t) (sym same) ((is.under_way.waits t s l).1 (waited_before t s w).0)),
            )
      ]

      module _ (link : ℕ) (is_link : link ≡ get_or k.next_waiting.items node 0) (more : ℕ → ℕ) (one_more : IsOneFewer node more pending) where
        pub woken : IsUnderWay g done cs k.passed.items (set k.first_waiting.items at link) k.next_waiting.items more at
        woken =
            let h = is.under_way.held node node_within (let w = node_waits.1 in omega arith) in
            let one = node_waits.1 in
            let t = two in
            changed g done k.counts.items k.passed.items k.first_waiting.items k.next_waiting.items pending at is.under_way node node_within cs k.passed.items
            (length-set k.counts.items node v) is.under_way.passed_long elsewhere (λ t n. refl) more (λ t n. sym (one_more.1 t n))
            (set k.first_waiting.items at link) k.next_waiting.items (length-set k.first_waiting.items at link ∙ is.under_way.first_long) is.under_way.next_long
            (set is.under_way.lists at rest) (subst (λ x. AreChains (set k.first_waiting.items at x) k.next_waiting.items (set is.under_way.lists at rest)) (sym is_link) goes_on.3) listed
            (λ p. omega arith) (λ z. absurd (omega arith)) (λ i s b is_at. is.under_way.passed_done node i s node_within b is_at)
            (λ z. absurd (omega arith)) (λ s w d. absurd (not_now s w)) (λ d. absurd (let z = is.under_way.taken node node_within d in omega arith))

        pub ready_woken : (t : ℕ) → t < length cs → IsReadyAt (IsBehind k) k.end cs t ↔ ((get_or cs t 0 ≡ 0) × ¬ IsDone done t)
        ready_woken = search (rules, arith, node_waits, two, none_freed, length-set, elsewhere, node_within)
