-- The least transaction that is left and has an edge to another, by their numbers and by their places in a list.
-- Going back along the least sources.
use Rattle.std.proofs.Common.{◌≡◌, ◌≢◌, ◌⊎◌, inl, inr, ℕ, ◌+◌, ◌<◌, ◌≤◌, Bool, List, [], ◌∷◌, ◌++◌, length, get_or, refl, sym, subst, arith, zero, suc, ◌-◌, true, false, set, replicate, slice_get, Option, Some, None, ap, ◌∙◌, count_by}
use Rattle.std.proofs.lemmas.Bool.{cases_lt, cases_eq}
use Rattle.std.proofs.lemmas.List.{get_or_append_left, get_or_push, length_push, get_or-set_same, get_or-set_other, length-set, length-replicate}
use Rattle.sia_events.specs.declared.event.Event.{Event}
use Rattle.sia_events.specs.Lists.{ListsAscending}
use Rattle.sia_events.specs.Refusals.{IsWellFormed}
use Rattle.sia_events.specs.Transactions.{IsCommitted}
use Rattle.sia_parts.specs.Entries.{IsEdge}
use Rattle.sia_graph.specs.Orders.{Leads}
use Rattle.sia_graph.specs.Previous.{IsLeftIn}
use Rattle.sia_graph.specs.Twos.{IsLeastNumber, IsLeftSource}
use Rattle.sia_graph.specs.Walks.{IsLeastSource, IsSource, back, StaysWithin}
use Rattle.sia_graph.proofs.Shared.Numbered.{txn_number}
use Rattle.sia_parts.proofs.EdgeRows.Readings.{few_txns}
use Rattle.std.proofs.lemmas.List.Sums.{sum_by-set}
use Rattle.std.proofs.lemmas.Option.{same_Some, slice_get_within, slice_get-get_or, get_or_from_slice_get}
use Rattle.sia_graph.proofs.Shared.Counted.{count_first}

-- p is the least of these, or i itself where there is none
abbrev pub IsPrevious : List Event → List Bool → ℕ → ℕ → Type 0
IsPrevious h left i p = (IsLeftSource h left i p × ((q : ℕ) → IsLeftSource h left i q → p ≤ q)) ⊎ ((p ≡ i) × ((q : ℕ) → ¬ IsLeftSource h left i q))

module _ (h : List Event) (txns : List ℕ) (are : ListsAscending (IsCommitted h) txns) (left : List Bool) (i : ℕ) (inside : i < length txns) where
  source_of : (r : ℕ) → IsLeftSource h left i r → IsSource txns (IsEdge h) (IsLeftIn left) i r
  source_of r (is, t, u, at, other, leads) =
      let a = txn_number h txns are r t at in
      (a.0, is, subst (λ x. Leads (IsEdge h) x (get_or txns i 0)) (sym a.1) (subst (λ x. Leads (IsEdge h) t x) (sym (txn_number h txns are i u other).1) leads))

  of_source : (r : ℕ) → IsSource txns (IsEdge h) (IsLeftIn left) i r → IsLeftSource h left i r
  of_source r (within, is, leads) = (is, get_or txns r 0, get_or txns i 0, (txns, are, within, refl), (txns, are, inside, refl), leads)

  pub least_source : (p : ℕ) → IsPrevious h left i p → IsLeastSource txns (IsEdge h) (IsLeftIn left) i p ⊎ ((p ≡ i) × ((q : ℕ) → ¬ IsSource txns (IsEdge h) (IsLeftIn left) i q))
  least_source p (inl has) = inl (source_of p has.0, λ q is. has.1 q (of_source q is))
  least_source p (inr none) = inr (none.0, λ q is. none.1 q (of_source q is))

  -- what the least number says of it
  pub previous_is : IsWellFormed h → (r p : ℕ) → (r ≡ 4294967295 → p ≡ i) → (r ≢ 4294967295 → p ≡ r) → IsLeastNumber (IsLeftSource h left i) r → IsPrevious h left i p
  previous_is wf r p none some (inl has) =
      let e = some (λ e. omega (arith, few_txns h wf txns are, (source_of r has.0).0)) in
      inl (subst (λ n. IsLeftSource h left i n × ((q : ℕ) → IsLeftSource h left i q → n ≤ q)) (sym e) has)
  previous_is wf r p none some (inr lacks) = inr (none lacks.0, lacks.1)

-- one place more
pub previous_more : (P : ℕ → ℕ → Type 0) (xs new : List ℕ) (n x : ℕ) → new ≡ xs ++ x ∷ [] → length xs ≡ n → ((j : ℕ) → j < n → P j (get_or xs j 0)) → P n x
    → (length new ≡ n + 1) × ((j : ℕ) → j < n + 1 → P j (get_or new j 0))
previous_more P xs new n x is long all here = grind (arith, length_push, cases_lt, get_or_append_left, get_or_push)

module _ (previous : List ℕ) where
  pub back_more : (m n i : ℕ) → back previous (m + n) i ≡ back previous n (back previous m i)
  back_more zero n i = let e : 0 + n ≡ n = omega arith in ap (λ k. back previous k i) e
  back_more (suc m) n i = let e : suc m + n ≡ suc (m + n) = omega arith in ap (λ k. back previous k i) e ∙ back_more m n (get_or previous i 0)

  -- one more step at the end
  pub back_next : (n i : ℕ) → back previous (n + 1) i ≡ get_or previous (back previous n i) 0
  back_next n i = back_more n 1 i

  pub stays : StaysWithin previous → (n i : ℕ) → i < length previous → back previous n i < length previous
  stays within zero i l = l
  stays within (suc n) i l = stays within n (get_or previous i 0) (within i l)

  -- what leads to itself does so from each position that it reaches
  pub round_again : (m n i : ℕ) → back previous n i ≡ i → back previous n (back previous m i) ≡ back previous m i
  round_again m n i e =
      let c : m + n ≡ n + m = omega arith in
      sym (back_more m n i) ∙ ap (λ k. back previous k i) c ∙ back_more n m i ∙ ap (back previous m) e

  -- each position on the way round is reached within one round
  pub within_round : (period i : ℕ) → 0 < period → back previous period i ≡ i → (n : ℕ) → (m : ℕ) × (m ≤ period) × (back previous m i ≡ back previous n i)
  within_round period i some round n = by_steps n (suc n) (omega arith)
    where
      by_steps : (n fuel : ℕ) → n < fuel → (m : ℕ) × (m ≤ period) × (back previous m i ≡ back previous n i)
      by_steps n zero l = absurd (omega arith)
      by_steps n (suc fuel) l = elim (cases_lt period n) [
        | inr few ↦ (n, few, refl)
        | inl many ↦
            let w = by_steps (n - period) fuel (omega arith) in
            let e : period + (n - period) ≡ n = omega arith in
            (w.0, w.1, w.2 ∙ ap (back previous (n - period)) (sym round) ∙ sym (back_more period (n - period) i) ∙ ap (λ k. back previous k i) e)
      ]

abbrev pub is_unseen : Option ℕ → Bool
is_unseen None = true
is_unseen (Some first) = false

-- where each position that was reached is noted with the steps to it
pub record IsNoted (previous : List ℕ) (start : ℕ) (seen : List (Option ℕ)) (steps at : ℕ) : Type 0 where
  pub long : length seen ≡ length previous
  pub within : at < length previous
  pub reached : back previous steps start ≡ at
  pub noted : (i first : ℕ) → slice_get seen i ≡ Some (Some first) → (first < steps) × (back previous first start ≡ i)
  pub rest : steps + count_by is_unseen seen ≡ length previous

module _ (previous : List ℕ) (start : ℕ) (seen : List (Option ℕ)) (steps at : ℕ) (n : IsNoted previous start seen steps at) (d : Option ℕ) where
  pub unseen_fewer : (v : Option ℕ) → is_unseen v ≡ false → get_or seen at d ≡ None → count_by is_unseen (set seen at v) + 1 ≡ count_by is_unseen seen
  unseen_fewer v noted none = grind (arith, sum_by-set)

  pub noted_more : StaysWithin previous → get_or seen at d ≡ None → IsNoted previous start (set seen at (Some steps)) (steps + 1) (get_or previous at 0)
  noted_more within none = record {
    long = length-set seen at (Some steps) ∙ n.long;
    within = within at n.within;
    reached = back_next previous steps start ∙ ap (λ i. get_or previous i 0) n.reached;
    noted = λ i first is. elim (cases_eq i at) [
      | inl e ↦
          let l : at < length seen = let a = n.long in let b = n.within in omega arith in
          let f : ◌≡◌ {A = Option ℕ} (Some steps) (Some first) = sym (get_or-set_same seen at (Some steps) d l) ∙ ap (λ k. get_or (set seen at (Some steps)) k d) (sym e) ∙ get_or_from_slice_get (set seen at (Some steps)) i (Some first) d is in
          let g = same_Some steps first f in
          (omega arith, ap (λ k. back previous k start) (sym g) ∙ n.reached ∙ sym e)
      | inr other ↦
          let l = slice_get_within (set seen at (Some steps)) i (Some first) is in
          let long = length-set seen at (Some steps) in
          let e : get_or seen i d ≡ Some first = sym (get_or-set_other seen at i (Some steps) d other) ∙ get_or_from_slice_get (set seen at (Some steps)) i (Some first) d is in
          let w = n.noted i first (slice_get-get_or seen i d (omega arith) ∙ ap Some e) in
          (omega arith, w.1)
    ];
    rest = let e = unseen_fewer (Some steps) refl none in let r = n.rest in omega arith;
  }

  pub round_found : (first : ℕ) → get_or seen at d ≡ Some first → (first < steps) × (back previous (steps - first) at ≡ at)
  round_found first is =
      let l : at < length seen = let a = n.long in let b = n.within in omega arith in
      let w = n.noted at first (slice_get-get_or seen at d l ∙ ap Some is) in
      let e : first + (steps - first) ≡ steps = omega arith in
      (w.0, ap (back previous (steps - first)) (sym w.1) ∙ sym (back_more previous first (steps - first) start) ∙ ap (λ k. back previous k start) e ∙ n.reached)

pub none_noted : (previous : List ℕ) (start n : ℕ) → start < length previous → n ≡ length previous → IsNoted previous start (replicate n None) 0 start
none_noted previous start n l long = record {
  long = length-replicate n None ∙ long;
  within = l;
  reached = refl;
  noted = λ i first is. absurd (nowhere n i first is);
  rest = let e = all_unseen n in omega arith;
}
  where
    nowhere : (n i first : ℕ) → slice_get (replicate {A = Option ℕ} n None) i ≡ Some (Some first) → ⊥
    nowhere zero i first is = cc
    nowhere (suc n) zero first is = cc
    nowhere (suc n) (suc i) first is = nowhere n i first is

    all_unseen : (n : ℕ) → count_by is_unseen (replicate n None) ≡ n
    all_unseen zero = refl
    all_unseen (suc n) =
        omega (arith, count_first is_unseen None (replicate n None) refl, all_unseen n)

-- the least position so far
pub least_more : (previous : List ℕ) (start step at least next : ℕ) → at ≡ back previous step start → next ≡ get_or previous at 0
    → ((n : ℕ) × (n ≤ step) × (back previous n start ≡ least)) → ((n : ℕ) → n ≤ step → least ≤ back previous n start)
    → (now : ℕ) → ((next < least) × (now ≡ next)) ⊎ ((least ≤ next) × (now ≡ least))
    → ((n : ℕ) × (n ≤ step + 1) × (back previous n start ≡ now)) × ((n : ℕ) → n ≤ step + 1 → now ≤ back previous n start)
least_more previous start step at least next is after reached low now chosen = (
  by_choice chosen,
  λ n l. elim (cases_lt step n) [
    | inr few ↦ let a = low n few in elim chosen [ inl w ↦ let b = w.0 in let c = w.1 in omega arith | inr w ↦ let c = w.1 in omega arith ]
    | inl last ↦
        let e : n ≡ step + 1 = omega arith in
        let f = ap (λ k. back previous k start) e ∙ next_is in
        elim chosen [ inl w ↦ let c = w.1 in omega arith | inr w ↦ let b = w.0 in let c = w.1 in omega arith ]
  ],
)
  where
    next_is : back previous (step + 1) start ≡ next
    next_is = back_next previous step start ∙ ap (λ i. get_or previous i 0) (sym is) ∙ sym after

    by_choice : ((next < least) × (now ≡ next)) ⊎ ((least ≤ next) × (now ≡ least)) → (n : ℕ) × (n ≤ step + 1) × (back previous n start ≡ now)
    by_choice (inl w) = (step + 1, omega arith, next_is ∙ sym w.1)
    by_choice (inr w) = (reached.0, (let l = reached.1 in omega arith), reached.2 ∙ sym w.1)

-- as many steps back as there are positions end where some further ones lead back to
pub ends_round : (previous : List ℕ) (start : ℕ) → StaysWithin previous → start < length previous
    → (period : ℕ) × (0 < period) × (period ≤ length previous) × (back previous period (back previous (length previous) start) ≡ back previous (length previous) start)
ends_round previous start within l = from (length previous) _ 0 start (none_noted previous start (length previous) l refl) (omega arith)
  where
    look : (o : Option ℕ) → (o ≡ None) ⊎ ((first : ℕ) × (o ≡ Some first))
    look None = inl refl
    look (Some first) = inr (first, refl)

    found : (seen : List (Option ℕ)) (steps at : ℕ) → IsNoted previous start seen steps at → (first : ℕ) → get_or seen at None ≡ Some first
        → (period : ℕ) × (0 < period) × (period ≤ length previous) × (back previous period (back previous (length previous) start) ≡ back previous (length previous) start)
    found seen steps at n first is =
        let w = round_found previous start seen steps at n None first is in
        let r = n.rest in
        let e : steps + (length previous - steps) ≡ length previous = omega arith in
        let there : back previous (length previous - steps) at ≡ back previous (length previous) start =
        ap (back previous (length previous - steps)) (sym n.reached) ∙ sym (back_more previous steps (length previous - steps) start) ∙ ap (λ k. back previous k start) e in
        (steps - first, omega arith, omega arith, subst (λ i. back previous (steps - first) i ≡ i) there (round_again previous (length previous - steps) (steps - first) at w.1))

    from : (fuel : ℕ) (seen : List (Option ℕ)) (steps at : ℕ) → IsNoted previous start seen steps at → length previous ≤ steps + fuel
        → (period : ℕ) × (0 < period) × (period ≤ length previous) × (back previous period (back previous (length previous) start) ≡ back previous (length previous) start)
    from zero seen steps at n few = elim (look (get_or seen at None)) [
      | inl none ↦ absurd (let u = unseen_fewer previous start seen steps at n None (Some steps) refl none in let r = n.rest in omega arith)
      | inr some ↦ found seen steps at n some.0 some.1
    ]
    from (suc fuel) seen steps at n few = elim (look (get_or seen at None)) [
      | inl none ↦ from fuel (set seen at (Some steps)) (steps + 1) (get_or previous at 0) (noted_more previous start seen steps at n None within none) (omega arith)
      | inr some ↦ found seen steps at n some.0 some.1
    ]
