-- The steps of a cycle, made from the last to the first by going back from the least transaction on it.
use Rattle.std.proofs.Common.{◌≡◌, ◌≢◌, inl, inr, ℕ, ◌+◌, ◌<◌, ◌≤◌, List, [], ◌∷◌, ◌++◌, length, get_or, reverse, ap, sym, ◌∙◌, subst, arith, All}
use Rattle.std.specs.List.Sorted.{IsStrictlyIncreasing}
use Rattle.std.proofs.lemmas.Bool.{cases_lt}
use Rattle.std.proofs.lemmas.List.{reverse-append, length_push}
use Rattle.std.proofs.lemmas.List.Elements.{All-push}
use Rattle.std.proofs.lemmas.List.Sorted.{All-permutation, IsPermutation-reverse}
use Rattle.sia_parts.specs.declared.finding.Edge.{Edge}
use Rattle.sia_graph.specs.declared.cycle.Step.{Step}
use Rattle.sia_graph.specs.Cycles.{IsPrevious, GoesRound, TakesLeastEdge, StartsAtLeast}
use Rattle.sia_graph.specs.Walks.{back, StaysWithin, LeadsBack, GoesRoundFrom}
use Rattle.sia_graph.proofs.Shared.AscendingIds.{ids_less}
use Rattle.sia_graph.proofs.Cycles.Walks.{back_next}

-- where the steps start
abbrev pub start_of : List Step → ℕ → ℕ
start_of [] home = home
start_of (s ∷ steps) home = s.txn

pub record IsPartOfRound (ids : List ℕ) (IsEdge : Edge → Type 0) (previous : List ℕ) (home period : ℕ) (made : List Step) (at : ℕ) : Type 0 where
  pub inside : at < length previous
  pub few : length made < period
  pub reached : at ≡ back previous (length made) home
  pub above : All (λ s. get_or ids home 0 < s.txn) made
  pub round : (stuck : List ℕ) → LeadsBack stuck ids IsEdge previous home
      → GoesRound IsEdge stuck (reverse made) (get_or ids home 0) × (start_of (reverse made) (get_or ids home 0) ≡ get_or ids at 0)

-- no step yet
pub part_none : (ids : List ℕ) (IsEdge : Edge → Type 0) (previous : List ℕ) (home period : ℕ) → home < length previous → 0 < period → IsPartOfRound ids IsEdge previous home period [] home
part_none ids IsEdge previous home period p q = grind arith

-- one more step in front
step_first : (E : Edge → Type 0) (stuck : List ℕ) (s : Step) (steps : List Step) (home : ℕ) → IsPrevious E stuck s.txn (start_of steps home) → TakesLeastEdge E s (start_of steps home)
    → GoesRound E stuck steps home → GoesRound E stuck (s ∷ steps) home
step_first E stuck s [] home p t g = (p, t)
step_first E stuck s (next ∷ steps) home p t g = (p, t, g)

reverse_push : (made : List Step) (s : Step) → reverse (made ++ s ∷ []) ≡ s ∷ reverse made
reverse_push made s = reverse-append made (s ∷ [])

module _ (ids : List ℕ) (up : IsStrictlyIncreasing ids) (IsEdge : Edge → Type 0) (previous : List ℕ) (long : length previous ≡ length ids) (within : StaysWithin previous)
    (home : ℕ) (in' : home < length previous) (period : ℕ) (round : back previous period home ≡ home) (least : (n : ℕ) → home ≤ back previous n home)
    (made : List Step) (at : ℕ) (part : IsPartOfRound ids IsEdge previous home period made at) (s : Step)
    (from : s.txn ≡ get_or ids (get_or previous at 0) 0) (takes : TakesLeastEdge IsEdge s (get_or ids at 0)) where
  next_at : get_or previous at 0 ≡ back previous (length made + 1) home
  next_at = ap (λ i. get_or previous i 0) part.reached ∙ sym (back_next previous (length made) home)

  round_more : (stuck : List ℕ) → LeadsBack stuck ids IsEdge previous home
      → GoesRound IsEdge stuck (reverse (made ++ s ∷ [])) (get_or ids home 0) × (start_of (reverse (made ++ s ∷ [])) (get_or ids home 0) ≡ get_or ids (get_or previous at 0) 0)
  round_more stuck leads =
      let w = part.round stuck leads in
      let p : IsPrevious IsEdge stuck s.txn (get_or ids at 0) =
      subst (λ x. IsPrevious IsEdge stuck x (get_or ids at 0)) (sym from)
      (subst (λ i. IsPrevious IsEdge stuck (get_or ids (get_or previous i 0) 0) (get_or ids i 0)) (sym part.reached) (leads (length made))) in
      let g = step_first IsEdge stuck s (reverse made) (get_or ids home 0)
      (subst (λ x. IsPrevious IsEdge stuck s.txn x) (sym w.1) p)
      (subst (λ x. TakesLeastEdge IsEdge s x) (sym w.1) takes) w.0 in
      subst (λ l. GoesRound IsEdge stuck l (get_or ids home 0) × (start_of l (get_or ids home 0) ≡ get_or ids (get_or previous at 0) 0)) (sym (reverse_push made s)) (g, from)

  pub part_more : get_or previous at 0 ≢ home → IsPartOfRound ids IsEdge previous home period (made ++ s ∷ []) (get_or previous at 0)
  part_more other = record {
    inside = within at part.inside;
    few =
        let l = part.few in
        let e = length_push made s in
        elim (cases_lt (length made + 1) period) [
          | inl less ↦ omega arith
          | inr more ↦ let same : length made + 1 ≡ period = omega arith in absurd (other (next_at ∙ ap (λ k. back previous k home) same ∙ round))
        ];
    reached = next_at ∙ ap (λ k. back previous k home) (sym (length_push made s));
    above = All-push (λ x. get_or ids home 0 < x.txn) made s part.above
        (let l = least (length made + 1) in
        let e = next_at in
        let less : home < get_or previous at 0 = elim (cases_lt home (get_or previous at 0)) [ inl less ↦ less | inr more ↦ absurd (other (omega arith)) ] in
        let a = ids_less ids up home (get_or previous at 0) less (omega arith) in
        omega arith);
    round = round_more;
  }

  pub round_made : get_or previous at 0 ≡ home → (stuck : List ℕ) → LeadsBack stuck ids IsEdge previous home → GoesRoundFrom stuck IsEdge (get_or ids home 0) (reverse (made ++ s ∷ []))
  round_made back_home stuck leads =
      let first : s.txn ≡ get_or ids home 0 = from ∙ ap (λ i. get_or ids i 0) back_home in
      let g : GoesRound IsEdge stuck (s ∷ reverse made) (get_or ids home 0) = subst (λ l. GoesRound IsEdge stuck l (get_or ids home 0)) (reverse_push made s) (round_more stuck leads).0 in
      subst (λ l. GoesRoundFrom stuck IsEdge (get_or ids home 0) l) (sym (reverse_push made s)) (
        first,
        subst (λ h. StartsAtLeast (reverse made) h) (sym first) (All-permutation (λ x. get_or ids home 0 < x.txn) made (reverse made) (IsPermutation-reverse made) part.above),
        subst (λ h. GoesRound IsEdge stuck (s ∷ reverse made) h) (sym first) g,
      )
