-- The keys that were passed over, cut between own ones, stretch by stretch.
use Rattle.std.proofs.Common.{◌≡◌, ◌⊎◌, inl, inr, ℕ, ◌+◌, ◌<◌, ◌≤◌, List, [], ◌∷◌, ◌++◌, Bor, Option, None, Some, true, false, length, get_or, ltb, min, unwrap_or, sym, subst, arith, ◌↔◌, Contains, IfSome, is_some, option_copied}
use Rattle.std.specs.List.Sorted.{IsNonDecreasing, IsPartitionPoint}
use Rattle.std.proofs.lemmas.Bool.{cases_lt, ltb-true, ltb-false}
use Rattle.std.proofs.lemmas.List.{get_or_default}
use Rattle.sia_parts.specs.declared.accesses.RangeMiss.{RangeMiss}
use Rattle.sia_parts.specs.Sights.{Adds}
use Rattle.sia_parts.proofs.Shared.Adding.{adds_both, adds_same, some_push}
use Rattle.sia_graph.specs.Passed.{IsHeldBy}

-- what is found by a search in numbers that don't descend
module _ (numbers : List ℕ) (rise : IsNonDecreasing numbers) (start at : ℕ) (point : IsPartitionPoint (λ n. ltb n start ≡ true) (λ n. ltb n start ≡ false) numbers at) where
  pub none_from : (end : ℕ) → ((k : ℕ) (d : ℕ) → at ≤ k → k < length numbers → end ≤ get_or numbers k d) → (n : ℕ) → start ≤ n → n < end → ¬ Contains numbers n
  none_from end rest n from before c = grind (arith, cases_lt, ltb-true)

  pub rest_from : (x : ℕ) → at < length numbers → x ≡ get_or numbers at x → (k : ℕ) (d : ℕ) → at ≤ k → k < length numbers → x ≤ get_or numbers k d
  rest_from x inside is k d l below = let a = rise at k d l below in let e = get_or_default numbers at d x inside in omega arith

  pub above : (x : ℕ) → at < length numbers → x ≡ get_or numbers at x → start ≤ x
  above x inside is = let a = ltb-false (get_or numbers at x) start (point.1 at x (omega arith) inside) in omega arith

-- the first of the keys from one to before another, or the other
abbrev pub IsNextKey : List ℕ → ℕ → ℕ → ℕ → Type 0
IsNextKey keys from to next = (from ≤ next) × (next ≤ to) × ((j : ℕ) → from ≤ j → j < next → ¬ Contains keys j) × (next < to → Contains keys next)

pub next_key : (keys : List ℕ) (rise : IsNonDecreasing keys) (from at : ℕ) (point : IsPartitionPoint (λ n. ltb n from ≡ true) (λ n. ltb n from ≡ false) keys at) (got : Option (Bor ℕ)) (to next : ℕ)
    → from ≤ to → is_some got ≡ ltb at (length keys) → IfSome got (λ there. there.now ≡ get_or keys at there.now) → next ≡ min (unwrap_or (option_copied got) to) to → IsNextKey keys from to next
next_key keys rise from at point None to next order none here is = grind (arith, ltb-false, none_from, ltb-true, rest_from, above)
next_key keys rise from at point (Some there) to next order some here is =
    let inside = ltb-true at (length keys) (sym some) in
    let up = above keys rise from at point there.now inside here in (
      omega arith,
      omega arith,
      none_from keys rise from at point next (λ k d l b. let r = (rest_from keys rise from at point there.now inside here) k d l b in omega arith),
      λ l. let same : there.now ≡ next = omega arith in subst (λ x. Contains keys x) same (at, inside, sym here),
    )

-- one stretch more
pub held_push : (xs : List RangeMiss) (s : RangeMiss) (j : ℕ) → (IsHeldBy xs j ⊎ ((s.from ≤ j) × (j < s.to))) ↔ IsHeldBy (xs ++ s ∷ []) j
held_push xs s j = some_push (λ (s : RangeMiss) j. (s.from ≤ j) × (j < s.to)) xs s j

-- what was cut up to a key
pub record HasCutTo (keys : List ℕ) (start to : ℕ) (own₀ own : List ℕ) (held₀ held : List RangeMiss) (from : ℕ) : Type 0 where
  pub started : start ≤ from
  pub own_are : Adds (λ j. (start ≤ j) × (j < to) × (j < from) × Contains keys j) own₀ own
  pub held_are : (j : ℕ) → IsHeldBy held j ↔ (IsHeldBy held₀ j ⊎ ((start ≤ j) × (j < to) × (j < from) × ¬ Contains keys j))

module _ (keys : List ℕ) (start to : ℕ) (own₀ : List ℕ) (held₀ : List RangeMiss) where
  pub cut_more : (own mid : List ℕ) (held : List RangeMiss) (from next : ℕ) → HasCutTo keys start to own₀ own held₀ held from → IsNextKey keys from to next
      → Adds (λ j. (j ≡ next) × (next < to)) own mid
      → HasCutTo keys start to own₀ mid held₀ (held ++ record { from = from; to = next } ∷ []) (next + 1)
  cut_more own mid held from next cut (up, most, none, is) adds = record {
    started = let a = cut.started in omega arith;
    own_are =
        adds_same (λ j. ((start ≤ j) × (j < to) × (j < from) × Contains keys j) ⊎ ((j ≡ next) × (next < to))) (λ j. (start ≤ j) × (j < to) × (j < next + 1) × Contains keys j) own₀ mid
        (λ j e. elim e [
          | inl p ↦ (p.0, p.1, (let a = p.2 in omega arith), p.3)
          | inr p ↦ let a = cut.started in let e = p.0 in let l = p.1 in (omega arith, omega arith, omega arith, subst (Contains keys) (sym p.0) (is p.1))
        ])
        (λ j p. elim (cases_lt j from) [
          | inl before ↦ inl (p.0, p.1, before, p.3)
          | inr after ↦ elim (cases_lt j next) [
            | inl between ↦ absurd (none j after between p.3)
            | inr last ↦ let a = p.2 in let b = p.1 in inr (omega arith, omega arith)
          ]
        ])
        (adds_both (λ j. (start ≤ j) × (j < to) × (j < from) × Contains keys j) (λ j. (j ≡ next) × (next < to)) own₀ own mid cut.own_are adds);
    held_are = λ j. (
      (λ u. elim ((held_push held (record { from = from; to = next }) j).1 u) [
        | inl before ↦ elim ((cut.held_are j).0 before) [ inl o ↦ inl o | inr p ↦ inr (p.0, p.1, (let a = p.2 in omega arith), p.3) ]
        | inr p ↦ let a = cut.started in let b = p.0 in let l = p.1 in inr (omega arith, omega arith, omega arith, none j b l)
      ]),
      (λ e. (held_push held (record { from = from; to = next }) j).0 (elim e [
        | inl o ↦ inl ((cut.held_are j).1 (inl o))
        | inr p ↦ elim (cases_lt j from) [
          | inl before ↦ inl ((cut.held_are j).1 (inr (p.0, p.1, before, p.3)))
          | inr after ↦ elim (cases_lt j next) [
            | inl between ↦ inr (after, between)
            | inr last ↦ let a = p.2 in let b = p.1 in let same : next ≡ j = omega arith in absurd (p.3 (subst (Contains keys) same (is (omega arith))))
          ]
        ]
      ])),
    );
  }

  pub cut_own : (own : List ℕ) (held : List RangeMiss) (from : ℕ) → HasCutTo keys start to own₀ own held₀ held from → to ≤ from → Adds (λ j. (start ≤ j) × (j < to) × Contains keys j) own₀ own
  cut_own own held from cut all =
      adds_same (λ j. (start ≤ j) × (j < to) × (j < from) × Contains keys j) (λ j. (start ≤ j) × (j < to) × Contains keys j) own₀ own
      (λ j p. (p.0, p.1, p.3))
      (λ j p. (p.0, p.1, (let a = p.1 in omega arith), p.2)) cut.own_are

  pub cut_held : (own : List ℕ) (held : List RangeMiss) (from : ℕ) → HasCutTo keys start to own₀ own held₀ held from → to ≤ from
      → (j : ℕ) → IsHeldBy held j ↔ (IsHeldBy held₀ j ⊎ ((start ≤ j) × (j < to) × ¬ Contains keys j))
  cut_held own held from cut all j = (
    (λ u. elim ((cut.held_are j).0 u) [ inl o ↦ inl o | inr p ↦ inr (p.0, p.1, p.3) ]),
    (λ e. (cut.held_are j).1 (elim e [ inl o ↦ inl o | inr p ↦ inr (p.0, p.1, (let a = p.1 in omega arith), p.2) ])),
  )
