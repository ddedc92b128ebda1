-- Positions of ids in a sorted list.
use Rattle.std.proofs.Common.{◌≡◌, inl, inr, ℕ, zero, suc, ◌<◌, ◌≤◌, true, false, List, length, get_or, ltb, ◌∙◌, arith, Contains}
use Rattle.std.specs.List.Sorted.{IsStrictlyIncreasing, IsNonDecreasingBy, IsPartitionPoint}
use Rattle.std.proofs.lemmas.Bool.{cases_lt, cases_order, ltb-true, ltb-false}
use Rattle.std.proofs.lemmas.List.{get_or_default}
use Rattle.std.proofs.lemmas.List.Kept.{AllPairs-from_increasing}

module _ (ids : List ℕ) (up : IsStrictlyIncreasing ids) where
  pub ids_less : (i j : ℕ) → i < j → j < length ids → get_or ids i 0 < get_or ids j 0
  ids_less i j l b = AllPairs-from_increasing ids up i j 0 l b

  pub ids_no_less : (i j : ℕ) → i ≤ j → j < length ids → get_or ids i 0 ≤ get_or ids j 0
  ids_no_less i j l b = grind (arith, cases_lt, ids_less)

  pub one_id : (i j : ℕ) → i < length ids → j < length ids → get_or ids i 0 ≡ get_or ids j 0 → i ≡ j
  one_id i j a b e = grind (arith, cases_order, ids_less)

  -- an id is no less than its place
  pub place_below : (k : ℕ) → k < length ids → k ≤ get_or ids k 0
  place_below zero l = omega arith
  place_below (suc k) l = let a = place_below k (omega arith) in let b = ids_less k (suc k) (omega arith) l in omega arith

  pub ids_rise : IsNonDecreasingBy (λ x. x) ids
  ids_rise i j d l b =
      let e = get_or_default ids i d 0 (omega arith) in
      omega (arith, get_or_default ids j d 0 b, ids_no_less i j l b)

  pub found_position : (t i : ℕ) → IsPartitionPoint (λ y. ltb y t ≡ true) (λ y. ltb y t ≡ false) ids i → Contains ids t → (i < length ids) × (get_or ids i 0 ≡ t)
  found_position t i point c =
      let k = c.0 in
      let e : get_or ids k 0 ≡ t = get_or_default ids k 0 t c.1 ∙ c.2 in
      elim (cases_lt k i) [
        | inl less ↦ let l = ltb-true (get_or ids k 0) t (point.0 k 0 (omega arith) less) in absurd (omega arith)
        | inr more ↦ grind (arith, get_or_default, cases_lt, ltb-true, ltb-false, ids_no_less)
      ]
