-- Lists in the order of two numbers: how a sort leaves one, and what stands in it side by side.
use Rattle.std.proofs.Common.{◌≡◌, ◌⊎◌, inl, inr, ℕ, ◌+◌, ◌<◌, ◌≤◌, zero, suc, false, List, ◌++◌, length, get_or, subst, sym, ap, ◌∙◌, add-one, arith}
use Rattle.std.specs.Prelude.{◌↔◌, Contains}
use Rattle.std.specs.List.Sorted.{IsNonDecreasingBy, IsSortedBy}
use Rattle.std.specs.Ordering.{is_lt, nat_cmp, ordering_then}
use Rattle.std.proofs.lemmas.Bool.{cases_lt}
use Rattle.std.proofs.lemmas.Bool.Decides.{nat_tests}
use Rattle.std.proofs.lemmas.List.{get_or_append_left, get_or-append-add, length-append}
use Rattle.std.proofs.lemmas.List.Elements.{All-contains, Contains-append_left, Contains-append_right, Contains-append_cases}
use Rattle.sia_parts.specs.Groups.{IsGroup}
use Rattle.sia_parts.specs.Grouped.{StandsBy, RiseBy}

not_less : (a b c d : ℕ) → is_lt (ordering_then (nat_cmp c a) (nat_cmp d b)) ≡ false → (a < c) ⊎ ((a ≡ c) × (b ≤ d))
not_less a b c d kept = grind (arith, nat_tests)

module _ {A : Type 0} (first second : A → ℕ) where
  stands_on : (a b c : A) → StandsBy first second a b → StandsBy first second b c → StandsBy first second a c
  stands_on a b c ab bc = grind arith

  stands_to : (xs : List A) → ((k : ℕ) (d : A) → k + 1 < length xs → StandsBy first second (get_or xs k d) (get_or xs (k + 1) d))
      → (j i : ℕ) (d : A) → i ≤ j → j < length xs → StandsBy first second (get_or xs i d) (get_or xs j d)
  stands_to xs near zero i d l b =
      let e : i ≡ 0 = omega arith in
      let f = ap (λ k. second (get_or xs k d)) e in
      inr (ap (λ k. first (get_or xs k d)) e, omega arith)
  stands_to xs near (suc j) i d l b = elim (cases_lt i (suc j)) [
    | inl less ↦ stands_on _ _ _ (stands_to xs near j i d (omega arith) (omega arith)) (subst (λ k. StandsBy first second (get_or xs j d) (get_or xs k d)) (add-one j) (near j d (omega arith)))
    | inr more ↦
        let e : i ≡ suc j = omega arith in
        let f = ap (λ k. second (get_or xs k d)) e in
        inr (ap (λ k. first (get_or xs k d)) e, omega arith)
  ]

  -- what a sort by both numbers leaves
  pub rise_from_sort : (xs : List A) → IsSortedBy (λ x y. is_lt (ordering_then (nat_cmp (first x) (first y)) (nat_cmp (second x) (second y)))) xs → RiseBy first second xs
  rise_from_sort xs up i j d l b = stands_to xs (λ k e m. not_less _ _ _ _ (up k e (omega arith) m)) j i d l b

  pub firsts_rise : (xs : List A) → RiseBy first second xs → IsNonDecreasingBy first xs
  firsts_rise xs up i j d l b = elim (up i j d l b) [ inl less ↦ omega arith | inr same ↦ let e = same.0 in omega arith ]

  -- what has one first number rises by the second
  pub group_rises : (xs : List A) (t : ℕ) (group : List A) → RiseBy first second xs → IsGroup first xs t group → IsNonDecreasingBy second group
  group_rises xs t group up is i j d l b =
      let before = is.0 in
      let after = is.1 in
      let at : (k : ℕ) → k < length group → get_or xs (length before + k) d ≡ get_or group k d = λ k m.
      ap (λ (ys : List A). get_or ys (length before + k) d) is.2 ∙ get_or-append-add before (group ++ after) k d ∙ get_or_append_left group after d k m in
      let long : length xs ≡ length before + (length group + length after) = ap (length {A = A}) is.2 ∙ length-append before (group ++ after) ∙ ap (λ n. length before + n) (length-append group after) in
      let one = at i (omega arith) in
      let two = at j b in
      let f = is.4 i d (omega arith) in
      let g = is.4 j d b in
      elim (up (length before + i) (length before + j) d (omega arith) (omega arith)) [
        | inl less ↦ let p = ap first one in let q = ap first two in absurd (omega arith)
        | inr same ↦ let s = same.1 in let p = ap second one in let q = ap second two in omega arith
      ]

-- what has the number is in the group, and nothing else is
pub group_holds : {A : Type 0} (number : A → ℕ) (xs : List A) (t : ℕ) (group : List A) → IsGroup number xs t group → (x : A) → Contains group x ↔ (Contains xs x × (number x ≡ t))
group_holds {A} number xs t group is x =
    let before = is.0 in
    let after = is.1 in (
      (λ has. (subst (λ (ys : List A). Contains ys x) (sym is.2) (Contains-append_right before (group ++ after) x (Contains-append_left group after x has)), All-contains (λ y. number y ≡ t) group x is.4 has)),
      (λ has. elim (Contains-append_cases before (group ++ after) x (subst (λ (ys : List A). Contains ys x) is.2 has.0)) [
        | inl front ↦ let less = All-contains (λ y. number y < t) before x is.3 front in let e = has.1 in absurd (omega arith)
        | inr back ↦ elim (Contains-append_cases group after x back) [
          | inl within ↦ within
          | inr end ↦ let more = All-contains (λ y. t < number y) after x is.5 end in let e = has.1 in absurd (omega arith)
        ]
      ]),
    )
