-- The starts of parts, and the cuts among them.
use Rattle.std.proofs.Common.{◌≡◌, ◌≢◌, ◌⊎◌, inl, inr, ℕ, ◌+◌, ◌<◌, ◌≤◌, List, [], ◌∷◌, ◌++◌, length, eqb, refl, ap, sym, subst, ◌∙◌, arith}
use Rattle.std.specs.Prelude.{AllPairs, Contains}
use Rattle.std.specs.List.{dedup}
use Rattle.std.specs.List.Sorted.{IsStrictlyIncreasing, IsPermutation, IsSorted}
use Rattle.std.specs.Ordering.{nat_cmp}
use Rattle.std.proofs.lemmas.List.Elements.{Contains-append_left, Contains-push, Contains-push_cases}
use Rattle.std.proofs.lemmas.List.Kept.{AllPairs-from_increasing, Contains-dedup_nat, Contains-from_dedup}
use Rattle.std.proofs.lemmas.List.Sorted.{Contains-permutation, IsPermutation-sym}
use Rattle.std.proofs.lemmas.Map.Keys.{IsStrictlyIncreasing-dedup}
use Rattle.sia_events.specs.Lists.{Precedes, ListsAscending}
use Rattle.sia_events.proofs.Worked.OneList.{one_list_by}
use Rattle.sia_parts.specs.Parts.{HasTooManyCuts}
use Rattle.sia_parts.proofs.Auditing.Members.{first_or_later, contains_later, contains_none, first_before, later_pairs}

-- a part starts at s
abbrev pub IsStart : List ℕ → ℕ → Type 0
IsStart points s = (s ≡ 0) ⊎ Contains points s

-- the keys are cut at s
abbrev pub IsCut : List ℕ → ℕ → Type 0
IsCut points s = (s ≢ 0) × Contains points s

abbrev pub Rises : List ℕ → Type 0
Rises = AllPairs (λ x y. Precedes (x ∷ []) (y ∷ []))

less : (x y : ℕ) → Precedes (x ∷ []) (y ∷ []) → x < y
less x y (inl h) = h
less x y (inr h) = absurd h.1

pub Rises-from_increasing : (xs : List ℕ) → IsStrictlyIncreasing xs → Rises xs
Rises-from_increasing xs h i j d before below = inl (AllPairs-from_increasing xs h i j d before below)

pub increasing : (xs : List ℕ) → Rises xs → IsStrictlyIncreasing xs
increasing xs h k below = less _ _ (h k (k + 1) 0 (omega arith) below)

pub first_less : (s x : ℕ) (xs : List ℕ) → Rises (s ∷ xs) → Contains xs x → s < x
first_less s x xs h c = less s x (first_before (λ x y. Precedes (x ∷ []) (y ∷ [])) s x xs h c)

pub Rises-later : (s : ℕ) (xs : List ℕ) → Rises (s ∷ xs) → Rises xs
Rises-later s xs h = later_pairs (λ x y. Precedes (x ∷ []) (y ∷ [])) s xs h

-- the starts are 0 and the cuts after it
pub cuts_of : (points starts : List ℕ) → ListsAscending (IsStart points) starts → (cuts : List ℕ) × ListsAscending (IsCut points) cuts × (starts ≡ 0 ∷ cuts)
cuts_of points [] a = absurd (contains_none 0 ((a.each 0).1 (inl refl)))
cuts_of points (s ∷ cuts) a =
    let zero_first : s ≡ 0 = elim (first_or_later s 0 cuts ((a.each 0).1 (inl refl))) [
      | inl e ↦ e
      | inr c ↦ let l = first_less s 0 cuts a.ascending c in absurd (omega arith)
    ] in (
      cuts,
      record {
        ascending = Rises-later s cuts a.ascending;
        each = λ x. (
          (λ c. let l = first_less s x cuts a.ascending c in
              let differs : x ≢ 0 = λ e. omega arith in
              elim ((a.each x).0 (contains_later s x cuts c)) [
                | inl e ↦ absurd (differs e)
                | inr in_points ↦ (differs, in_points)
              ]),
          (λ h. elim (first_or_later s x cuts ((a.each x).1 (inr h.1))) [
            | inl e ↦ absurd (h.0 (sym e ∙ zero_first))
            | inr c ↦ c
          ]),
        );
      },
      λ i. zero_first i ∷ cuts,
    )

pub some_starts : (points starts : List ℕ) → ListsAscending (IsStart points) starts → 0 < length starts
some_starts points starts a = let c = cuts_of points starts a in let e = ap length c.2 in omega arith

-- more than 1,024 starts are too many cuts, and no fewer are
pub too_many_cuts : (points starts : List ℕ) → ListsAscending (IsStart points) starts → 1024 < length starts → HasTooManyCuts points
too_many_cuts points starts a many = let c = cuts_of points starts a in let e = ap length c.2 in (c.0, c.1, omega arith)

pub few_cuts : (points starts : List ℕ) → ListsAscending (IsStart points) starts → length starts ≤ 1024 → ¬ HasTooManyCuts points
few_cuts points starts a few many =
    let c = cuts_of points starts a in
    let e = ap length c.2 in
    let same = ap length (one_list_by (λ x. x ∷ []) (IsCut points) c.0 many.0 c.1 many.1) in
    let over = many.2 in
    omega arith

-- what a sort and a dedup leave of the points and 0
pub starts_of_points : (points sorted starts : List ℕ) → IsPermutation (points ++ 0 ∷ []) sorted → IsSorted nat_cmp sorted → starts ≡ dedup eqb sorted → ListsAscending (IsStart points) starts
starts_of_points points sorted starts moved order is = record {
  ascending = rw is (Rises-from_increasing (dedup eqb sorted) (IsStrictlyIncreasing-dedup sorted order));
  each = λ x. (into x, back x);
}
  where
    into : (x : ℕ) → Contains starts x → IsStart points x
    into x c = elim (Contains-push_cases points 0 x (Contains-permutation sorted (points ++ 0 ∷ []) x (IsPermutation-sym (points ++ 0 ∷ []) sorted moved) (Contains-from_dedup eqb sorted x (subst (λ xs. Contains xs x) is c)))) [
      | inl in_points ↦ inr in_points
      | inr e ↦ inl (sym e)
    ]

    kept : (x : ℕ) → Contains (points ++ 0 ∷ []) x → Contains starts x
    kept x c = subst (λ xs. Contains xs x) (sym is) (Contains-dedup_nat sorted x (Contains-permutation (points ++ 0 ∷ []) sorted x moved c))

    back : (x : ℕ) → IsStart points x → Contains starts x
    back x (inl e) = kept x (subst (λ y. Contains (points ++ 0 ∷ []) y) (sym e) (Contains-push points 0))
    back x (inr c) = kept x (Contains-append_left points (0 ∷ []) x c)
