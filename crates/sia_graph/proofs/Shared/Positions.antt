-- Elements of lists by their positions.
use Rattle.std.proofs.Common.{◌≡◌, ◌≢◌, ◌⊎◌, inl, inr, ℕ, zero, suc, ◌+◌, true, false, List, [], ◌∷◌, ◌++◌, length, slice_get, Some, eqb, ap, sym, ◌∙◌, refl, arith, Contains, AllPairs, take, get_or, subst, ◌↔◌, ◌<◌}
use Rattle.std.proofs.lemmas.Bool.{or_cases, or_left, or_right, cases_order, eqb-true, eq-eqb}
use Rattle.std.proofs.lemmas.Option.{same_Some, slice_get_within, slice_get-get_or, get_or_from_slice_get}
use Rattle.sia_events.proofs.LogRows.RowsRead.{get_more}
use Rattle.sia_graph.specs.Fronts.{stands}
use Rattle.std.proofs.lemmas.List.{take_more}
use Rattle.std.proofs.lemmas.List.Elements.{Contains-append_left, Contains-push, Contains-push_cases}

-- x has a position in xs
abbrev pub Stands : {A : Type 0} → List A → A → Type 0
Stands xs x = (i : ℕ) × (slice_get xs i ≡ Some x)

module _ {A : Type 0} where
  pub contains_stands : (xs : List A) (x : A) → Contains xs x → Stands xs x
  contains_stands xs x c = (c.0, slice_get-get_or xs c.0 x c.1 ∙ ap Some c.2)

  pub stands_contains : (xs : List A) (x : A) → Stands xs x → Contains xs x
  stands_contains xs x s = (s.0, slice_get_within xs s.0 x s.1, get_or_from_slice_get xs s.0 x x s.1)

  pub get_right : (xs ys : List A) (i : ℕ) (x : A) → slice_get ys i ≡ Some x → slice_get (xs ++ ys) (length xs + i) ≡ Some x
  get_right [] ys i x e = let same : 0 + i ≡ i = omega arith in ap (slice_get ys) same ∙ e
  get_right (y ∷ xs) ys i x e = let same : suc (length xs) + i ≡ suc (length xs + i) = omega arith in ap (slice_get (y ∷ (xs ++ ys))) same ∙ get_right xs ys i x e

  pub get_cases : (xs ys : List A) (i : ℕ) (x : A) → slice_get (xs ++ ys) i ≡ Some x → (slice_get xs i ≡ Some x) ⊎ ((j : ℕ) × (i ≡ length xs + j) × (slice_get ys j ≡ Some x))
  get_cases [] ys i x e = inr (i, omega arith, e)
  get_cases (y ∷ xs) ys zero x e = inl e
  get_cases (y ∷ xs) ys (suc i) x e = grind (arith, get_cases xs ys i x e)

  pub only_one : (x y : A) (j : ℕ) → slice_get (y ∷ []) j ≡ Some x → (j ≡ 0) × (y ≡ x)
  only_one x y j p = grind (arith, same_Some)

  pub only_one_in : (x y : A) → Contains (x ∷ []) y → x ≡ y
  only_one_in x y c = let s = contains_stands (x ∷ []) y c in (only_one y x s.0 s.1).1

-- what the first of a list have, with one more
pub first_cases : {A : Type 0} (xs : List A) (n : ℕ) (d x : A) → n < length xs → Contains (take (n + 1) xs) x ↔ (Contains (take n xs) x ⊎ (get_or xs n d ≡ x))
first_cases xs n d x below =
    subst (λ ys. Contains ys x ↔ (Contains (take n xs) x ⊎ (get_or xs n d ≡ x))) (sym (take_more xs n d below)) (
      Contains-push_cases (take n xs) (get_or xs n d) x,
      λ e. elim e [ inl c ↦ Contains-append_left (take n xs) (get_or xs n d ∷ []) x c | inr same ↦ subst (Contains (take n xs ++ get_or xs n d ∷ [])) same (Contains-push (take n xs) (get_or xs n d)) ],
    )

-- each number has one position
pub one_position : (xs : List ℕ) → AllPairs (λ x y. x ≢ y) xs → (t i j : ℕ) → slice_get xs i ≡ Some t → slice_get xs j ≡ Some t → i ≡ j
one_position xs once t i j a b = grind (arith, cases_order, slice_get_within, get_or_from_slice_get)

pub once_from_positions : (xs : List ℕ) → ((t i j : ℕ) → slice_get xs i ≡ Some t → slice_get xs j ≡ Some t → i ≡ j) → AllPairs (λ x y. x ≢ y) xs
once_from_positions xs once i j d less below same = grind (arith, slice_get-get_or)

-- the test of a place, and what it decides
pub stands_true : (xs : List ℕ) (t : ℕ) → Stands xs t → stands xs t ≡ true
stands_true [] t s = let e = s.1 in cc
stands_true (x ∷ xs) t s = by_position (stands_true xs t) s.0 s.1
  where
    by_position : (Stands xs t → stands xs t ≡ true) → (i : ℕ) → slice_get (x ∷ xs) i ≡ Some t → stands (x ∷ xs) t ≡ true
    by_position later zero e = or_left (eqb x t) (stands xs t) (eq-eqb x t (same_Some x t e))
    by_position later (suc i) e = or_right (eqb x t) (stands xs t) (later (i, e))

pub true_stands : (xs : List ℕ) (t : ℕ) → stands xs t ≡ true → Stands xs t
true_stands [] t e = cc
true_stands (x ∷ xs) t e = elim (or_cases (eqb x t) (stands xs t) e) [
  | inl here ↦ (0, ap Some (eqb-true x t here))
  | inr there ↦ let s = true_stands xs t there in (suc s.0, s.1)
]

pub false_stands : (xs : List ℕ) (t : ℕ) → stands xs t ≡ false → ¬ Stands xs t
false_stands xs t e s = let p = sym e ∙ stands_true xs t s in cc

-- one more at the end
pub stands_more : (xs : List ℕ) (t u : ℕ) → Stands xs u → Stands (xs ++ t ∷ []) u
stands_more xs t u s = (s.0, get_more xs (t ∷ []) s.0 u s.1)

pub stands_last : (xs : List ℕ) (t : ℕ) → Stands (xs ++ t ∷ []) t
stands_last xs t = (length xs + 0, get_right xs (t ∷ []) 0 t refl)

pub stands_cases : (xs : List ℕ) (t u : ℕ) → Stands (xs ++ t ∷ []) u → Stands xs u ⊎ (t ≡ u)
stands_cases xs t u s = grind (arith, get_cases, only_one)
