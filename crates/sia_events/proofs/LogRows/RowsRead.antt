-- What stands at a place of a list that is pushed onto, goes on or has one place set.
use Rattle.std.proofs.Common.{◌≡◌, ◌≢◌, ◌⊎◌, inl, inr, ℕ, zero, suc, ◌<◌, List, [], ◌∷◌, ◌++◌, length, set, Some, None, refl, sym, ◌∙◌, ap, arith, slice_get}
use Rattle.std.proofs.lemmas.Option.{slice_get_within}

pub get_front : {A : Type 0} (xs ys : List A) (i : ℕ) → i < length xs → slice_get (xs ++ ys) i ≡ slice_get xs i
get_front [] ys i below = absurd (omega arith)
get_front (x ∷ xs) ys zero below = refl
get_front (x ∷ xs) ys (suc i) below = get_front xs ys i (omega arith)

pub get_more : {A : Type 0} (xs ys : List A) (i : ℕ) (v : A) → slice_get xs i ≡ Some v → slice_get (xs ++ ys) i ≡ Some v
get_more xs ys i v at = get_front xs ys i (slice_get_within xs i v at) ∙ at

pub get_less : {A : Type 0} (xs ys : List A) (i : ℕ) (v : A) → i < length xs → slice_get (xs ++ ys) i ≡ Some v → slice_get xs i ≡ Some v
get_less xs ys i v below at = sym (get_front xs ys i below) ∙ at

pub push_cases : {A : Type 0} (xs : List A) (x : A) (i : ℕ) (v : A) → slice_get (xs ++ x ∷ []) i ≡ Some v → (slice_get xs i ≡ Some v) ⊎ ((i ≡ length xs) × (v ≡ x))
push_cases [] x zero v at = inr (refl, (let e : Some x ≡ Some v = at in cc))
push_cases [] x (suc i) v at = absurd (let e : None ≡ Some v = at in cc)
push_cases (y ∷ ys) x zero v at = inl at
push_cases (y ∷ ys) x (suc i) v at = elim (push_cases ys x i v at) [
  | inl there ↦ inl there
  | inr here ↦ inr (ap suc here.0, here.1)
]

pub last_there : {A : Type 0} (xs : List A) (x : A) (n : ℕ) → n ≡ length xs → slice_get (xs ++ x ∷ []) n ≡ Some x
last_there [] x n is = rw (is) refl
last_there (y ∷ ys) x n is = rw (is) (last_there ys x (length ys) refl)

pub set_cases : {A : Type 0} (xs : List A) (s i : ℕ) (y v : A) → slice_get (set xs s y) i ≡ Some v → (slice_get xs i ≡ Some v) ⊎ ((i ≡ s) × (v ≡ y))
set_cases [] s i y v at = inl at
set_cases (x ∷ xs) zero zero y v at = inr (refl, (let e : Some y ≡ Some v = at in cc))
set_cases (x ∷ xs) zero (suc i) y v at = inl at
set_cases (x ∷ xs) (suc s) zero y v at = inl at
set_cases (x ∷ xs) (suc s) (suc i) y v at = elim (set_cases xs s i y v at) [
  | inl there ↦ inl there
  | inr here ↦ inr (ap suc here.0, here.1)
]

pub set_here : {A : Type 0} (xs : List A) (s : ℕ) (y v : A) → slice_get xs s ≡ Some v → slice_get (set xs s y) s ≡ Some y
set_here [] s y v at = absurd (let e : None ≡ Some v = at in cc)
set_here (x ∷ xs) zero y v at = refl
set_here (x ∷ xs) (suc s) y v at = set_here xs s y v at

pub set_apart : {A : Type 0} (xs : List A) (s i : ℕ) (y v : A) → i ≢ s → slice_get xs i ≡ Some v → slice_get (set xs s y) i ≡ Some v
set_apart [] s i y v ne at = at
set_apart (x ∷ xs) zero zero y v ne at = absurd (ne refl)
set_apart (x ∷ xs) zero (suc i) y v ne at = at
set_apart (x ∷ xs) (suc s) zero y v ne at = at
set_apart (x ∷ xs) (suc s) (suc i) y v ne at = set_apart xs s i y v (λ e. ne (ap suc e)) at
