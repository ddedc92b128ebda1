-- What a list with one more thing at its front holds, and in which order.
use Rattle.std.proofs.Common.{◌≡◌, ◌⊎◌, inl, inr, ℕ, zero, suc, ◌<◌, List, [], ◌∷◌, length, refl, subst, arith}
use Rattle.std.specs.Prelude.{AllPairs, Contains, slice_index_or}

pub first_or_later : {A : Type 0} (x z : A) (xs : List A) → Contains (x ∷ xs) z → (x ≡ z) ⊎ Contains xs z
first_or_later {A} x z xs c = by_index c.0 c.1 c.2
  where
    by_index : (k : ℕ) → k < length (x ∷ xs) → slice_index_or (x ∷ xs) k z ≡ z → (x ≡ z) ⊎ Contains xs z
    by_index zero below e = inl e
    by_index (suc k) below e = inr (k, omega arith, e)

pub contains_first : {A : Type 0} (x : A) (xs : List A) → Contains (x ∷ xs) x
contains_first x xs = (0, omega arith, refl)

pub contains_later : {A : Type 0} (x z : A) (xs : List A) → Contains xs z → Contains (x ∷ xs) z
contains_later x z xs c = (suc c.0, omega arith, c.2)

pub contains_none : {A : Type 0} (z : A) → ¬ Contains [] z
contains_none z c = let b = c.1 in absurd (omega arith)

pub first_before : {A : Type 0} (R : A → A → Type 0) (x z : A) (xs : List A) → AllPairs R (x ∷ xs) → Contains xs z → R x z
first_before R x z xs p c = subst (R x) c.2 (p 0 (suc c.0) z (omega arith) (let b = c.1 in omega arith))

pub later_pairs : {A : Type 0} (R : A → A → Type 0) (x : A) (xs : List A) → AllPairs R (x ∷ xs) → AllPairs R xs
later_pairs R x xs p i j d less below = p (suc i) (suc j) d (omega arith) (omega arith)
