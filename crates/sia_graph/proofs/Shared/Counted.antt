-- How many elements of a list pass a test.
use Rattle.std.proofs.Common.{◌≡◌, ℕ, zero, suc, ◌+◌, ◌<◌, ◌≤◌, Bool, true, false, cond, List, [], ◌∷◌, slice_get, Some, ap, ◌∙◌, arith, count_by}
use Rattle.std.proofs.lemmas.List.Sums.{sum_by-cons}
use Rattle.std.proofs.lemmas.Option.{same_Some}

module _ {A : Type 0} (p : A → Bool) where
  -- a count by the first element
  pub count_first : (x : A) (xs : List A) → p x ≡ true → count_by p (x ∷ xs) ≡ 1 + count_by p xs
  count_first x xs e = sum_by-cons (λ y. cond (p y) 1 0) x xs ∙ ap (λ b. cond b 1 0 + count_by p xs) e

  pub count_later : (x : A) (xs : List A) → p x ≡ false → count_by p (x ∷ xs) ≡ count_by p xs
  count_later x xs e = grind (arith, sum_by-cons)

-- fewer pass a stricter test, and one fewer at least if some element tells the two apart
module _ {A : Type 0} (p q : A → Bool) (under : (x : A) → q x ≡ true → p x ≡ true) where
  first_fewer : (m n : ℕ) (x : A) → m ≤ n → cond (q x) 1 0 + m ≤ cond (p x) 1 0 + n
  first_fewer m n x l = grind arith

  pub counts_fewer : (xs : List A) → count_by q xs ≤ count_by p xs
  counts_fewer [] = omega arith
  counts_fewer (x ∷ xs) =
      let a = sum_by-cons (λ y. cond (p y) 1 0) x xs in
      let l = first_fewer (count_by q xs) (count_by p xs) x (counts_fewer xs) in
      omega (arith, sum_by-cons (λ y. cond (q y) 1 0) x xs)

  pub one_fewer : (xs : List A) (i : ℕ) (y : A) → slice_get xs i ≡ Some y → p y ≡ true → q y ≡ false → count_by q xs < count_by p xs
  one_fewer [] i y at a b = cc
  one_fewer (x ∷ xs) zero y at a b = grind (arith, same_Some, count_first, count_later, counts_fewer, sum_by-cons, first_fewer)
  one_fewer (x ∷ xs) (suc i) y at a b = grind (arith, same_Some, count_first, count_later, counts_fewer, sum_by-cons, first_fewer, one_fewer xs i y at a b)
