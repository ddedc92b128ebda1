-- A list in order is told by what it holds.
use Rattle.std.proofs.Common.{◌≡◌, ◌⊎◌, inl, inr, ℕ, suc, ◌<◌, ◌≤◌, List, [], ◌∷◌, length, refl, ap, sym, subst, ◌∙◌, arith}
use Rattle.std.specs.Prelude.{AllPairs, Contains}
use Rattle.std.proofs.lemmas.Bool.{cases_lt}
use Rattle.sia_events.specs.Lists.{Precedes, ListsBy, CountsAll}
use Rattle.sia_events.proofs.OfLaws.SawDecisions.{contains_cases, contains_later}

-- no two lists are each before the other
pub Precedes-asym : (xs ys : List ℕ) → Precedes xs ys → ¬ Precedes ys xs
Precedes-asym [] [] p q = p
Precedes-asym [] (y ∷ ys) p q = q
Precedes-asym (x ∷ xs) [] p q = p
Precedes-asym (x ∷ xs) (y ∷ ys) (inl a) (inl b) = omega arith
Precedes-asym (x ∷ xs) (y ∷ ys) (inl a) (inr b) = let e = b.0 in omega arith
Precedes-asym (x ∷ xs) (y ∷ ys) (inr a) (inl b) = let e = a.0 in omega arith
Precedes-asym (x ∷ xs) (y ∷ ys) (inr a) (inr b) = Precedes-asym xs ys a.1 b.1

-- of two lists one is before the other, or they are one
pub Precedes-total : (xs ys : List ℕ) → (xs ≡ ys) ⊎ (Precedes xs ys ⊎ Precedes ys xs)
Precedes-total [] [] = inl refl
Precedes-total [] (y ∷ ys) = inr (inl tt)
Precedes-total (x ∷ xs) [] = inr (inr tt)
Precedes-total (x ∷ xs) (y ∷ ys) = by_first (cases_lt x y) (cases_lt y x) (Precedes-total xs ys)
  where
    by_first : (x < y) ⊎ (y ≤ x) → (y < x) ⊎ (x ≤ y) → (xs ≡ ys) ⊎ (Precedes xs ys ⊎ Precedes ys xs) → (◌≡◌ {A = List ℕ} (x ∷ xs) (y ∷ ys)) ⊎ (Precedes (x ∷ xs) (y ∷ ys) ⊎ Precedes (y ∷ ys) (x ∷ xs))
    by_first (inl a) b c = inr (inl (inl a))
    by_first (inr a) (inl b) c = inr (inr (inl b))
    by_first (inr a) (inr b) (inl e) = let s : x ≡ y = omega arith in inl (λ i. s i ∷ e i)
    by_first (inr a) (inr b) (inr (inl p)) = inr (inl (inr (omega arith, p)))
    by_first (inr a) (inr b) (inr (inr p)) = inr (inr (inr (omega arith, p)))

module _ {A : Type 0} (R : A → A → Type 0) (asym : (x y : A) → R x y → ¬ R y x) where
  contains_first : (x : A) (xs : List A) → Contains (x ∷ xs) x
  contains_first x xs = (0, omega arith, refl)

  first_before : (x z : A) (xs : List A) → AllPairs R (x ∷ xs) → Contains xs z → R x z
  first_before x z xs p c = subst (R x) c.2 (p 0 (suc c.0) z (omega arith) (let b = c.1 in omega arith))

  later_pairs : (x : A) (xs : List A) → AllPairs R (x ∷ xs) → AllPairs R xs
  later_pairs x xs p i j d less below = p (suc i) (suc j) d (omega arith) (omega arith)

  same_lists : (xs ys : List A) → AllPairs R xs → AllPairs R ys → ((z : A) → Contains xs z → Contains ys z) → ((z : A) → Contains ys z → Contains xs z) → xs ≡ ys
  same_lists [] [] p q f g = refl
  same_lists [] (y ∷ ys) p q f g = let c = g y (contains_first y ys) in absurd (let b = c.1 in omega arith)
  same_lists (x ∷ xs) [] p q f g = let c = f x (contains_first x xs) in absurd (let b = c.1 in omega arith)
  same_lists (x ∷ xs) (y ∷ ys) p q f g =
      let first : x ≡ y = elim (contains_cases y x ys (f x (contains_first x xs))) [
        | inl e ↦ sym e
        | inr c ↦ elim (contains_cases x y xs (g y (contains_first y ys))) [
          | inl e ↦ e
          | inr d ↦ absurd (asym x y (first_before x y xs p d) (first_before y x ys q c))
        ]
      ] in
      let into : (z : A) → Contains xs z → Contains ys z = λ z c. elim (contains_cases y z ys (f z (contains_later x z xs c))) [
        | inl e ↦ let r : R x x = subst (R x) (sym (first ∙ e)) (first_before x z xs p c) in absurd (asym x x r r)
        | inr d ↦ d
      ] in
      let back : (z : A) → Contains ys z → Contains xs z = λ z c. elim (contains_cases x z xs (g z (contains_later y z ys c))) [
        | inl e ↦ let r : R y y = subst (R y) (sym (sym first ∙ e)) (first_before y z ys q c) in absurd (asym y y r r)
        | inr d ↦ d
      ] in
      let rest = same_lists xs ys (later_pairs x xs p) (later_pairs y ys q) into back in
      λ i. first i ∷ rest i

-- two lists of what has P, in order, are one
pub one_list_by : {A : Type 0} (rank : A → List ℕ) (P : A → Type 0) (xs ys : List A) → ListsBy rank P xs → ListsBy rank P ys → xs ≡ ys
one_list_by {A} rank P xs ys a b =
    same_lists (λ x y. Precedes (rank x) (rank y)) (λ x y. Precedes-asym (rank x) (rank y)) xs ys a.ascending b.ascending
    (λ z c. (b.each z).1 ((a.each z).0 c))
    (λ z c. (a.each z).1 ((b.each z).0 c))

-- so there are as many
pub one_count : (P : ℕ → Type 0) (m n : ℕ) → CountsAll P m → CountsAll P n → m ≡ n
one_count P m n a b = sym a.2 ∙ ap length (one_list_by (λ x. x ∷ []) P a.0 b.0 a.1 b.1) ∙ b.2
