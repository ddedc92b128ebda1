-- What can be told: whether two numbers or lists are one, and whether something holds of a number below another.
use Rattle.std.proofs.Common.{◌≡◌, ◌⊎◌, inl, inr, ℕ, zero, suc, ◌<◌, ◌≤◌, Option, Some, None, List, [], ◌∷◌, refl, ap, subst, arith}
use Rattle.std.proofs.lemmas.Bool.{cases_lt, cases_eq}

-- a statement holds, or it doesn't
abbrev pub Decided : Type 0 → Type 0
Decided P = P ⊎ ¬ P

-- m is at most n, or n is below it
pub at_most : (m n : ℕ) → ¬ (n < m) → m ≤ n
at_most m n h = elim (cases_lt n m) [ inl less ↦ absurd (h less) | inr more ↦ more ]

-- the least number below n of which P holds, or none
pub first_below : (P : ℕ → Type 0) → ((i : ℕ) → Decided (P i)) → (n : ℕ) → ((i : ℕ) × (i < n) × P i × ((j : ℕ) → P j → i ≤ j)) ⊎ ((i : ℕ) → i < n → ¬ P i)
first_below P decide zero = inr (λ i below p. omega arith)
first_below P decide (suc n) = elim (first_below P decide n) [
  | inl found ↦ inl (found.0, (let below : found.0 < n = found.1 in omega arith), found.2, found.3)
  | inr none ↦ elim (decide n) [
    | inl here ↦ inl (n, omega arith, here, λ j p. at_most n j (λ less. none j less p))
    | inr not_here ↦ inr (λ i below p. elim (cases_eq i n) [
      | inl same ↦ not_here (subst P same p)
      | inr other ↦ none i (omega arith) p
    ])
  ]
]

-- the greatest number below n of which P holds, or none
pub last_below : (P : ℕ → Type 0) → ((i : ℕ) → Decided (P i)) → (n : ℕ) → ((i : ℕ) × (i < n) × P i × ((j : ℕ) → j < n → P j → j ≤ i)) ⊎ ((i : ℕ) → i < n → ¬ P i)
last_below P decide zero = inr (λ i below p. omega arith)
last_below P decide (suc n) = elim (decide n) [
  | inl here ↦ inl (n, omega arith, here, λ j below p. omega arith)
  | inr not_here ↦ elim (last_below P decide n) [
    | inl found ↦ inl (
      found.0,
      (let below : found.0 < n = found.1 in omega arith),
      found.2,
      λ j below p. elim (cases_eq j n) [
        | inl same ↦ absurd (not_here (subst P same p))
        | inr other ↦ found.3 j (omega arith) p
      ],
    )
    | inr none ↦ inr (λ i below p. elim (cases_eq i n) [
      | inl same ↦ not_here (subst P same p)
      | inr other ↦ none i (omega arith) p
    ])
  ]
]

-- both of two statements, and all of three
pub both : (P Q : Type 0) → Decided P → Decided Q → Decided (P × Q)
both P Q h q = grind (arith)

pub all_three : (P Q R : Type 0) → Decided P → Decided Q → Decided R → Decided (P × Q × R)
all_three P Q R h q r = grind (arith)

-- what is denied of a statement
pub denied : (P : Type 0) → Decided P → Decided (¬ P)
denied P h = grind (arith)

-- a statement that says the same is decided alike
pub decided_alike : (P Q : Type 0) → (P → Q) → (Q → P) → Decided P → Decided Q
decided_alike P Q to from h = grind (arith)

-- whether two lists, options or pairs are one
pub same_list : {A : Type 0} → ((x y : A) → Decided (x ≡ y)) → (xs ys : List A) → Decided (xs ≡ ys)
same_list same [] [] = inl refl
same_list same [] (y ∷ ys) = inr (λ e. cc)
same_list same (x ∷ xs) [] = inr (λ e. cc)
same_list same (x ∷ xs) (y ∷ ys) =
    decided_alike ((x ≡ y) × (xs ≡ ys)) (◌≡◌ {A = List _} (x ∷ xs) (y ∷ ys)) (λ s i. s.0 i ∷ s.1 i) (λ e. ((let p : x ≡ y = cc in p), (let q : xs ≡ ys = cc in q)))
    (both (x ≡ y) (xs ≡ ys) (same x y) (same_list same xs ys))

pub same_option : {A : Type 0} → ((x y : A) → Decided (x ≡ y)) → (o p : Option A) → Decided (o ≡ p)
same_option same None None = inl refl
same_option same None (Some y) = inr (λ e. cc)
same_option same (Some x) None = inr (λ e. cc)
same_option same (Some x) (Some y) = decided_alike (x ≡ y) (Some x ≡ Some y) (ap Some) (λ e. (let p : x ≡ y = cc in p)) (same x y)

pub same_pair : (p q : ℕ × ℕ) → Decided (p ≡ q)
same_pair p q = grind (arith, decided_alike, both)
