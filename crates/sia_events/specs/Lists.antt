-- Lists that hold exactly what has a property: once each, and in order. The words are this project's own.
use Rattle.std.specs.Prelude.{◌≡◌, ◌≢◌, ◌↔◌, ◌⊎◌, ℕ, ◌<◌, List, [], ◌∷◌, Contains, AllPairs, length, ⊤}

-- xs holds each number that has P, once, and nothing else
pub record HoldsExactly (P : ℕ → Type 0) (xs : List ℕ) : Type 0 where
  pub once : AllPairs (λ x y. x ≢ y) xs
  pub each : (x : ℕ) → Contains xs x ↔ P x

-- xs is before ys, compared number by number from the first
abbrev pub Precedes : List ℕ → List ℕ → Type 0
Precedes [] [] = ⊥
Precedes [] (y ∷ ys) = ⊤
Precedes (x ∷ xs) [] = ⊥
Precedes (x ∷ xs) (y ∷ ys) = (x < y) ⊎ ((x ≡ y) × Precedes xs ys)

-- xs holds each thing that has P, once, and nothing else, and ascends by the ranks
pub record ListsBy {A : Type 0} (rank : A → List ℕ) (P : A → Type 0) (xs : List A) : Type 0 where
  pub ascending : AllPairs (λ x y. Precedes (rank x) (rank y)) xs
  pub each : (x : A) → Contains xs x ↔ P x

-- xs holds each number that has P, once, and nothing else, and ascends
abbrev pub ListsAscending : (ℕ → Type 0) → List ℕ → Type 0
ListsAscending P xs = ListsBy (λ x. x ∷ []) P xs

-- n numbers have P
abbrev pub CountsAll : (ℕ → Type 0) → ℕ → Type 0
CountsAll P n = (xs : List ℕ) × ListsAscending P xs × (length xs ≡ n)
