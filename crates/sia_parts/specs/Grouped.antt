-- Lists in the order of two numbers.
use Rattle.std.specs.Prelude.{◌≡◌, ◌⊎◌, ℕ, ◌<◌, ◌≤◌, List, length, slice_index_or}

-- a has the lesser first number, or the same one and no greater second number
abbrev pub StandsBy : {A : Type 0} → (A → ℕ) → (A → ℕ) → A → A → Type 0
StandsBy first second a b = (first a < first b) ⊎ ((first a ≡ first b) × (second a ≤ second b))

-- by the first number, and then by the second
abbrev pub RiseBy : {A : Type 0} → (A → ℕ) → (A → ℕ) → List A → Type 0
RiseBy {A} first second xs = (i j : ℕ) (d : A) → i ≤ j → j < length xs → StandsBy first second (slice_index_or xs i d) (slice_index_or xs j d)
