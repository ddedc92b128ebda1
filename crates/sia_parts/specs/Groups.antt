-- What stands side by side in a list because it has one number.
use Rattle.std.specs.Prelude.{◌≡◌, ◌++◌, ℕ, ◌<◌, List, All}

-- the group is all those whose number is t; those before it have lesser numbers, those after it greater ones
abbrev pub IsGroup : {A : Type 0} → (A → ℕ) → List A → ℕ → List A → Type 0
IsGroup {A} number xs t group = (before : List A) × (after : List A) × (xs ≡ before ++ (group ++ after))
    × All (λ x. number x < t) before × All (λ x. number x ≡ t) group × All (λ x. t < number x) after
