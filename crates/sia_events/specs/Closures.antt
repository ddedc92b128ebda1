-- The closure of a relation: what leads where in one or more steps.
use Rattle.std.specs.Prelude.{◌↔◌, ℕ}

-- one or more steps of R lead from the first to the second
pub data LeadsInSteps (R : ℕ → ℕ → Type 0) : ℕ → ℕ → Type 0 where
  step : {t u : ℕ} → R t u → LeadsInSteps R t u
  steps : {t u v : ℕ} → R t u → LeadsInSteps R u v → LeadsInSteps R t v

-- steps of either lead where steps of the other do
abbrev pub HaveSameClosure : (ℕ → ℕ → Type 0) → (ℕ → ℕ → Type 0) → Type 0
HaveSameClosure R S = (t u : ℕ) → LeadsInSteps R t u ↔ LeadsInSteps S t u
