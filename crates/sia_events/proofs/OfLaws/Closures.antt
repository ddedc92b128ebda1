-- Steps after steps are steps, and where each step of one relation is steps of another, so are its steps.
use Rattle.std.proofs.Common.{ℕ}
use Rattle.sia_events.specs.Closures.{LeadsInSteps, HaveSameClosure}
use Rattle.sia_events.specs.Closures.LeadsInSteps.{step, steps}

pub leads_both : {R : ℕ → ℕ → Type 0} {t u v : ℕ} → LeadsInSteps R t u → LeadsInSteps R u v → LeadsInSteps R t v
leads_both (step r) b = steps r b
leads_both (steps r a) b = steps r (leads_both a b)

pub leads_through : {R S : ℕ → ℕ → Type 0} {t u : ℕ} → ((x y : ℕ) → R x y → LeadsInSteps S x y) → LeadsInSteps R t u → LeadsInSteps S t u
leads_through each (step r) = each _ _ r
leads_through each (steps r a) = leads_both (each _ _ r) (leads_through each a)

-- what is between a relation and one that the first leads through has the closure of both
pub closure_between : {N R E : ℕ → ℕ → Type 0} → ((x y : ℕ) → N x y → R x y) → ((x y : ℕ) → R x y → E x y) → ((x y : ℕ) → E x y → LeadsInSteps N x y)
    → HaveSameClosure R E
closure_between below above through t u = (
  leads_through (λ x y r. step (above x y r)),
  leads_through (λ x y e. leads_through (λ a b n. step (below a b n)) (through x y e)),
)
