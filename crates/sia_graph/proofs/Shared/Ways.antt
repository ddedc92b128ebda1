-- Ways along a relation, by their lengths.
use Rattle.std.proofs.Common.{◌↔◌, ℕ, zero, suc, arith}
use Rattle.sia_events.specs.Closures.{LeadsInSteps, step, steps, HaveSameClosure}
use Rattle.sia_events.proofs.OfLaws.Closures.{leads_both}

-- n steps and one more lead from t to u
abbrev pub IsWay : (ℕ → ℕ → Type 0) → ℕ → ℕ → ℕ → Type 0
IsWay R zero t u = R t u
IsWay R (suc n) t u = (s : ℕ) × IsWay R n t s × R s u

-- one step or more lead from t to u
abbrev pub Reaches : (ℕ → ℕ → Type 0) → ℕ → ℕ → Type 0
Reaches R t u = (n : ℕ) × IsWay R n t u

abbrev pub SameWays : (ℕ → ℕ → Type 0) → (ℕ → ℕ → Type 0) → Type 0
SameWays R S = (t u : ℕ) → Reaches R t u ↔ Reaches S t u

module _ (R : ℕ → ℕ → Type 0) where
  pub join : (t s u : ℕ) → Reaches R t s → Reaches R s u → Reaches R t u
  join t s u a b = by_length b.0 u b.1
    where
      by_length : (n u : ℕ) → IsWay R n s u → Reaches R t u
      by_length zero u last = (suc a.0, (s, a.1, last))
      by_length (suc n) u way = let rest = by_length n way.0 way.1 in (suc rest.0, (way.0, rest.1, way.2))

  reached : {t u : ℕ} → LeadsInSteps R t u → Reaches R t u
  reached (step r) = (0, r)
  reached (steps r rest) = join _ _ _ (0, r) (reached rest)

  led : (n t u : ℕ) → IsWay R n t u → LeadsInSteps R t u
  led zero t u r = step r
  led (suc n) t u way = leads_both (led n t way.0 way.1) (step way.2)

-- relations with one closure have the same ways
pub same_ways : (R S : ℕ → ℕ → Type 0) → HaveSameClosure R S → SameWays R S
same_ways R S same t u = grind (arith, reached, led)
