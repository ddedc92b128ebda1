-- Numbers that are raised at places.
use Rattle.std.proofs.Common.{◌≡◌, ◌⊎◌, inl, inr, ℕ, ◌+◌, ◌<◌, ◌≤◌, List, ◌∷◌, length, max, get_or, set, take, refl, subst, ◌∙◌, arith, ◌↔◌, Contains}
use Rattle.std.proofs.lemmas.Bool.{cases_eq, cases_lt}
use Rattle.std.proofs.lemmas.List.{get_or-set_other, get_or-set_same, length-set, take_all}
use Rattle.sia_graph.proofs.Shared.Positions.{first_cases}

-- one number
pub raised_at : (table : List ℕ) (at to : ℕ) → at < length table → (q x : ℕ) → (x ≤ get_or (set table at (max (get_or table at 0) to)) q 0) ↔ ((x ≤ get_or table q 0) ⊎ ((at ≡ q) × (x ≤ to)))
raised_at table at to inside q x = grind (arith, cases_eq, get_or-set_same, cases_lt, get_or-set_other)

-- those at the first n places
pub record HasRaised (old places : List ℕ) (n to : ℕ) (table : List ℕ) : Type 0 where
  pub long : length table ≡ length old
  pub each : (q x : ℕ) → (x ≤ get_or table q 0) ↔ ((x ≤ get_or old q 0) ⊎ (Contains (take n places) q × (x ≤ to)))

pub raised_none : (old places : List ℕ) (to : ℕ) → HasRaised old places 0 to old
raised_none old places to = record { long = refl; each = λ q x. ((λ l. inl l), (λ e. elim e [ inl l ↦ l | inr c ↦ let b = c.0.1 in absurd (omega arith) ])) }

pub raised_more : (old places : List ℕ) (n d to : ℕ) (table : List ℕ) → n < length places → get_or places n d < length old → HasRaised old places n to table
    → HasRaised old places (n + 1) to (set table (get_or places n d) (max (get_or table (get_or places n d) 0) to))
raised_more old places n d to table below inside before =
    let at = get_or places n d in
    record {
      long = length-set table at (max (get_or table at 0) to) ∙ before.long;
      each = λ q x.
          let now = raised_at table at to (let l = before.long in omega arith) q x in
          let was = before.each q x in
          let more = first_cases places n d q below in
          grind arith;
    }

pub raised_all : (old places : List ℕ) (n to : ℕ) (table : List ℕ) → length places ≤ n → HasRaised old places n to table
    → (q x : ℕ) → (x ≤ get_or table q 0) ↔ ((x ≤ get_or old q 0) ⊎ (Contains places q × (x ≤ to)))
raised_all old places n to table all has q x = subst (λ (xs : List ℕ). (x ≤ get_or table q 0) ↔ ((x ≤ get_or old q 0) ⊎ (Contains xs q × (x ≤ to)))) (take_all n places all) (has.each q x)

-- what is below the greater is below one of them
pub below_max : (a b most : ℕ) → most ≡ max a b → (x : ℕ) → (x ≤ most) ↔ ((x ≤ a) ⊎ (x ≤ b))
below_max a b most is x = grind (arith, cases_lt)
