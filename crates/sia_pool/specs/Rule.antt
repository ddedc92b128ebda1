-- The rule of the deque: what it holds and the shares that the views record are a state that the core reaches.
use Rattle.std.specs.Prelude.{◌≡◌, ℕ, suc, ◌+◌, ◌≤◌, false, List, [], ◌∷◌, length, replicate}
use mathlib.Core.Option.{some}
use lib.ListN.{get_elem?}
use Rattle.sia_pool.specs.declared.rule.View.{View}
use Rattle.sia_pool.specs.Core.{Reached}

-- the shares of the stealers: the first ones are back with the owner, which keeps them, of the others each view has its own, and those whose views wait to be given out are empty
abbrev pub shares_by : List (List ℕ) → List View → ℕ → List (List ℕ)
shares_by back [] waiting = replicate waiting []
shares_by [] (v ∷ vs) waiting = v.share ∷ shares_by [] vs waiting
shares_by (s ∷ back) (v ∷ vs) waiting = s ∷ shares_by back vs waiting

-- a view that is not spent has the number of its port, knows the parts and the takers as the owner does, and is not back
abbrev pub IsSeated : View → List View → Type 0
IsSeated o vs = (j : ℕ) (v : View) → get_elem? vs j ≡ some v → v.spent ≡ false → (v.number ≡ suc j) × (v.count ≡ o.count) × (v.workers ≡ o.workers) × (length o.back ≤ j)

-- the rule, at the view of the owner and those of the stealers, in the order in which they were given out
pub record HoldsAt (items : List ℕ) (o : View) (vs : List View) : Type 0 where
  pub first : o.number ≡ 0
  pub live : o.spent ≡ false
  pub given : o.given ≡ length vs
  pub back : length o.back ≤ length vs
  pub waiting : ℕ
  pub all : suc (length vs) + waiting ≡ o.workers
  pub reached : Reached o.count o.workers items (o.share ∷ shares_by o.back vs waiting)
  pub seated : IsSeated o vs

-- the first port is the owner's
abbrev pub Holds : List ℕ → List View → Type 0
Holds items [] = ⊥
Holds items (o ∷ vs) = HoldsAt items o vs
