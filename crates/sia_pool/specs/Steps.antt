-- What one step tells the taker that made it.
use Rattle.std.specs.Prelude.{◌≡◌, ℕ, suc, ◌<◌, List, [], ◌∷◌, ◌++◌, length}
use mathlib.Core.Option.{some}
use lib.ListN.{get_elem?}
use Rattle.sia_pool.specs.declared.rule.View.{View}
use Rattle.sia_pool.specs.declared.taker.Taken.{Taken}
use Rattle.sia_pool.specs.declared.taker.Taken.TheVariants.{Part, Nothing, Lost}
use Rattle.sia_pool.specs.Core.{Reached}
use Rattle.sia_pool.specs.View.{with_share}

-- the core had reached a state with this part in front, in which this taker had its share, with room for one more
pub record TookFront (v : View) (part : ℕ) : Type 0 where
  pub left : List ℕ
  pub shares : List (List ℕ)
  pub before : Reached v.count v.workers (part ∷ left) shares
  pub mine : get_elem? shares v.number ≡ some v.share
  pub room : length v.share < v.count

-- one take of the core: this one part joined the end of the share, and nothing else of the view changed
abbrev pub Took : View → List ℕ → View → Type 0
Took v [] w = ⊥
Took v (part ∷ more) w = (w ≡ with_share v (v.share ++ part ∷ [])) × TookFront v part

-- the core had reached a state with nothing left, in which this taker had its share. An owner with all views back knows all shares
pub record NothingLeft (v : View) : Type 0 where
  pub shares : List (List ℕ)
  pub ended : Reached v.count v.workers [] shares
  pub mine : get_elem? shares v.number ≡ some v.share
  pub all : v.number ≡ 0 → suc (length v.back) ≡ v.workers → shares ≡ v.share ∷ v.back

-- a fact for each answer of `next_part`
abbrev pub MatchTaken : Taken → (ℕ → Type 0) → Type 0 → Type 0 → Type 0
MatchTaken (Part x) part nothing lost = part x
MatchTaken Nothing part nothing lost = nothing
MatchTaken Lost part nothing lost = lost

-- one call of `next_part`: a part was one take of the core, and else the view is as it was. The owner loses no race
abbrev pub Stepped : View → Taken → View → Type 0
Stepped old taken new = MatchTaken taken (λ part. Took old (part ∷ []) new) ((new ≡ old) × NothingLeft old) ((new ≡ old) × (0 < old.number))
