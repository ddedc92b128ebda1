-- The law of the core, and that of the rule of the deque.
use Rattle.std.specs.Prelude.{◌≡◌, ℕ, suc, ◌+◌, ◌<◌, ◌↔◌, false, List, [], ◌∷◌, ◌++◌, length}
use Rattle.crossbeam_deque.specs.Tasks as tasks
use Rattle.sia_pool.specs.declared.rule.View.{View}
use Rattle.sia_pool.specs.Core.{Reached, IsDealt}
use Rattle.sia_pool.specs.View.{owner_view, stealer_view, spent_view, line_size}
use Rattle.sia_pool.specs.Rule.{shares_by, Holds}
use Rattle.sia_pool.specs.Steps.{Took, NothingLeft}

-- the core reaches exactly the states in which some number of parts was dealt
abbrev pub CoreLaw : Type 0
CoreLaw = (count workers : ℕ) (left : List ℕ) (shares : List (List ℕ)) → Reached count workers left shares ↔ ((c : ℕ) × IsDealt count workers c left shares)

-- each kind of step keeps the rule, at any port and whatever the other views are
pub record RuleLaw : Type 0 where
  -- at the start no part is placed, and the owner is alone
  pub starts : Holds [] (owner_view 0 1 [] 0 [] ∷ [])
  -- the next part is placed, before any is taken and any view is given out
  pub places : (port part : ℕ) → tasks.Pushes Holds port (owner_view part 1 [] 0 []) (part ∷ []) (λ w. w ≡ owner_view (part + 1) 1 [] 0 [])
  -- a pop or a steal takes a part
  pub takes : (port : ℕ) (v : View) → v.spent ≡ false → tasks.Takes Holds port v 1 (Took v)
  -- or it finds nothing
  pub finds : (port : ℕ) (v : View) → v.spent ≡ false → tasks.Finds Holds port v (NothingLeft v)
  -- the owner gives a view out
  pub gives : (port : ℕ) (v : View) (workers : ℕ) → v.number ≡ 0 → v.spent ≡ false → suc v.given < workers → v.workers ≡ line_size workers v.given
      → tasks.Forks Holds port v (owner_view v.count workers v.share (v.given + 1) v.back) (stealer_view (v.given + 1) v.count workers [])
  -- and takes the next one back
  pub takes_back : (port : ℕ) (v : View) (other : ℕ) (w : View) → v.number ≡ 0 → v.spent ≡ false → w.spent ≡ false → w.number ≡ suc (length v.back)
      → tasks.Merges Holds port v other w (owner_view v.count v.workers v.share v.given (v.back ++ w.share ∷ [])) spent_view
  -- the core reaches what the deque holds and the views record
  pub reaches : (items : List ℕ) (o : View) (vs : List View) → Holds items (o ∷ vs) → (waiting : ℕ) × Reached o.count o.workers items (o.share ∷ shares_by o.back vs waiting)
