-- What is known once some workers have ended and the owner has their views back.
use Rattle.std.specs.Prelude.{◌≡◌, ℕ, suc, List, [], ◌∷◌, ◌++◌, length, map, IsPermutation}
use Rattle.std.specs.List.{concat}
use Rattle.std.specs.List.Sorted.{IsNonDecreasingBy}
use Rattle.atomic_blocks.specs.Lent.{RowsId}
use Rattle.std.specs.Global.{Global}
use Rattle.sia_pool.specs.declared.rule.View.{View}
use Rattle.sia_pool.specs.declared.taker.Taker.{Taker}
use Rattle.sia_pool.specs.View.{owner_view, stealer_view}
use Rattle.sia_pool.specs.Taker.{taker_view, taker_deque}
use Rattle.sia_pool.specs.Line.{IsLine}
use Rattle.sia_pool.specs.Answers.{parts_of, Owed}

-- the view of an owner that took some more views back, whose shares are these
abbrev pub with_back : View → List (List ℕ) → View
with_back v more = owner_view v.count v.workers v.share v.given (v.back ++ more)

-- the second view is the next one that an owner with the first one takes back
abbrev pub IsNext : View → View → Type 0
IsNext v w = w ≡ stealer_view (suc (length v.back)) v.count v.workers w.share

-- the owner of a line, and some of its stealers, from the first one on
abbrev pub IsReady : List Taker → Type 0
IsReady [] = ⊥
IsReady (t ∷ ts) = (taker_view t ≡ owner_view (taker_view t).count (taker_view t).workers [] (taker_view t).given []) × IsLine (taker_deque t) (taker_view t).count (taker_view t).workers 1 ts

-- how many parts the first of them knows of
abbrev pub count_of : List Taker → ℕ
count_of [] = 0
count_of (t ∷ ts) = (taker_view t).count

module _ {Out : Type 0} where
  -- the owner that had this view has as many views back, and the answers are to the parts of its share and of theirs
  pub record IsDone (owes : ℕ → Out → Type 0) (deque : RowsId × Global) (old : View) (ended : ℕ) (new : Taker) (answers : List (ℕ × Out)) : Type 0 where
    pub same : taker_deque new ≡ deque
    pub number : (taker_view new).number ≡ 0
    pub counted : (taker_view new).count ≡ old.count
    pub sized : (taker_view new).workers ≡ old.workers
    pub back : length (taker_view new).back ≡ ended
    pub parts : IsPermutation (concat ((taker_view new).share ∷ (taker_view new).back)) (parts_of answers)
    pub owed : Owed owes answers

  -- all of these takers have ended
  abbrev pub AllDone : (ℕ → Out → Type 0) → List Taker → Taker → List (ℕ × Out) → Type 0
  AllDone owes [] new answers = ⊥
  AllDone owes (t ∷ ts) new answers = IsDone owes (taker_deque t) (taker_view t) (length ts) new answers

  -- these are the answers without their parts, in the order of the parts
  abbrev pub IsInOrder : List (ℕ × Out) → List Out → Type 0
  IsInOrder answers outs = (sorted : List (ℕ × Out)) × IsPermutation answers sorted × IsNonDecreasingBy (λ a. a.0) sorted × (outs ≡ map (λ a. a.1) sorted)
