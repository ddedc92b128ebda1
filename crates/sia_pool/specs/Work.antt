-- What a worker hands back.
use Rattle.std.specs.Prelude.{◌≡◌, ℕ, List, ◌++◌}
use Rattle.atomic_blocks.specs.Lent.{RowsId}
use Rattle.std.specs.Global.{Global}
use Rattle.sia_pool.specs.declared.rule.View.{View}
use Rattle.sia_pool.specs.declared.taker.Taker.{Taker}
use Rattle.sia_pool.specs.View.{with_share}
use Rattle.sia_pool.specs.Steps.{NothingLeft}
use Rattle.sia_pool.specs.Taker.{taker_view, taker_deque}
use Rattle.sia_pool.specs.Answers.{parts_of, Owed}

module _ {Out : Type 0} where
  -- the taker took some more parts, and each has its answer
  pub record HasWorked (owes : ℕ → Out → Type 0) (deque : RowsId × Global) (old : View) (before : List (ℕ × Out)) (new : Taker) (after : List (ℕ × Out)) : Type 0 where
    pub same : taker_deque new ≡ deque
    pub more : List ℕ
    pub view : taker_view new ≡ with_share old (old.share ++ more)
    pub parts : parts_of after ≡ parts_of before ++ more
    pub owed : Owed owes after

  -- and at last it saw that nothing was left
  abbrev pub WorkedOff : (ℕ → Out → Type 0) → RowsId × Global → View → List (ℕ × Out) → Taker → List (ℕ × Out) → Type 0
  WorkedOff owes deque old before new after = HasWorked owes deque old before new after × NothingLeft (taker_view new)
