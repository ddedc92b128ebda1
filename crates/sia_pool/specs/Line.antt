-- What `line_up` answers: the takers of one deque from which nothing was taken.
use Rattle.std.specs.Prelude.{◌≡◌, ℕ, suc, List, [], ◌∷◌, length}
use Rattle.atomic_blocks.specs.Lent.{RowsId}
use Rattle.std.specs.Global.{Global}
use Rattle.sia_pool.specs.declared.taker.Taker.{Taker}
use Rattle.sia_pool.specs.View.{owner_view, stealer_view}
use Rattle.sia_pool.specs.Taker.{taker_view, taker_deque}

-- stealers of one deque in a row, numbered from this number on, each with an empty share
abbrev pub IsLine : RowsId × Global → ℕ → ℕ → ℕ → List Taker → Type 0
IsLine deque count workers number [] = Unit {0}
IsLine deque count workers number (t ∷ ts) = (taker_deque t ≡ deque) × (taker_view t ≡ stealer_view number count workers []) × IsLine deque count workers (suc number) ts

-- the owner, which gave out a view to each other taker, and then the stealers, numbered from 1 on
abbrev pub LinedUp : ℕ → ℕ → List Taker → Type 0
LinedUp count workers [] = ⊥
LinedUp count workers (t ∷ ts) = (taker_view t ≡ owner_view count workers [] (length ts) []) × (suc (length ts) ≡ workers) × IsLine (taker_deque t) count workers 1 ts
