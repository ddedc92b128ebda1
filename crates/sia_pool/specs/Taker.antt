-- What a clause says of a taker: its view, and which deque it takes from.
use Rattle.atomic_blocks.specs.Lent.{RowsId}
use Rattle.std.specs.Global.{Global}
use Rattle.crossbeam_deque.specs.Handles.{view, worker_view, worker_deque, stealer_deque}
use Rattle.sia_pool.specs.declared.rule.View.{View}
use Rattle.sia_pool.specs.declared.taker.Side.{Side}
use Rattle.sia_pool.specs.declared.taker.Side.TheVariants.{Owner, Stealer}
use Rattle.sia_pool.specs.declared.taker.Taker.{Taker}

abbrev pub side_view : Side → View
side_view (Owner o) = worker_view o.end
side_view (Stealer s) = view s.pass

abbrev pub side_deque : Side → RowsId × Global
side_deque (Owner o) = worker_deque o.end
side_deque (Stealer s) = stealer_deque s.end

-- what is recorded of this taker
abbrev pub taker_view : Taker → View
taker_view t = side_view t.side

-- which deque it takes from
abbrev pub taker_deque : Taker → RowsId × Global
taker_deque t = side_deque t.side
