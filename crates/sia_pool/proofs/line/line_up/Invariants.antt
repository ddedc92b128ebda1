use Rattle.std.proofs.Common.{◌≡◌, ◌≤◌, suc, [], length}
use Rattle.crossbeam_deque.specs.Handles.{worker_view, worker_flavor, worker_deque, worker_capacity, worker_index}
use Rattle.sia_pool.specs.View.{owner_view, line_size}
use Rattle.sia_pool.specs.Line.{IsLine}
use Rattle.sia_pool.proofs.line.line_up.Given as goal

abbrev pub invariant-giving : goal.invariant-giving
invariant-giving l = record { flavor : worker_flavor l.end ≡ 0; view : worker_view l.end ≡ owner_view l.fn.count (line_size l.fn.workers (length l.takers.items)) [] (length l.takers.items) []; line : IsLine (worker_deque l.end) l.fn.count l.fn.workers 1 l.takers.items; so_far : suc (length l.takers.items) ≡ l.number }

abbrev pub ghosts-new_stealer : goal.ghosts-new_stealer
ghosts-new_stealer a = record { workers = a.workers }

abbrev pub invariant-loop-part : goal.invariant-loop-part
invariant-loop-part l = record { flavor : worker_flavor l.end ≡ 0; view : worker_view l.end ≡ owner_view l.part 1 [] 0 []; room : l.fn.count ≤ worker_capacity l.end; index : worker_index l.end ≡ l.part }
