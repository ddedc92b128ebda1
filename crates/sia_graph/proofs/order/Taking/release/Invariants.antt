use Rattle.std.proofs.Common.{ℕ, ◌<◌, ◌≤◌, ◌-◌, get_or, length}
use Rattle.sia_graph.specs.UnderWay.{IsDone}
use Rattle.sia_graph.proofs.order.Taking.release.Given as goal

abbrev pub invariant-loop-place : goal.invariant-loop-place
invariant-loop-place l = (l.initial.place ≤ l.place) × ((k : ℕ) → l.initial.place ≤ k → k < l.place → IsDone l.done (get_or l.sources k 0))

abbrev pub decreases-loop-place : goal.decreases-loop-place
decreases-loop-place l = length l.sources - l.place
