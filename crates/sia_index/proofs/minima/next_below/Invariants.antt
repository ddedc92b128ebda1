-- The rows so far aren't below the limit.
use Rattle.std.proofs.Common.{ℕ, ◌-◌, ◌<◌, ◌≤◌}
use Rattle.std.specs.Prelude.{slice_index_or}
use Rattle.sia_index.proofs.minima.next_below.Given as goal

abbrev pub invariant-loop-i : goal.invariant-loop-i
invariant-loop-i g l = (l.from ≤ l.i) × ((k : ℕ) (d : g.row.T.Denot) → l.from ≤ k → k < l.i → k < l.to → l.limit ≤ g.O.By.by (slice_index_or l.rows k d))

abbrev pub decreases-loop-i : goal.decreases-loop-i
decreases-loop-i g l = l.to - l.i
