-- The keys below the one place are below `key`, and those from the other on aren't.
use Rattle.std.proofs.Common.{ℕ, ◌-◌, ◌<◌, ◌≤◌, length, get_or}
use Rattle.sia_events.specs.Numbering.{names_of, pair_at}
use Rattle.sia_events.proofs.log.Log.place_of.Given as goal

abbrev pub invariant-loop-low : goal.invariant-loop-low
invariant-loop-low l = record {
  order : l.low ≤ l.high;
  bound : l.high ≤ length l.pairs;
  below : (i d : ℕ) → i < l.low → (pair_at (names_of l.self) (get_or l.pairs i d)).0 < l.key;
  above : (i d : ℕ) → l.high ≤ i → i < length l.pairs → l.key ≤ (pair_at (names_of l.self) (get_or l.pairs i d)).0;
}

abbrev pub decreases-loop-low : goal.decreases-loop-low
decreases-loop-low l = l.high - l.low
