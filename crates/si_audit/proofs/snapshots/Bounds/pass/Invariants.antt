-- What the keys below `next` tell is known.
use Rattle.std.proofs.Common.{ℕ, ◌-◌, ◌<◌, ◌≤◌}
use Rattle.sia_events.specs.Reads.{SawAt}
use Rattle.sia_events.specs.Transactions.{HasEvent}
use Rattle.sia_index.specs.Info.{IsKeyAt}
use Rattle.si_audit.specs.Bounds.{Sees}
use Rattle.si_audit.proofs.snapshots.Bounds.pass.Given as goal

abbrev pub invariant-loop-number : goal.invariant-loop-number
invariant-loop-number l = record {
  low : l.from ≤ l.next;
  high : l.next ≤ l.to;
  sees : (t : ℕ) → HasEvent l.ix t → ((i k : ℕ) → l.from ≤ i → i < l.to → IsKeyAt l.ix i k → SawAt l.ix l.place t k 0) → Sees l.ix t l.place l.from l.place l.next l.fn.self l.self;
}

abbrev pub decreases-loop-number : goal.decreases-loop-number
decreases-loop-number l = l.to - l.next
