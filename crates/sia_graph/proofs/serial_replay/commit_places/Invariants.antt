use Rattle.std.proofs.Common.{◌≡◌, ℕ, ◌≤◌, Some, ◌↔◌, nat_cmp}
use Rattle.std.specs.BTreeMap.{get}
use Rattle.sia_events.specs.Transactions.{CommitsAt}
use Rattle.sia_graph.proofs.serial_replay.commit_places.Given as goal

abbrev pub invariant-loop-before : goal.invariant-loop-before
invariant-loop-before l = (t p : ℕ) → (get nat_cmp l.commits t ≡ Some p) ↔ ((p ≤ l.before) × CommitsAt l.h t p)
