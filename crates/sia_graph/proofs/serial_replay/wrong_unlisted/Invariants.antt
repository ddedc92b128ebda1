use Rattle.std.proofs.Common.{◌≡◌, ℕ, ◌+◌, ◌-◌, ◌<◌, ◌≤◌, Contains}
use Rattle.sia_graph.specs.Replaying.{version_in}
use Rattle.sia_graph.proofs.serial_replay.wrong_unlisted.Given as goal

abbrev pub invariant-keys : goal.invariant-keys
invariant-keys l = (l.lo ≤ l.from) × (l.from ≤ l.hi)
    × ((k : ℕ) → k < l.from → l.lo ≤ k → ((v : ℕ) → ¬ Contains l.listed (k, v)) → version_in l.versions k ≡ 0)

abbrev pub decreases-keys : goal.decreases-keys
decreases-keys l = l.hi + 1 - l.from
