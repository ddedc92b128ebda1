use Rattle.std.proofs.Common.{◌≡◌, ◌<◌, ◌≤◌, ◌+◌, ◌*◌}
use Rattle.sia_graph.proofs.TwoLeast.EnteredTwos.{IsRising}
use Rattle.sia_graph.proofs.twos.Earlier.least_before.Given as goal

abbrev pub invariant-loop-block : goal.invariant-loop-block
invariant-loop-block l = (l.key < l.self.size → IsRising l.self.passed.items (l.self.size + l.key) l.me l.block l.passed × (l.block < 2 * l.self.size))
    × (l.self.size ≤ l.key → (l.block ≡ 0) × (l.passed ≡ 4294967295)) × (l.passed ≤ 4294967295)

abbrev pub decreases-loop-block : goal.decreases-loop-block
decreases-loop-block l = l.block
