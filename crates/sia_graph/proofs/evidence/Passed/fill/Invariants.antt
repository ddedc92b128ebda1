use Rattle.std.proofs.Common.{◌≡◌, ◌-◌}
use Rattle.sia_graph.proofs.OnEvidence.JoinedMisses.{HasJoinedTo}
use Rattle.sia_graph.proofs.OnEvidence.PassedKeys.{HasCutTo}
use Rattle.sia_graph.proofs.evidence.Passed.fill.Given as goal

abbrev pub invariant-loop-from : goal.invariant-loop-from
invariant-loop-from l =
    (l.self.1.1.1.0 ≡ l.initial.self.1.1.1.0) × (l.self.1.1.1.1.0 ≡ l.initial.self.1.1.1.1.0)
    × HasCutTo l.initial.self.1.1.1.1.0.items l.initial.from l.miss.to l.initial.self.1.0.items l.self.1.0.items l.initial.self.1.1.0.items l.self.1.1.0.items l.from

abbrev pub decreases-loop-from : goal.decreases-loop-from
decreases-loop-from l = l.miss.to - l.from

abbrev pub invariant-loop-miss : goal.invariant-loop-miss
invariant-loop-miss l =
    (l.self.1.1.1.0 ≡ l.initial.self.1.1.1.0) × (l.self.1.1.1.1.0 ≡ l.initial.self.1.1.1.1.0)
    × HasJoinedTo l.initial.self.1.1.1.1.0.items l.initial.self.1.1.1.0.items l.miss-index l.initial.self.1.0.items l.self.1.0.items l.initial.self.1.1.0.items l.self.1.1.0.items l.reached
