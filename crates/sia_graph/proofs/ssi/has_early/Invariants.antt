use Rattle.std.proofs.Common.{ℕ, ◌<◌, ◌≤◌, take, Contains}
use Rattle.sia_index.specs.declared.info.KeyVersion.{KeyVersion}
use Rattle.sia_index.specs.Info.{IsKeyAt}
use Rattle.sia_index.specs.Positions.{HasVersionUpTo, IsAtPosition}
use Rattle.sia_parts.specs.declared.accesses.RangeMiss.{RangeMiss}
use Rattle.sia_parts.specs.Accesses.{SawPosition}
use Rattle.sia_graph.specs.EarlyVersions.{IsFollowedBy}
use Rattle.sia_graph.proofs.ssi.has_early.Given as goal

abbrev pub invariant-loop-position : goal.invariant-loop-position
invariant-loop-position l = (p : ℕ) (v : KeyVersion) → Contains (take l.position-index l.position-items) p → IsAtPosition l.index p v → ¬ IsFollowedBy l.index v l.place

abbrev pub invariant-loop-miss : goal.invariant-loop-miss
invariant-loop-miss l = ((p : ℕ) (v : KeyVersion) → SawPosition l.evidence.accesses.now l.txn p → IsAtPosition l.index p v → ¬ IsFollowedBy l.index v l.place)
    × ((m : RangeMiss) (j k : ℕ) → Contains (take l.miss-index l.miss-items) m → m.from ≤ j → j < m.to → IsKeyAt l.index j k → ¬ HasVersionUpTo l.index k l.place)
