use Rattle.std.proofs.Common.{ℕ, map, take}
use Rattle.sia_index.specs.declared.names.Numbered.{Numbered}
use Rattle.si_audit.specs.Explained.{TellsAll}
use Rattle.si_audit.specs.SnapshotLines.{TellsSnapshot}
use Rattle.si_audit.proofs.Shared.Telling.{IsToldBehind}
use Rattle.si_audit.proofs.snapshot_lines.push_snapshots.Given as goal

abbrev pub invariant-loop-row : goal.invariant-loop-row
invariant-loop-row l = IsToldBehind (TellsAll (TellsSnapshot l.h) (take l.row-index (map (λ (row : Numbered ℕ). row.name) l.row-items))) l.fn.out.items l.out.items
