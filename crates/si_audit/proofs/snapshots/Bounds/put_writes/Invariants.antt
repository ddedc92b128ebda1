use Rattle.std.proofs.Common.{◌≡◌, ◌<◌, take}
use Rattle.sia_events.specs.Lists.{ListsAscending}
use Rattle.sia_index.specs.declared.info.KeyVersion.{KeyVersion}
use Rattle.sia_index.specs.Positions.{IsAtPosition}
use Rattle.si_audit.proofs.Shared.WrittenLows.{IsMost}
use Rattle.si_audit.proofs.snapshots.Bounds.put_writes.Given as goal

abbrev pub invariant-loop-position : goal.invariant-loop-position
invariant-loop-position l = record {
  made : ListsAscending (λ q. (v : KeyVersion) × IsAtPosition l.ix q v × (0 < v.commit) × (v.txn ≡ l.txn)) l.position-items;
  most : IsMost l.ix l.txn (take l.position-index l.position-items) l.low;
}
