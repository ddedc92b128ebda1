-- The keys of the writes so far, and then the transactions of those by key so far.
use Rattle.sia_index.specs.VersionRows.{AreUnplaced}
use Rattle.sia_index.proofs.VersionRows.OwnWrites.{TxnsSoFar}
use Rattle.sia_index.proofs.writes.writes_of.Given as goal

abbrev pub invariant-loop-before : goal.invariant-loop-before
invariant-loop-before l = AreUnplaced l.log l.keys.keys.items l.before l.written.items

abbrev pub invariant-loop-write : goal.invariant-loop-write
invariant-loop-write l = TxnsSoFar l.log l.write-items l.write-index l.txns.items
