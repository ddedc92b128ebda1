use Rattle.std.proofs.Common.{drop, Option}
use Rattle.sia_events.specs.Replay.{serial}
use Rattle.sia_graph.specs.declared.serial_replay.Mismatch.{Mismatch}
use Rattle.sia_graph.specs.Replaying.{AreWritten, Tells, version_in}
use Rattle.sia_graph.proofs.ReplayedTxns.MapSteps.{IsTakenOut}
use Rattle.sia_graph.proofs.serial_replay.replay.Given as goal

abbrev pub invariant-loop-txn : goal.invariant-loop-txn
invariant-loop-txn l = IsTakenOut l.h l.order l.left l.txn-index

abbrev pub invariant-loop-txn-2 : goal.invariant-loop-txn-2
invariant-loop-txn-2 l = AreWritten l.h l.versions
    × ((r : Option Mismatch) → Tells l.h (version_in l.versions) (serial l.h (drop l.txn-index l.order)) r → Tells l.h (λ _. 0) (serial l.h l.order) r)
