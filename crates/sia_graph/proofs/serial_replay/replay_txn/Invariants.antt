use Rattle.sia_graph.specs.Replaying.{version_in}
use Rattle.sia_graph.proofs.ReplayedTxns.MapSteps.{IsOnChain, places_left}
use Rattle.sia_graph.proofs.serial_replay.replay_txn.Given as goal

abbrev pub invariant-loop-at : goal.invariant-loop-at
invariant-loop-at l = IsOnChain l.h l.txn (version_in l.initial.versions) l.versions l.at

abbrev pub decreases-loop-at : goal.decreases-loop-at
decreases-loop-at l = places_left l.h l.at
