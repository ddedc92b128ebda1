use Rattle.sia_graph.specs.Replaying.{AreFirsts, AreNext}
use Rattle.sia_graph.proofs.serial_replay.chains.Given as goal

abbrev pub invariant-loop-before : goal.invariant-loop-before
invariant-loop-before l = AreFirsts l.h l.before l.firsts × AreNext l.h l.before l.next.items
