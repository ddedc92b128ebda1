-- The numbers so far are as they should be, and the next will be; and of the next position those who saw the version so far.
use Rattle.std.specs.Prelude.{◌≤◌, take}
use Rattle.sia_graph.proofs.OfNeighbours.Stops.{AreLastTo, CommitAmong, CommitBefore}
use Rattle.sia_graph.proofs.neighbours.ends_of.Given as goal

abbrev pub invariant-loop-position : goal.invariant-loop-position
invariant-loop-position l = AreLastTo l.evidence.index.now l.looks l.position l.ends.items × CommitBefore l.evidence.index.now l.looks l.position l.last

abbrev pub invariant-loop-look : goal.invariant-loop-look
invariant-loop-look l = (l.initial.last ≤ l.last) × CommitAmong l.evidence.index.now l.looks (take l.look-index l.look-items) l.last
