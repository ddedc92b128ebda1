-- The range misses of the first readers, and of the next one those so far.
use Rattle.sia_parts.specs.Sights.{Adds}
use Rattle.sia_parts.proofs.Shared.Adding.{FromFirst}
use Rattle.sia_graph.proofs.OfNeighbours.Passings.{ArePassingsTo, IsPassingOf}
use Rattle.sia_graph.proofs.neighbours.passings_of.Given as goal

abbrev pub invariant-loop-miss : goal.invariant-loop-miss
invariant-loop-miss l = Adds (FromFirst (IsPassingOf l.reader) l.miss-items l.miss-index) l.initial.passings.items l.passings.items

abbrev pub invariant-loop-reader : goal.invariant-loop-reader
invariant-loop-reader l = ArePassingsTo l.evidence.accesses.now l.reader l.passings.items
