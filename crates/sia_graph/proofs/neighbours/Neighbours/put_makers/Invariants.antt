-- Those of the makers so far.
use Rattle.sia_parts.proofs.Shared.Adding.{FromFirst}
use Rattle.sia_graph.specs.Found.{PutsMore}
use Rattle.sia_graph.proofs.OfPivots.Outs.{IsOut, OverlapsMaker}
use Rattle.sia_graph.proofs.neighbours.Neighbours.put_makers.Given as goal

abbrev pub invariant-loop-i : goal.invariant-loop-i
invariant-loop-i l = PutsMore (IsOut (FromFirst (OverlapsMaker l.fn.self.evidence.index.now l.number) l.makers l.i)) l.i l.fn.rows l.rows
