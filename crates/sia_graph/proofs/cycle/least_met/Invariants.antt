use Rattle.std.proofs.Common.{◌≤◌, take}
use Rattle.sia_parts.specs.Sights.{FromSome}
use Rattle.sia_graph.specs.LeastEdges.{IsMet}
use Rattle.sia_graph.specs.Twos.{IsLeastNumber}
use Rattle.sia_graph.proofs.cycle.least_met.Given as goal

abbrev pub invariant-loop-other : goal.invariant-loop-other
invariant-loop-other l = (l.least ≤ 4294967295) × IsLeastNumber (FromSome (IsMet l.index l.kind l.made) (take l.other-index l.others)) l.least
