use Rattle.std.proofs.Common.{◌≡◌, ◌≤◌, ℕ, min, take}
use Rattle.sia_parts.specs.Sights.{FromSome}
use Rattle.sia_graph.specs.LeastEdges.{IsMissMet}
use Rattle.sia_graph.specs.Twos.{IsLeastNumber}
use Rattle.sia_graph.proofs.cycle.least_rw.Given as goal

abbrev pub invariant-loop-miss : goal.invariant-loop-miss
invariant-loop-miss l = (r : ℕ) × (r ≤ 4294967295) × IsLeastNumber (FromSome (IsMissMet l.index l.made) (take l.miss-index l.miss-items)) r × (l.least ≡ min l.initial.least r)
