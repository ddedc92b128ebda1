use Rattle.std.proofs.Common.{ℕ, ◌+◌, ◌<◌, get_or}
use Rattle.sia_events.specs.Lists.{Precedes}
use Rattle.sia_parts.specs.declared.finding.Edge.{Edge}
use Rattle.sia_parts.specs.Entries.{edge_rank}
use Rattle.si_audit.proofs.tests.graph.in_order.Given as goal

abbrev pub invariant-loop-i : goal.invariant-loop-i
invariant-loop-i l = (k : ℕ) (d : Edge) → k + 1 < l.i → Precedes (edge_rank (get_or l.edges k d)) (edge_rank (get_or l.edges (k + 1) d))
