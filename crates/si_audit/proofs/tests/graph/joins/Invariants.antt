use Rattle.std.proofs.Common.{◌≢◌, ℕ, ◌<◌, get_or}
use Rattle.std.specs.Prelude.{Contains}
use Rattle.sia_parts.specs.declared.finding.Edge.{Edge}
use Rattle.si_audit.proofs.tests.graph.joins.Given as goal

abbrev pub invariant-loop-e : goal.invariant-loop-e
invariant-loop-e l = (k : ℕ) (d : Edge) → k < l.e-index
    → Contains l.ids (get_or l.edges k d).src × Contains l.ids (get_or l.edges k d).dst × ((get_or l.edges k d).src ≢ (get_or l.edges k d).dst)
