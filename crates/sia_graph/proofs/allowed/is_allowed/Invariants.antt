use Rattle.std.proofs.Common.{ℕ, ◌<◌}
use Rattle.sia_graph.specs.Allowed.{IsAllowedAt}
use Rattle.sia_graph.proofs.allowed.is_allowed.Given as goal

abbrev pub invariant-loop-i : goal.invariant-loop-i
invariant-loop-i l = (j : ℕ) → j < l.i → ¬ IsAllowedAt l.ix l.edges j
