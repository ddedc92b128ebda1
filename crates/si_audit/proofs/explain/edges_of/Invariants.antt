use Rattle.std.proofs.Common.{◌≡◌, ◌∷◌, List, take}
use Rattle.sia_graph.specs.declared.cycle.Step.{Step}
use Rattle.si_audit.specs.Explained.{edges_round}
use Rattle.si_audit.proofs.explain.edges_of.Given as goal

abbrev pub invariant-loop-i : goal.invariant-loop-i
invariant-loop-i l = (home : Step) (rest : List Step) → l.fn.steps ≡ home ∷ rest → l.edges.items ≡ take l.i (edges_round l.fn.steps home.txn)
