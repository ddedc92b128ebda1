use Rattle.std.proofs.Common.{ℕ, ◌<◌, ◌≤◌}
use Rattle.sia_index.specs.Numbers.{IsCommittedAt}
use Rattle.sia_graph.specs.Dangerous.{HasFirst}
use Rattle.sia_graph.proofs.ssi.least_pivot.Given as goal

abbrev pub invariant-loop-txn : goal.invariant-loop-txn
invariant-loop-txn l = ((j u : ℕ) → j < l.txn → IsCommittedAt l.evidence.index.now j u → ¬ HasFirst l.evidence.index.now u) × (l.txn ≤ l.txn-end)
