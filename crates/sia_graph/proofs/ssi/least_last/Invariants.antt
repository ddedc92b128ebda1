use Rattle.std.proofs.Common.{ℕ, ◌<◌, ◌≤◌}
use Rattle.sia_events.specs.DangerousStructures.{IsFirst}
use Rattle.sia_index.specs.Numbers.{IsCommittedAt}
use Rattle.sia_graph.proofs.ssi.least_last.Given as goal

abbrev pub invariant-loop-txn : goal.invariant-loop-txn
invariant-loop-txn l = ((j t u : ℕ) → j < l.txn → IsCommittedAt l.evidence.index.now l.pivot t → IsCommittedAt l.evidence.index.now j u → ¬ IsFirst l.evidence.index.now t u) × (l.txn ≤ l.txn-end)
