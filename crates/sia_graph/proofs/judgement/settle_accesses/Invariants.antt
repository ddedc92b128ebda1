use Rattle.std.proofs.Common.{◌≡◌, ◌<◌, ℕ, get_or, length}
use Rattle.sia_graph.proofs.Cycles.Walks.{IsPrevious}
use Rattle.sia_graph.proofs.judgement.settle_accesses.Given as goal

abbrev pub invariant-loop-txn : goal.invariant-loop-txn
invariant-loop-txn l = (length l.previous.items ≡ l.txn) × ((i : ℕ) → i < l.txn → IsPrevious l.evidence.index.now l.left.items i (get_or l.previous.items i 0))
