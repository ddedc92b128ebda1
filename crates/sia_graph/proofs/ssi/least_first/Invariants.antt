use Rattle.std.proofs.Common.{◌≤◌}
use Rattle.sia_graph.specs.EarlyVersions.{AreValuesFrom}
use Rattle.sia_graph.proofs.ssi.least_first.Given as goal

abbrev pub invariant-loop-txn : goal.invariant-loop-txn
invariant-loop-txn l = AreValuesFrom l.place l.lifetimes l.values.items l.txn × (l.txn ≤ l.txn-end)
