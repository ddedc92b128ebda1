use Rattle.std.proofs.Common.{◌≡◌, [], drop, get_or, length}
use Rattle.std.specs.List.{count_by, range_with_len}
use Rattle.sia_graph.specs.UnderWay.{IsTaking, times}
use Rattle.sia_graph.proofs.Orders.Woken.{waits_test}
use Rattle.sia_graph.proofs.order.Taking.finish.Given as goal

abbrev pub invariant-waiting : goal.invariant-waiting
invariant-waiting l = IsTaking l.graph l.done l.self (λ t. times t (get_or l.graph.targets l.node [])) l.node × (length l.self.counts.items ≡ length l.initial.self.counts.items)

abbrev pub decreases-waiting : goal.decreases-waiting
decreases-waiting l = count_by (waits_test l.graph.sources l.self.counts.items l.self.passed.items l.node) (range_with_len 0 (length l.self.counts.items))

abbrev pub invariant-loop-target : goal.invariant-loop-target
invariant-loop-target l =
    IsTaking l.graph l.done l.self (λ t. times t (drop l.target-index (get_or l.graph.targets l.node []))) (length l.self.counts.items) × (length l.self.counts.items ≡ length l.initial.self.counts.items)
