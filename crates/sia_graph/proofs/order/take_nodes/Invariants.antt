use Rattle.std.proofs.Common.{◌≡◌, ◌+◌, ◌*◌, ℕ, List, false, get_or, length, map}
use Rattle.sia_graph.specs.Blocks.{without_blocks}
use Rattle.sia_graph.specs.NarrowSteps.{name_of}
use Rattle.sia_graph.specs.UnderWay.{IsTaking, none_pending}
use Rattle.sia_graph.proofs.Orders.Pending.{not_yet}
use Rattle.sia_graph.proofs.Orders.TakenFronts.{IsFrontOf, many_left}
use Rattle.sia_graph.proofs.order.take_nodes.Given as goal

abbrev pub invariant-loop-node : goal.invariant-loop-node
invariant-loop-node l = IsTaking l.graph l.done.items l.taking (not_yet l.node) (2 * l.size + length l.txns) × (length l.taking.counts.items ≡ (2 * l.size + length l.txns)) × ((s : ℕ) → get_or l.done.items s false ≡ false)

abbrev pub invariant-loop-node-2 : goal.invariant-loop-node-2
invariant-loop-node-2 l = IsTaking l.graph l.done.items l.taking none_pending (2 * l.size + length l.txns) × (length l.taking.counts.items ≡ (2 * l.size + length l.txns))
    × (front : List ℕ) × IsFrontOf (2 * l.size + length l.txns) l.graph l.done.items front × (l.order.items ≡ map (name_of l.size l.txns) (without_blocks (2 * l.size) front))

abbrev pub decreases-loop-node-2 : goal.decreases-loop-node-2
decreases-loop-node-2 l = many_left l.done.items
