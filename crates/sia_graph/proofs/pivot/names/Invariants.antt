use Rattle.std.proofs.Common.{take, ◌≡◌, map, slice_index}
use Rattle.sia_graph.proofs.pivot.names.Given as goal

abbrev pub invariant-loop-link : goal.invariant-loop-link
invariant-loop-link g l = l.names.items ≡ map (λ link. slice_index l.txns (g.E.By.by link)) (take l.link-index l.of)
