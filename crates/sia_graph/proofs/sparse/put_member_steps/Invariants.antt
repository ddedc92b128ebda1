use Rattle.sia_parts.specs.Sights.{Adds}
use Rattle.sia_parts.proofs.Shared.Adding.{FromFirst}
use Rattle.sia_graph.specs.Makers.{IsMaker, IsMakerBefore, IsNextMaker}
use Rattle.sia_graph.specs.SparseGraphs.{IsStepTo}
use Rattle.sia_graph.proofs.sparse.put_member_steps.Given as goal

abbrev pub invariant-loop-seen : goal.invariant-loop-seen
invariant-loop-seen l = Adds (FromFirst (IsStepTo l.size l.txn (IsMaker l.index)) l.seen-items l.seen-index) l.fn.sources.items l.sources.items
    × Adds (FromFirst (IsStepTo l.size l.txn (IsNextMaker l.index)) l.seen-items l.seen-index) l.fn.targets.items l.targets.items

abbrev pub invariant-loop-made : goal.invariant-loop-made
invariant-loop-made l = Adds (FromFirst (IsStepTo l.size l.txn (IsMakerBefore l.index)) l.made-items l.made-index) l.initial.sources.items l.sources.items
