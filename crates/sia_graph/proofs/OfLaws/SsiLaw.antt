-- What passes the test of serializable snapshot isolation has a serial order, and so has what keeps isolation with no pivot.
use Rattle.std.proofs.Common.{List}
use Rattle.sia_events.specs.declared.event.Event.{Event}
use Rattle.sia_events.specs.Refusals.{IsWellFormed}
use Rattle.sia_events.specs.Laws.{SsiLaw, PivotLaw}
use Rattle.sia_graph.proofs.Shared.Due.{none_unexplained}
use Rattle.sia_graph.proofs.Shared.NoStuckSet.{keeping_order}
use Rattle.sia_graph.proofs.OfLaws.ReplayLaw.{keeps_replays}

pub ssi_holds : (h : List Event) → IsWellFormed h → SsiLaw h
ssi_holds h wf passes =
    let explained = none_unexplained h wf passes.0 in
    let kept = keeping_order h wf passes.0 passes.1 in
    record { explained = explained; kept = kept; serializable = (kept.0, kept.1, keeps_replays h wf kept.0 kept.1 kept.2 explained) }

-- the middle of a dangerous structure is a pivot
pub pivot_holds : (h : List Event) → IsWellFormed h → PivotLaw h
pivot_holds h wf kept none = ssi_holds h wf (kept, λ t out_to first. none t ((first.2, first.3), (out_to, first.0)))
