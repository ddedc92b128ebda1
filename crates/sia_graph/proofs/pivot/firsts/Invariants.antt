use Rattle.std.specs.Prelude.{◌∷◌, [], ℕ, map, slice_index}
use Rattle.sia_index.specs.Numbers.{IsCommittedAt}
use Rattle.sia_events.specs.DangerousStructures.{IsFirst}
use Rattle.sia_parts.proofs.Shared.Adding.{FromFirst}
use Rattle.sia_graph.specs.Late.{IsLastOf}
use Rattle.sia_graph.specs.declared.pivot.Link.{Link}
use Rattle.sia_graph.proofs.OfPivots.Picked.{ArePicked}
use Rattle.sia_graph.proofs.OfPivots.Vulnerable.{CommitsIn}
use Rattle.sia_graph.proofs.pivot.firsts.Given as goal

abbrev pub invariant-loop-into : goal.invariant-loop-into
invariant-loop-into l = IsLastOf (FromFirst (CommitsIn l.lifetimes) l.ins l.into-index) l.last

abbrev pub invariant-loop-out : goal.invariant-loop-out
invariant-loop-out l = (t : ℕ) → IsCommittedAt l.ix l.txn t → ArePicked (λ u. u ∷ []) (IsFirst l.ix t) (map (λ (link : Link). slice_index l.txns link.other) l.outs) l.out-index l.firsts.items
