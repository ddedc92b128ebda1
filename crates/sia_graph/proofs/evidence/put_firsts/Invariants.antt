use Rattle.std.proofs.Common.{[]}
use Rattle.sia_parts.specs.Sights.{Adds}
use Rattle.sia_parts.proofs.Shared.Adding.{FromFirst}
use Rattle.sia_graph.proofs.OnEvidence.FirstKeys.{IsFirstKeyAt}
use Rattle.sia_graph.proofs.evidence.put_firsts.Given as goal

abbrev pub invariant-loop-position : goal.invariant-loop-position
invariant-loop-position l = Adds (FromFirst (IsFirstKeyAt l.index l.txn) l.position-items l.position-index) [] l.firsts.items
