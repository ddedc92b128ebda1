-- The keys below `next` have given what was seen of them: those of the pairs so far are below it, and those of the others are not.
use Rattle.sia_parts.proofs.Auditing.Covered.{HasCovered}
use Rattle.sia_parts.specs.Seeing.{Gains, IsSightWithin}
use Rattle.sia_parts.proofs.audit.ranges.put_covered.Given as goal

abbrev pub invariant-loop-pair : goal.invariant-loop-pair
invariant-loop-pair l = record {
  covered : HasCovered l.scope.ix.now l.cover l.pair-index l.next;
  gains : Gains l.scope.ix.now (IsSightWithin l.scope.ix.now l.known.reader.place l.cover.first l.next) l.fn.seen l.seen;
}
