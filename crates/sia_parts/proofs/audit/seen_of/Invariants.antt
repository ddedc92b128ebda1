-- What the reads so far saw, and who read last.
use Rattle.sia_parts.specs.Known.{IsLastKnown}
use Rattle.sia_parts.specs.Seeing.{Gains, IsSightWithin}
use Rattle.sia_parts.proofs.Shared.Adding.{FromFirst}
use Rattle.sia_parts.proofs.audit.seen_of.Given as goal

abbrev pub invariant-loop-place : goal.invariant-loop-place
invariant-loop-place l = record {
  last : IsLastKnown l.scope.ix.now l.last;
  gains : Gains l.scope.ix.now (λ s. FromFirst (λ place. IsSightWithin l.scope.ix.now place l.scope.first l.scope.end) l.places l.place-index s) l.initial.seen l.seen;
}
