-- The reads are dealt to the parts of the cutting, what was found in each can be put together.
use Rattle.std.proofs.Common.{subst, sym}
use Rattle.std.specs.List.{AllZip}
use Rattle.sia_parts.specs.Dealing.{AreReads}
use Rattle.sia_parts.specs.Gathering.{IsPartFound}
use Rattle.sia_parts.specs.Parts.{IsCutting, IsInPart}
use Rattle.sia_parts.proofs.tests.worked.is_found.Goals as goal

pub of-requires : goal.of-requires
of-requires c = (c.args.points.now, subst (IsCutting c.args.points.now) (sym c.deref.ensures.value) c.in_ok-parts.ensures.parts)

pub found_in_parts-requires-clause-reads : goal.found_in_parts-requires-clause-reads
found_in_parts-requires-clause-reads c =
    subst (λ parts. AreReads c.args.h.now parts c.in_ok-reads.reads) (sym c.deref-2.ensures.value)
    (subst (λ parts. AreReads c.args.h.now parts c.in_ok-reads.reads) c.deref.ensures.value
    (subst (λ h. AreReads h c.deref.result.now c.in_ok-reads.reads) c.log.ensures c.in_ok-reads.ensures))

pub of-requires-2 : goal.of-requires-2
of-requires-2 c = (
  c.args.points.now,
  c.in_ok-parts.parts.items,
  c.in_ok-parts.ensures.parts,
  subst (λ h. AllZip (λ part found. IsPartFound h (IsInPart part) found) c.in_ok-parts.parts.items c.in_ok-audited.seen.items) (sym c.requires)
      (subst (λ parts. AllZip (λ part found. IsPartFound c.args.h.now (IsInPart part) found) parts c.in_ok-audited.seen.items) c.deref-2.ensures.value c.in_ok-audited.ensures.1),
)
