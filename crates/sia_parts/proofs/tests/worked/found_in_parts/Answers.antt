-- Each part adds what is found in it, where its reads are those dealt to it.
use Rattle.std.proofs.Common.{[], ◌∷◌, ◌++◌, get_or, sym, subst}
use Rattle.std.specs.List.{AllZip}
use Rattle.std.proofs.lemmas.List.{take_more}
use Rattle.std.proofs.lemmas.Option.{slice_get-get_or}
use Rattle.sia_parts.specs.declared.cutting.Part.{Part}
use Rattle.sia_parts.specs.Dealing.{HasReadsOf}
use Rattle.sia_parts.specs.Findings.{ArePartFindings}
use Rattle.sia_parts.specs.Gathering.{IsPartFound}
use Rattle.sia_parts.specs.Parts.{IsInPart}
use Rattle.sia_parts.proofs.Gathered.FindingLemmas.{AllZip-one_more}
use Rattle.sia_parts.proofs.tests.worked.found_in_parts.Goals as goal

abbrev none : Part
none = record { lo = 0; hi = 0 }

pub find_in_part-requires-clause-places : goal.find_in_part-requires-clause-places
find_in_part-requires-clause-places c =
    let parts = c.args.parts.now in
    let part = get_or parts c.loop-i.i none in
    subst (λ h. HasReadsOf h part c.of_part.result.now) (sym c.log.ensures)
    (c.of_part.ensures c.args.h.now parts part c.requires.reads (slice_get-get_or parts c.loop-i.i none c.loop-i-test.true))

pub loop-i-preserved : goal.loop-i-preserved
loop-i-preserved c = (
  rw c.in_ok-push.ensures.items (subst (λ parts. AllZip (ArePartFindings c.args.h.now) parts (c.loop-i.audited.items ++ c.in_ok-audit.audit ∷ [])) (sym (take_more c.args.parts.now c.loop-i.i none c.loop-i-test.true))
      (AllZip-one_more (ArePartFindings c.args.h.now) _ _ _ _ c.loop-i.invariant.0 c.in_ok-audit.ensures)),
  rw c.in_ok-push-2.ensures.items (subst (λ parts. AllZip (λ part found. IsPartFound c.args.h.now (IsInPart part) found) parts (c.loop-i.seen.items ++ c.in_ok-found.found ∷ [])) (sym (take_more c.args.parts.now c.loop-i.i none c.loop-i-test.true))
      (AllZip-one_more (λ part found. IsPartFound c.args.h.now (IsInPart part) found) _ _ _ _ c.loop-i.invariant.1
      (subst (λ h. IsPartFound h (IsInPart (get_or c.args.parts.now c.loop-i.i none)) c.in_ok-found.found) c.log.ensures c.in_ok-found.ensures))),
)
