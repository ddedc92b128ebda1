-- One part holds all keys.
use Rattle.std.proofs.Common.{◌≡◌, List, [], ◌∷◌, ◌++◌, ap, refl, subst, sym, ◌∙◌}
use Rattle.std.specs.List.{AllZip}
use Rattle.sia_events.specs.declared.event.Event.{Event}
use Rattle.sia_parts.specs.declared.cutting.Part.{Part}
use Rattle.sia_parts.specs.declared.finding.PartFound.{PartFound}
use Rattle.sia_parts.specs.Gathering.{IsPartFound}
use Rattle.sia_parts.specs.Parts.{IsInPart}
use Rattle.si_audit.proofs.OfTests.Uncut.{uncut, whole}
use Rattle.si_audit.proofs.tests.graph.histories.gathered.Goals as goal

pub of-requires : goal.of-requires
of-requires c = ([], uncut)

pub find_in_part-requires-clause-places : goal.find_in_part-requires-clause-places
find_in_part-requires-clause-places c = c.of_part.ensures c.args.log.now (whole ∷ []) whole c.in_ok-reads.ensures refl

pub of-requires-2 : goal.of-requires-2
of-requires-2 c =
    let found : PartFound = c.in_ok-find_in_part.field-0 in
    let items : c.push.new.self.items ≡ found ∷ [] = c.in_ok-push.ensures.items ∙ ap (λ (l : List PartFound). l ++ found ∷ []) c.new-parts.ensures.items in
    let here = subst (λ (h : List Event). IsPartFound h (IsInPart whole) found) (sym c.requires) c.in_ok-find_in_part.ensures in
    ([], whole ∷ [], uncut, subst (AllZip (λ (part : Part) (has : PartFound). IsPartFound c.args.ix.now (IsInPart part) has) (whole ∷ [])) (sym items) (here, tt))
