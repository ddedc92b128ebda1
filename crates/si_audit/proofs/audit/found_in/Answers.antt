use Rattle.sia_parts.specs.declared.cutting.Part.{Part}
use Rattle.sia_parts.specs.declared.finding.PartFound.{PartFound}
use Rattle.std.proofs.Common.{subst, sym}
use Rattle.std.specs.List.{AllZip}
use Rattle.sia_parts.specs.Gathering.{IsPartFound}
use Rattle.sia_parts.specs.Parts.{IsInPart}
use Rattle.si_audit.proofs.Shared.Results.{each_owed}
use Rattle.si_audit.proofs.audit.found_in.Goals as goal

pub of-requires-2 : goal.of-requires-2
of-requires-2 g c =
    let parts = c.args.parts.now in
    let owed = each_owed (λ (part : Part) (found : PartFound). IsPartFound c.args.log.now (IsInPart part) found) parts c.in-Ok.parts.items c.in-Ok.ensures.len c.in-Ok.ensures.owed in
    let cutting = c.requires.cutting in
    (cutting.0, parts, cutting.1, subst (λ h. AllZip (λ (part : Part) (found : PartFound). IsPartFound h (IsInPart part) found) parts c.in-Ok.parts.items) (sym c.requires.index) owed)
