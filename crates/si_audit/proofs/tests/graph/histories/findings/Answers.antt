-- One part holds all keys.
use Rattle.std.proofs.Common.{◌≡◌, List, [], ◌∷◌, ◌++◌, ap, subst, sym, ◌∙◌}
use Rattle.std.specs.List.{AllZip}
use Rattle.sia_events.specs.declared.event.Event.{Event}
use Rattle.sia_events.specs.Refusals.{IsWellFormed}
use Rattle.sia_parts.specs.declared.finding.Findings.{Findings}
use Rattle.sia_parts.specs.Findings.{AreFindings, ArePartFindings}
use Rattle.si_audit.proofs.OfTests.Uncut.{uncut, whole}
use Rattle.si_audit.proofs.tests.graph.histories.findings.Goals as goal

pub gather-requires : goal.gather-requires
gather-requires c =
    let h = c.args.h.now in
    let found : Findings = c.in_ok-audit_part.field-0 in
    let items : c.push.new.self.items ≡ found ∷ [] = c.in_ok-push.ensures.items ∙ ap (λ (l : List Findings). l ++ found ∷ []) c.new-parts.ensures.items in
    (h, [], whole ∷ [], subst IsWellFormed c.requires c.law.ensures, uncut, subst (AllZip (ArePartFindings h) (whole ∷ [])) (sym items) (c.in_ok-audit_part.ensures, tt))

pub returns : goal.returns
returns c =
    let h = c.args.h.now in
    let found : Findings = c.in_ok-audit_part.field-0 in
    let items : c.push.new.self.items ≡ found ∷ [] = c.in_ok-push.ensures.items ∙ ap (λ (l : List Findings). l ++ found ∷ []) c.new-parts.ensures.items in
    let are = c.in_ok-found.ensures h [] (whole ∷ []) (subst IsWellFormed c.requires c.law.ensures) uncut (subst (AllZip (ArePartFindings h) (whole ∷ [])) (sym items) (c.in_ok-audit_part.ensures, tt)) in
    subst (λ (g : List Event). AreFindings g c.in_ok-found.found) (sym c.requires) are
