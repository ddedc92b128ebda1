-- What each form tells.
use Rattle.std.proofs.Common.{◌≡◌, ℕ, List, Option, IfOk, subst, sym}
use Rattle.std.specs.Prelude.{IfSome}
use Rattle.sia_events.specs.declared.event.Event.{Event}
use Rattle.si_audit.specs.declared.options.Form.{Form}
use Rattle.si_audit.specs.declared.options.Form.TheVariants.{Explained}
use Rattle.si_audit.specs.Engine.{HasText, IsReportOf}
use Rattle.si_audit.proofs.engine.report_in.Goals as goal

pub returns-in-Full-clause-report : goal.returns-in-Full-clause-report
returns-in-Full-clause-report c =
    subst (λ (form : Form). IfOk c.in_full.result (λ a. (bytes : List ℕ) × IsReportOf form c.args.index bytes × HasText a bytes)) (sym c.in-Full.is) c.in_full.ensures.report

pub returns-in-Brief-clause-report : goal.returns-in-Brief-clause-report
returns-in-Brief-clause-report c =
    subst (λ (form : Form). IfOk c.in_brief.result (λ a. (bytes : List ℕ) × IsReportOf form c.args.index bytes × HasText a bytes)) (sym c.in-Brief.is) c.in_brief.ensures.report

pub returns-in_ok-sheet-in-Explained-clause-report : goal.returns-in_ok-sheet-in-Explained-clause-report
returns-in_ok-sheet-in-Explained-clause-report c =
    let sheet = c.in_ok-sheet-in-Explained.sheet.items in
    let same = subst (λ (log : Option (List Event)). IfSome log (λ of. of ≡ c.args.index)) c.unwrap.ensures c.requires.log in
    let told = subst (λ (of : List Event). IsReportOf Explained of sheet) same c.in_ok-sheet-in-Explained.ensures in
    (sheet, subst (λ (form : Form). IsReportOf form c.args.index sheet) (sym c.in-Explained.is) told, c.one_sheet.ensures.text)
