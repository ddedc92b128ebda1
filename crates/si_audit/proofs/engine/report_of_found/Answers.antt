-- What the form tells, and how the run ends.
use Rattle.std.proofs.Common.{ℕ, List, IfOk, subst, sym}
use Rattle.sia_events.specs.declared.event.Event.{Event}
use Rattle.si_audit.specs.declared.options.Form.{Form}
use Rattle.si_audit.specs.declared.options.Level.{Level}
use Rattle.si_audit.specs.Engine.{HasText, IsOutcomeOf, IsReportOf}
use Rattle.si_audit.proofs.Shared.Results.{ok_map}
use Rattle.si_audit.proofs.engine.report_of_found.Goals as goal

pub returns : goal.returns
returns c =
    let h = c.args.log in
    let same = c.requires.index in
    let ends = subst (λ (level : Level). IsOutcomeOf level h c.in_ok-outcome.outcome) c.level.ensures (subst (λ (of : List Event). IsOutcomeOf c.level.result of c.in_ok-outcome.outcome) same c.in_ok-outcome.ensures) in record {
      report = subst (λ (form : Form). IfOk c.report_in.result (λ a. (bytes : List ℕ) × IsReportOf form h bytes × HasText a bytes)) c.form.ensures (subst (λ (of : List Event). IfOk c.report_in.result (λ a. (bytes : List ℕ) × IsReportOf c.form.result of bytes × HasText a bytes)) same c.report_in.ensures.report);
      outcome = ok_map _ _ c.report_in.result (λ a is. subst (IsOutcomeOf c.args.o.now.level h) (sym is) ends) c.report_in.ensures.outcome;
    }
