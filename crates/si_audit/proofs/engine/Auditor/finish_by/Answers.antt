-- The report is that of the text that was fed, and so is how the run ends.
use Rattle.std.proofs.Common.{◌≡◌, ℕ, List, Result, Ok, Err, IfOk, inl, subst, sym}
use Rattle.sia_events.specs.Limits.{Limits}
use Rattle.si_audit.specs.declared.engine.Auditor.{Auditor}
use Rattle.si_audit.specs.declared.options.Form.TheVariants.{Explained}
use Rattle.si_audit.specs.Engine.{HasText, IsFed, IsOutcomeOf, IsReceived, IsReportOf}
use Rattle.si_audit.specs.Options.{Choices}
use Rattle.si_audit.specs.Outcomes.{IsOutcome}
use Rattle.si_audit.specs.Report.{IsReport}
use Rattle.si_audit.proofs.OfEngine.OfHistory.{outcome_of_text, refusal_of, report_of_text}
use Rattle.si_audit.proofs.Shared.Results.{ok_map}
use Rattle.si_audit.proofs.engine.Auditor.finish_by.Goals as goal

-- a fact of the answer for each text that was fed
of_each : {A E : Type 0} (a : Auditor) (P : Limits → Choices → List ℕ → A → Type 0) (r : Result A E)
    → ((limits : Limits) (o : Choices) (text : List ℕ) → IsFed limits o a text → IfOk r (P limits o text))
    → IfOk r (λ x. (limits : Limits) (o : Choices) (text : List ℕ) → IsFed limits o a text → P limits o text x)
of_each a P (Ok x) each = each
of_each a P (Err e) each = tt

pub returns-in-Ok : goal.returns-in-Ok
returns-in-Ok g c =
    let a = c.args.self in
    let answer = c.report_of in
    let h = c.in-Ok.log in record {
      report = of_each a (λ limits o text r. (bytes : List ℕ) × IsReport limits o.form text bytes × HasText r bytes) answer.result (λ limits o text fed.
          let reads = c.in-Ok.ensures.reads limits text fed.received.0 in
          ok_map _ _ answer.result (λ r told. (told.0, report_of_text limits text h o.form told.0 reads.0 reads.1 (subst (λ (chosen : Choices). IsReportOf chosen.form h told.0) fed.options told.1), told.2)) answer.ensures.report);
      outcome = of_each a (λ limits o text r. IsOutcome limits o.level text r.outcome) answer.result (λ limits o text fed.
          let reads = c.in-Ok.ensures.reads limits text fed.received.0 in
          ok_map _ _ answer.result (λ r is. outcome_of_text limits text h o.level r.outcome reads.0 reads.1 (subst (λ (chosen : Choices). IsOutcomeOf chosen.level h r.outcome) fed.options is)) answer.ensures.outcome);
    }

pub returns-in_default : goal.returns-in_default
returns-in_default g c =
    let a = c.args.self in
    let answer = c.report_of_refusal in
    let fault = c.in-Err.fault in record {
      report = of_each a (λ limits o text r. (bytes : List ℕ) × IsReport limits o.form text bytes × HasText r bytes) answer.result (λ limits o text fed.
          let refusal = refusal_of limits text fault c.in_default.not-NoMemory (c.in-Err.ensures.reads limits text fed.received.0) in
          let received = subst (λ (chosen : Choices). IsReceived limits (chosen.form ≡ Explained) a.locator a.text text) (sym fed.options) fed.received in
          ok_map _ _ answer.result (λ r told. (told.0, subst (λ (chosen : Choices). IsReport limits chosen.form text told.0) fed.options (inl (fault, refusal, told.1)), told.2)) (answer.ensures.report limits text a.text received refusal));
      outcome = of_each a (λ limits o text r. IsOutcome limits o.level text r.outcome) answer.result (λ limits o text fed.
          let refusal = refusal_of limits text fault c.in_default.not-NoMemory (c.in-Err.ensures.reads limits text fed.received.0) in
          ok_map _ _ answer.result (λ r is. subst (IsOutcome limits o.level text) (sym is) (fault, refusal)) answer.ensures.outcome);
    }
