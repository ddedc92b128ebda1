-- What is written is what the report of the auditor gives, which was fed what was read.
use Rattle.std.proofs.Common.{ℕ, List, IfSome}
use Rattle.std.specs.Io.KnownBytes.{Appends}
use Rattle.si_audit.specs.declared.engine.Outcome.{Outcome}
use Rattle.si_audit.specs.Outcomes.{IsOutcome}
use Rattle.si_audit.specs.Report.{IsReport}
use Rattle.si_audit.proofs.OfRun.OfSource.{front_written, none_refused, of_outcome, of_source}
use Rattle.si_audit.proofs.run.run.Goals as goal

pub returns-clause-report : goal.returns-clause-report
returns-clause-report g c =
    let limits = c.args.o.now.limits in
    let form = c.args.o.now.form in
    let level = c.args.o.now.level in
    let taken : List ℕ → Type 0 = Appends (g.W.Sink.taken c.args.writer.now) (g.W.Sink.taken c.write_report.new.writer) in
    let P : Outcome → List ℕ → Type 0 = λ outcome text. IsOutcome limits level text outcome × (bytes : List ℕ) × IsReport limits form text bytes × taken bytes in
    of_outcome (λ outcome. IfSome (g.R.Source.remaining c.args.reader.now) (P outcome)) _ _ c.write_report.ensures.outcome
    (λ done. of_source (P c.in_ok-audited.audited.outcome) _ _ c.in_ok-auditor.ensures.text (λ text fed.
    let told = c.in_ok-audited.ensures.report limits c.args.o.now text fed in
    let accepted = none_refused _ _ (g.W.Sink.refused_fails c.write_report.new.writer) (λ failed. let fault = c.write_report.ensures.write.1 failed in cc) in (
      c.in_ok-audited.ensures.outcome limits c.args.o.now text fed,
      told.0,
      told.1,
      c.write_report.ensures.whole (λ fault. cc) accepted told.0 told.2,
    )))

pub returns-clause-front : goal.returns-clause-front
returns-clause-front g c fault = of_source _ _ _ c.in_ok-auditor.ensures.text (λ text fed.
    let told = c.in_ok-audited.ensures.report c.args.o.now.limits c.args.o.now text fed in
    let some = c.write_report.ensures.front fault told.0 told.2 in
    front_written c.args.o.now.limits c.args.o.now.form _ _ text told.0 told.1 some.0 some.1 some.2 some.3)

pub returns-clause-whole : goal.returns-clause-whole
returns-clause-whole g c fault accepted = of_source
    (λ (text : List ℕ). (bytes : List ℕ) × IsReport c.args.o.now.limits c.args.o.now.form text bytes × Appends (g.W.Sink.taken c.args.writer.now) (g.W.Sink.taken c.write_report.new.writer) bytes) _ _ c.in_ok-auditor.ensures.text (λ text fed.
    let told = c.in_ok-audited.ensures.report c.args.o.now.limits c.args.o.now text fed in (
      told.0,
      told.1,
      c.write_report.ensures.whole (λ other. cc) accepted told.0 told.2,
    ))
