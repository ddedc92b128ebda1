use Rattle.std.proofs.Common.{◌≡◌, ap, sym, ◌∙◌, List, ℕ, ◌++◌}
use Rattle.std.specs.Global.{Vec}
use Rattle.si_audit.specs.Lines.{refusal_line}
use Rattle.si_audit.specs.Report.{TellsRefusal}
use Rattle.si_audit.proofs.OfEngine.OfHistory.{told_of_explained, told_of_others}
use Rattle.si_audit.proofs.engine.report_of_refusal.Goals as goal
use Rattle.si_audit.proofs.engine.report_of_refusal.Goals.{in-Explained+in_ok-push_place, in_default}

pub returns-clause-report : goal.returns-clause-report
returns-clause-report c limits bytes reader received refusal =
    let sheet = c.match-form.sheet in
    let form = c.args.o.now.form in
    let fault = c.args.fault.now in
    let written : c.push_refusal.new.out.items ≡ refusal_line fault = c.in_ok-push_refusal.ensures ∙ ap (λ (o : List ℕ). o ++ refusal_line fault) c.new-sheet.ensures.items in
    let told : TellsRefusal form bytes fault sheet.items = elim c.match-form.branch [
      | in-Explained+in_ok-push_place w ↦
          let is = sym c.form.ensures ∙ w.in-Explained.is in
          let told = w.in_ok-push_place.ensures limits bytes reader received.0 (received.1 is) refusal in
          told_of_explained form bytes fault told.0 sheet.items is told.1 (ap (λ (v : Vec ℕ). v.items) w.sheet-is ∙ told.2 ∙ ap (λ (o : List ℕ). o ++ told.0) written)
      | in_default w ↦
          told_of_others form bytes fault sheet.items (λ is. w.in_default.not-Explained (c.form.ensures ∙ is)) (ap (λ (v : Vec ℕ). v.items) w.sheet-is ∙ written)
    ] in
    (sheet.items, told, c.one_sheet.ensures.text)
