-- One word after a space.
use Rattle.std.proofs.Common.{◌≡◌, ◌++◌, ◌∷◌, ◌∙◌, [], OnOk, ap, codes, subst, sym, append_assoc, append-nil, List, ℕ}
use Rattle.std.proofs.lemmas.Result.{on_ok_weaker}
use Rattle.si_audit.specs.declared.report.Words.{Words}
use Rattle.si_audit.specs.Spaced.{spaced, words_of}
use Rattle.si_audit.proofs.report.push_some.Goals as goal

pub returns-in-Number : goal.returns-in-Number
returns-in-Number c =
    let o = c.args.out.now.items in
    subst (λ (w : Words). OnOk c.push_number.result (c.push_number.new.out.items ≡ o ++ spaced (words_of w))) (sym c.in-Number.is)
    (on_ok_weaker c.push_number.result (λ told. told ∙ append_assoc (o ++ codes " ") _ [] ∙ append_assoc o (codes " ") _) c.push_number.ensures)

pub returns-in-Token : goal.returns-in-Token
returns-in-Token c =
    let o = c.args.out.now.items in
    subst (λ (w : Words). OnOk c.push_number-in-Token.result (c.push_number-in-Token.new.out.items ≡ o ++ spaced (words_of w))) (sym c.in-Token.is)
    (on_ok_weaker c.push_number-in-Token.result (λ told. told ∙ append_assoc (o ++ codes " ") _ (codes ":") ∙ append_assoc o (codes " ") _ ∙ ap (λ (x : List ℕ). o ++ (32 ∷ x)) (sym (append-nil _))) c.push_number-in-Token.ensures)

pub returns-in-Numbers : goal.returns-in-Numbers
returns-in-Numbers c =
    subst (λ (w : Words). OnOk c.push_numbers.result (c.push_numbers.new.out.items ≡ c.args.out.now.items ++ spaced (words_of w))) (sym c.in-Numbers.is) c.push_numbers.ensures
