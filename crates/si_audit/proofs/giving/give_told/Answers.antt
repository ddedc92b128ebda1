-- What tells is the same, and where nothing is left it is let go.
use Rattle.std.proofs.Common.{rules, ◌≡◌, [], refl, subst}
use Rattle.si_audit.specs.Giving.{IsLeftOf}
use Rattle.si_audit.proofs.OfReport.TextsInTurn.{blank}
use Rattle.si_audit.proofs.giving.give_told.Goals as goal
use Rattle.si_audit.proofs.giving.give_told.Goals.{in-Some+else-sheet-gt0, in_default}

pub returns-then-sheet-gt0-clause-gives : goal.returns-then-sheet-gt0-clause-gives
returns-then-sheet-gt0-clause-gives g c text old =
    c.fill.ensures.left text (subst (λ e. IsLeftOf g.T.Told.tells g.T.Told.text e text) c.in-Some.is old)

pub returns-clause-gives : goal.returns-clause-gives
returns-clause-gives g c text old =
    let gone : text ≡ [] = elim c.match-giving.branch [
      | in-Some+else-sheet-gt0 w ↦
          let (rest, all, left) = w.fill.ensures.left text (subst (λ e. IsLeftOf g.T.Told.tells g.T.Told.text e text) w.in-Some.is old) in
          let zero : w.fill.new.sheet.end ≡ 0 = search rules in
          blank w.fill.new.sheet rest text all zero (w.fill.ensures.end zero rest left)
      | in_default w ↦ subst (λ e. IsLeftOf g.T.Told.tells g.T.Told.text e text) w.in_default.is old
    ] in
    (text, refl, gone)
