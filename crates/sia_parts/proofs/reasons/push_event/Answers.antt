use Rattle.std.proofs.Common.{List, ℕ, ◌++◌, ◌∙◌, ap, codes}
use Rattle.std.proofs.lemmas.Result.{on_ok_weaker}
use Rattle.sia_events.specs.Text.{numeral}
use Rattle.sia_parts.proofs.OfReasons.PushedWords.{number_and_words}
use Rattle.sia_parts.proofs.reasons.push_event.Goals as goal

pub returns : goal.returns
returns c =
    let number = (rw c.from.ensures at c.in_ok-push_number.ensures) ∙ ap (λ (x : List ℕ). x ++ codes "event " ++ numeral c.args.place ++ codes " ") c.in_ok-extend_from_slice.ensures.items in
    on_ok_weaker c.push_about.result (λ told. number_and_words (c.args.out.now.items ++ c.args.before.now) _ _ _ _ _ _ number told) c.push_about.ensures
