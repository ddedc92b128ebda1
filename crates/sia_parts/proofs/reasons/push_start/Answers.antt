use Rattle.std.proofs.lemmas.Result.{on_ok_weaker}
use Rattle.sia_parts.proofs.OfReasons.PushedWords.{two_numbers}
use Rattle.sia_parts.proofs.reasons.push_start.Goals as goal

pub returns : goal.returns
returns c =
    on_ok_weaker c.push_number-2.result (λ told. two_numbers c.args.out.now.items _ _ _ _ _ _ _ (rw c.from.ensures at c.in_ok-push_number.ensures) (rw c.from-2.ensures at told)) c.push_number-2.ensures
