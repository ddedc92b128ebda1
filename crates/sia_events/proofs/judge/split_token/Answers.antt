-- The bytes before the first separator, and those after it, are all of the text.
use Rattle.std.proofs.Common.{sym, ◌∙◌, arith}
use Rattle.sia_events.proofs.JudgedTexts.Tokens.{all_unbroken, splits_after}
use Rattle.sia_events.proofs.JudgedTexts.Judged.{to_end}
use Rattle.sia_events.proofs.judge.split_token.Goals as goal

pub returns-then-len-text-clause-none : goal.returns-then-len-text-clause-none
returns-then-len-text-clause-none c = all_unbroken c.args.text.now (sym c.token_len-len.ensures.len ∙ c.if-len-text.true)

pub returns-clause-some : goal.returns-clause-some
returns-clause-some c = grind (arith, splits_after, to_end)
