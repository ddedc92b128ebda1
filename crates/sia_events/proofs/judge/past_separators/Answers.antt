-- The bytes from there on are what is left.
use Rattle.sia_events.proofs.JudgedTexts.Judged.{to_end}
use Rattle.sia_events.proofs.judge.past_separators.Goals as goal

pub returns : goal.returns
returns c = (c.loop-len.len, c.loop-len.invariant.within, to_end c.loop-len.len c.args.text.now, c.loop-len.invariant.passed)
