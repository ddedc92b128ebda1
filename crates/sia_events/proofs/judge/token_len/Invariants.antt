-- No separator among the bytes passed.
use Rattle.std.proofs.Common.{length, ◌-◌}
use Rattle.sia_events.proofs.JudgedTexts.PlainBytes.{IsUnbroken}
use Rattle.sia_events.proofs.judge.token_len.Given as goal

abbrev pub invariant-loop-len : goal.invariant-loop-len
invariant-loop-len l = IsUnbroken l.text l.len

abbrev pub decreases-loop-len : goal.decreases-loop-len
decreases-loop-len l = length l.text - l.len

abbrev pub invariant-loop-len-2 : goal.invariant-loop-len-2
invariant-loop-len-2 l = IsUnbroken l.text l.len

abbrev pub decreases-loop-len-2 : goal.decreases-loop-len-2
decreases-loop-len-2 l = length l.text - l.len
