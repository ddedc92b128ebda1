-- The reads so far are dealt.
use Rattle.std.proofs.Common.{◌≡◌, length}
use Rattle.sia_parts.proofs.ReadLists.DealtReads.{HasDealt}
use Rattle.sia_parts.proofs.reads.Reads.of.Given as goal

abbrev pub invariant-loop-before : goal.invariant-loop-before
invariant-loop-before l = HasDealt l.log l.parts l.before l.dealt.items

abbrev pub invariant-loop : goal.invariant-loop
invariant-loop l = length l.dealt.items ≡ l.counter
