-- The lists so far hold the place.
use Rattle.sia_parts.specs.Dealing.{DealsWithin}
use Rattle.sia_parts.proofs.reads.put_read.Given as goal

abbrev pub invariant-loop-i : goal.invariant-loop-i
invariant-loop-i l = DealsWithin l.place l.from l.i l.fn.dealt.items l.dealt.items
