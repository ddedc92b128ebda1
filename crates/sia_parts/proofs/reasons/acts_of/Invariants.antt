use Rattle.sia_parts.proofs.OfReasons.TakenEvents.{TakenTo}
use Rattle.sia_parts.proofs.reasons.acts_of.Given as goal

abbrev pub invariant-loop-before : goal.invariant-loop-before
invariant-loop-before l = TakenTo l.txns.items l.h l.before l.acts.items
