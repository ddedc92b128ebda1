-- What is left goes up from the last key, and that lies in the range, exactly where the whole list goes up.
use Rattle.std.proofs.Common.{◌≡◌, ℕ, Bool, true, Option, Some, None, not, nat_lt, drop}
use Rattle.std.specs.Prelude.{◌&&◌}
use Rattle.sia_events.specs.Drafts.{mentioned}
use Rattle.sia_events.specs.Known.{least_after, goes_up}
use Rattle.sia_events.proofs.draft.is_good_list.Given as goal

abbrev pub fits : Option ℕ → ℕ → Bool
fits None hi = true
fits (Some k) hi = not (nat_lt hi k)

abbrev pub invariant-loop-mention : goal.invariant-loop-mention
invariant-loop-mention l = (fits l.before l.hi && goes_up (least_after l.before l.lo) l.hi (mentioned (drop l.mention-index l.listed))) ≡ goes_up l.lo l.hi (mentioned l.listed)
