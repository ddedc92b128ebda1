-- The pairs so far, with those that are still read, are the whole list's.
use Rattle.std.proofs.Common.{◌≡◌, ℕ, ◌<◌, length}
use Rattle.sia_events.specs.Listings.{listed}
use Rattle.sia_events.specs.Parsing.{pairs_within, list_at}
use Rattle.sia_events.proofs.TokensRead.Pairs.{with_front}
use Rattle.sia_events.proofs.token.list.Given as goal

abbrev pub invariant-loop-taken : goal.invariant-loop-taken
invariant-loop-taken l = (more : ℕ) × (length l.rest < more) × (with_front (listed l.listing) (pairs_within more l.rest) ≡ list_at l.text)

abbrev pub decreases-loop-taken : goal.decreases-loop-taken
decreases-loop-taken l = length l.rest
