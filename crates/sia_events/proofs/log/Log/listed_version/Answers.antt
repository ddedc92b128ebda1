-- What the search doesn't find isn't listed.
use Rattle.std.proofs.Math.Nat.{le_refl}
use Rattle.sia_events.specs.Numbering.{names_of, pair_at}
use Rattle.sia_events.proofs.Writing.ListedPairs.{none_behind, none_there}
use Rattle.sia_events.proofs.log.Log.listed_version.Goals as goal

pub returns-then-at-listed : goal.returns-then-at-listed
returns-then-at-listed c = none_behind (pair_at (names_of c.args.self.now)) c.listed-listed.result.now _ c.listed-listed.ensures.pairs c.args.key c.place_of-at.result c.place_of-at.ensures.below c.if-at-listed.true

pub returns-else-own-key : goal.returns-else-own-key
returns-else-own-key c = none_there (pair_at (names_of c.args.self.now)) c.listed-listed.result.now _ c.listed-listed.ensures.pairs c.args.key c.place_of-at.result c.place_of-at.ensures.below c.listed-listed.ensures.ascend c.if-at-listed.false _ c.pair-own.ensures (c.place_of-at.ensures.above c.place_of-at.result 0 (le_refl c.place_of-at.result) c.if-at-listed.false) c.if-own-key.false
