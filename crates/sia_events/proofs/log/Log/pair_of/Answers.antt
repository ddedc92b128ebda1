-- There are so few keys and writes that the number tells which it is.
use Rattle.std.proofs.Common.{◌≡◌}
use Rattle.sia_events.specs.Numbering.{names_of, pair_at, key_at, version_at, IsPair}
use Rattle.sia_events.proofs.Shared.LogReads.{few_names, seen_pair}
use Rattle.sia_events.proofs.log.Log.pair_of.Goals as goal

stands_for : (c : goal.After-pair_number) → IsPair (names_of c.args.self.now) c.pair_number.result × (pair_at (names_of c.args.self.now) c.pair_number.result ≡ (key_at (names_of c.args.self.now) c.args.key, version_at (names_of c.args.self.now) c.args.write))
stands_for c = seen_pair (names_of c.args.self.now) c.args.key c.args.write c.pair_number.result c.requires.key (few_names c.self.inside.tables c.args.self.now c.self.invariant.0 c.self.view_is).1 c.requires.seen c.pair_number.ensures.some c.pair_number.ensures.none

pub returns-clause-number : goal.returns-clause-number
returns-clause-number c = (stands_for c).0

pub returns-clause-pair : goal.returns-clause-pair
returns-clause-pair c = (stands_for c).1
