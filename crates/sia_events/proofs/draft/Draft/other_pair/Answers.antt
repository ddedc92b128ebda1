-- The key has a number, and the version has one.
use Rattle.std.proofs.Common.{arith}
use Rattle.std.proofs.lemmas.Option.{slice_get_within}
use Rattle.sia_events.proofs.Shared.Drafted.{pair_refused}
use Rattle.sia_events.proofs.draft.Draft.other_pair.Goals as goal

pub returns-in_default-clause-refused : goal.returns-in_default-clause-refused
returns-in_default-clause-refused c =
    let none = c.in_default.ensures.none in
    pair_refused c.args.self.now c.key.new.self c.seen.new.self c.args.mention.now.key c.args.mention.now.saw c.in_ok-number.number c.requires c.in_ok-number.ensures.has c.in_ok-number.ensures.found c.seen.ensures.same none.0 none.1

pub pair_number-requires : goal.pair_number-requires
pair_number-requires c = let w = slice_get_within c.key.new.self.tables.keys.items c.in_ok-number.number c.args.mention.now.key c.in_ok-number.ensures.has.is in let few = c.in_ok-number.ensures.found.sound.short.keys in omega arith
