-- A number below the mark is a write's.
use Rattle.sia_events.specs.Numbering.{names_of}
use Rattle.sia_events.proofs.Shared.LogReads.{pair_low, pair_high, pair_above, seen_low}
use Rattle.sia_events.proofs.log.Log.pair_numbers.Goals as goal

pub returns-then-pair-lt-MARK-clause-seen : goal.returns-then-pair-lt-MARK-clause-seen
returns-then-pair-lt-MARK-clause-seen c = seen_low (names_of c.args.self.now) c.args.pair _ _ (pair_above (names_of c.args.self.now) c.args.pair c.requires c.if-pair-lt-MARK.true) c.write.ensures.write

pub returns-then-pair-lt-MARK-clause-pair : goal.returns-then-pair-lt-MARK-clause-pair
returns-then-pair-lt-MARK-clause-pair c =
    let above = pair_above (names_of c.args.self.now) c.args.pair c.requires c.if-pair-lt-MARK.true in
    pair_low (names_of c.args.self.now) c.args.pair _ _ c.if-pair-lt-MARK.true above (seen_low (names_of c.args.self.now) c.args.pair _ _ above c.write.ensures.write)

pub returns-else-pair-lt-MARK-clause-pair : goal.returns-else-pair-lt-MARK-clause-pair
returns-else-pair-lt-MARK-clause-pair c = pair_high (names_of c.args.self.now) c.args.pair c.if-pair-lt-MARK.false
