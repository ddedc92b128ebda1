-- The pairs before the one place are of lesser keys, and those from the other on of greater ones.
use Rattle.std.proofs.Common.{ℕ, ◌+◌, ◌<◌, arith}
use Rattle.sia_events.specs.Numbering.{names_of, pair_at}
use Rattle.sia_parts.proofs.Auditing.CutPairs.{IsCutAt, pairs_stay, those_within}
use Rattle.sia_parts.proofs.audit.ranges.pairs_within.Goals as goal
use Rattle.sia_parts.proofs.audit.ranges.pairs_within.Goals.{then-range-lo, else-range-lo, then-hi-range, else-hi-range}

pub returns : goal.returns
returns c =
    let pairs = c.args.pairs.now in
    let key = λ (p : ℕ). (pair_at (names_of c.args.log.now) p).0 in
    let low : IsCutAt key pairs c.args.lo c.if-range-lo.from = elim c.if-range-lo.branch [
      | then-range-lo w ↦ rw w.from-is (record { within = w.place_of-from.ensures.bound; below = w.place_of-from.ensures.below; above = w.place_of-from.ensures.above })
      | else-range-lo w ↦ rw w.from-is (record { within = omega arith; below = λ i d less. absurd (omega arith); above = λ i d more less. (let inside = c.requires.inside i d less in let le = w.if-range-lo.false in omega arith) })
    ] in
    let high : IsCutAt key pairs (c.args.hi + 1) c.if-hi-range.to = elim c.if-hi-range.branch [
      | then-hi-range w ↦ rw w.to-is (record { within = w.place_of-to.ensures.bound; below = w.place_of-to.ensures.below; above = w.place_of-to.ensures.above })
      | else-hi-range w ↦ rw w.to-is (record { within = omega arith; below = λ i d less. (let inside = c.requires.inside i d (omega arith) in let le = w.if-hi-range.false in omega arith); above = λ i d more less. absurd (omega arith) })
    ] in
    record {
      ascend = pairs_stay key pairs c.args.lo c.args.hi c.if-range-lo.from c.if-hi-range.to c.min.result low high c.min.ensures (λ p q. key p < key q) c.requires.ascend;
      each = those_within key pairs c.args.lo c.args.hi c.if-range-lo.from c.if-hi-range.to c.min.result low high c.min.ensures;
    }
