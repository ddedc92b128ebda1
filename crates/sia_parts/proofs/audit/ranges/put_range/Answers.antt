-- The pairs that the range listed within the part, and the numbers of its keys there.
use Rattle.std.proofs.Common.{ℕ, ◌≤◌, sym, subst, ◌∙◌, arith}
use Rattle.std.specs.Prelude.{◌↔◌, All, Contains}
use Rattle.std.proofs.lemmas.List.Elements.{All-contains}
use Rattle.sia_events.specs.Numbering.{names_of, pair_at, AscendByKey, IsPair}
use Rattle.sia_events.specs.Reads.{SawAt}
use Rattle.sia_parts.specs.Seeing.{IsSightWithin}
use Rattle.sia_parts.proofs.Auditing.Gaining.{gains_near}
use Rattle.sia_parts.proofs.Shared.Options.{if_not_there}
use Rattle.sia_parts.proofs.Auditing.RangeCovers.{all_from, cover_gains, key_unlisted, pair_inside, pair_saw, range_in}
use Rattle.sia_parts.proofs.Auditing.Viewing.{on_ok}
use Rattle.sia_parts.proofs.audit.ranges.put_range.Goals as goal

pub pairs_within-pairs-requires-clause-inside : goal.pairs_within-pairs-requires-clause-inside
pairs_within-pairs-requires-clause-inside c =
    let h = c.args.scope.now.ix.now in
    let is = range_in c.args.scope.now c.requires.scope c.args.known.now.reader.place c.args.known.now.reader.txn c.args.range c.listed-listed.result.now c.listed-listed.ensures.pairs c.requires.event c.range-from.result.0 c.range-from.result.1 c.max-lo.result c.min-hi.result c.range-from.ensures.lo c.range-from.ensures.hi c.max-lo.ensures c.min-hi.ensures in
    subst (λ l. All (λ q. (c.range-from.result.0 ≤ (pair_at (names_of l) q).0) × ((pair_at (names_of l) q).0 ≤ c.range-from.result.1)) c.listed-listed.result.now) c.requires.scope.same
    (all_from (λ q. (c.range-from.result.0 ≤ (pair_at (names_of h) q).0) × ((pair_at (names_of h) q).0 ≤ c.range-from.result.1)) c.listed-listed.result.now
    (λ q has. let inside = pair_inside h c.requires.scope.well_formed _ _ _ _ _ is.at q has in let low = inside.0 in let high = inside.1 in let from = is.from in let to = is.to in (omega arith, omega arith)))

pub near_of-requires-clause-pairs : goal.near_of-requires-clause-pairs
near_of-requires-clause-pairs c = all_from (IsPair (names_of c.args.scope.now.log.now)) c.pairs_within-pairs.result.now
    (λ q has. All-contains (IsPair (names_of c.args.scope.now.log.now)) c.listed-listed.result.now q c.listed-listed.ensures.within ((c.pairs_within-pairs.ensures.each q).0 has).0)

pub put_covered-requires-clause-cover : goal.put_covered-requires-clause-cover
put_covered-requires-clause-cover c =
    let wf = c.requires.scope.well_formed in
    let listed = c.listed-listed.result.now in
    let h = c.args.scope.now.ix.now in
    let is = range_in c.args.scope.now c.requires.scope c.args.known.now.reader.place c.args.known.now.reader.txn c.args.range c.listed-listed.result.now c.listed-listed.ensures.pairs c.requires.event c.range-from.result.0 c.range-from.result.1 c.max-lo.result c.min-hi.result c.range-from.ensures.lo c.range-from.ensures.hi c.max-lo.ensures c.min-hi.ensures in
    let those = subst (λ l. (q : ℕ) → Contains c.pairs_within-pairs.result.now q ↔ (Contains listed q × (c.max-lo.result ≤ (pair_at (names_of l) q).0) × ((pair_at (names_of l) q).0 ≤ c.min-hi.result))) (sym c.requires.scope.same) c.pairs_within-pairs.ensures.each in
    let pairs = c.pairs_within-pairs.result.now in
    let low = is.low in
    let high = is.high in
    record {
      each = c.numbers_within-first.ensures;
      numbers = subst (λ l. All (IsPair (names_of l)) pairs) (sym c.requires.scope.same)
          (all_from (IsPair (names_of c.args.scope.now.log.now)) pairs (λ q has. All-contains (IsPair (names_of c.args.scope.now.log.now)) listed q c.listed-listed.ensures.within ((c.pairs_within-pairs.ensures.each q).0 has).0));
      ascend = subst (λ l. AscendByKey l pairs) (sym c.requires.scope.same) c.pairs_within-pairs.ensures.ascend;
      inside = all_from (λ q. (c.max-lo.result ≤ (pair_at (names_of h) q).0) × ((pair_at (names_of h) q).0 ≤ c.min-hi.result)) pairs (λ q has. let w = (those q).0 has in (w.1, w.2));
      listed = all_from (λ q. SawAt h c.args.known.now.reader.place c.args.known.now.reader.txn (pair_at (names_of h) q).0 (pair_at (names_of h) q).1) pairs (λ q has. pair_saw h wf _ _ _ _ listed is.at q ((those q).0 has).0);
      unlisted = key_unlisted h wf _ _ _ _ listed is.at c.max-lo.result c.min-hi.result (omega arith) (omega arith) pairs those;
      own = λ none. if_not_there _ _ c.next_own.result (sym c.is_some.ensures ∙ none) c.next_own.ensures;
    }

pub returns : goal.returns
returns c =
    let h = c.args.scope.now.ix.now in
    let is = range_in c.args.scope.now c.requires.scope c.args.known.now.reader.place c.args.known.now.reader.txn c.args.range c.listed-listed.result.now c.listed-listed.ensures.pairs c.requires.event c.range-from.result.0 c.range-from.result.1 c.max-lo.result c.min-hi.result c.range-from.ensures.lo c.range-from.ensures.hi c.max-lo.ensures c.min-hi.ensures in
    let first = c.numbers_within-first.result in
    on_ok c.put_covered.result _ _ (λ gains. cover_gains h c.requires.scope.well_formed _ _ _ _ _ is.at c.args.scope.now.part c.max-lo.result c.min-hi.result is.low is.high c.args.scope.now.first c.args.scope.now.end c.requires.scope.each first.0 first.1 c.numbers_within-first.ensures c.args.seen.now c.put_covered.new.seen
    (gains_near h (IsSightWithin h c.args.known.now.reader.place first.0 first.1) c.args.seen.now c.put_covered.new.seen (first.0, first.1) gains))
    c.put_covered.ensures
