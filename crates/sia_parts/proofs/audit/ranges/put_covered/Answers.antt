-- Each listed key that is written adds what was seen of it, and of those before it.
use Rattle.std.proofs.Common.{◌≡◌, ◌+◌, false, get_or, refl, sym, subst, arith}
use Rattle.sia_parts.specs.declared.audit.sights.Seen.{Seen}
use Rattle.sia_parts.specs.declared.audit.sights.View.{View}
use Rattle.sia_parts.specs.Seeing.{Gains, IsSightWithin, IsView}
use Rattle.sia_parts.proofs.Auditing.Covered.{HasCovered, covered_all, covered_more, covered_none, covered_unwritten, inside_cover, next_number, not_behind, not_between, not_own_within}
use Rattle.sia_parts.proofs.Shared.FewNumbers.{few_keys}
use Rattle.sia_parts.proofs.Auditing.Gaining.{gains_none, gains_then}
use Rattle.sia_parts.proofs.Auditing.Viewing.{gains_newest, on_ok}
use Rattle.sia_parts.proofs.audit.ranges.put_covered.Goals as goal
use Rattle.sia_parts.proofs.audit.ranges.put_covered.Goals.{in-Some-position+then-not-own+then-at-next+then-is_newest+in_ok-put_position, in_default+in_ok-next}

pub loop-pair-init : goal.loop-pair-init
loop-pair-init c = record {
  covered = covered_none c.args.scope.now.ix.now c.args.known.now c.args.cover.now c.requires.cover;
  gains = gains_none c.args.scope.now.ix.now (IsSightWithin c.args.scope.now.ix.now c.args.known.now.reader.place c.args.cover.now.first c.args.cover.now.first) (λ s is. (let low = is.4 in let less = is.5 in omega arith)) c.args.seen.now;
}

pub overflow_add-next : goal.overflow_add-next
overflow_add-next c = let few = few_keys c.args.scope.now.ix.now c.requires.scope.well_formed c.in-Some.at.key _ c.in-Some.ensures.key in let same = c.if-at-next.true in omega arith

pub put_listed-requires-clause-listed : goal.put_listed-requires-clause-listed
put_listed-requires-clause-listed c =
    let h = c.args.scope.now.ix.now in
    let known = c.args.known.now in
    let cover = c.args.cover.now in
    let is = c.requires.cover in
    let n = c.loop-pair.pair-index in
    let so = c.loop-pair.invariant.covered in
    let below = c.loop-pair-test.true in
    let inside = is.inside n 0 below in
    record {
      pair = is.numbers n 0 below;
      saw = is.listed n 0 below;
      not_own = λ none. is.own none _ inside.0 inside.1;
      gap = λ i at. (
        next_number h known cover is n c.loop-pair.next so 0 below i at,
        record {
          unlisted = not_between h known cover is n c.loop-pair.next so 0 below i at;
          not_own = λ none j k low less key. (let w = inside_cover h known cover is n c.loop-pair.next so 0 below i at in not_own_within h known cover is none j k (let first = so.low in omega arith) (let last = w.1 in omega arith) key);
        },
      );
    }

pub loop-pair-preserved-in_default : goal.loop-pair-preserved-in_default
loop-pair-preserved-in_default c = record {
  covered = covered_unwritten c.args.scope.now.ix.now c.args.known.now c.args.cover.now c.requires.cover c.loop-pair.pair-index c.loop-pair.next c.loop-pair.invariant.covered 0 c.loop-pair-test.true c.in_default.ensures;
  gains = c.loop-pair.invariant.gains;
}

pub loop-pair-preserved : goal.loop-pair-preserved
loop-pair-preserved c =
    let h = c.args.scope.now.ix.now in
    let wf = c.requires.scope.well_formed in
    let known = c.args.known.now in
    let cover = c.args.cover.now in
    let is = c.requires.cover in
    let n = c.loop-pair.pair-index in
    let p = get_or cover.pairs.now n 0 in
    let so = c.loop-pair.invariant.covered in
    let below = c.loop-pair-test.true in
    let low = so.low in
    let place = known.reader.place in
    let old = c.args.seen.now in
    let mid = c.loop-pair.seen in
    let i = c.in-Some.at.key in
    let at = c.in-Some.ensures.key in
    let more = next_number h known cover is n c.loop-pair.next so 0 below i at in
    elim c.match-at.branch [
      | in-Some-position+then-not-own+then-at-next+then-is_newest+in_ok-put_position w ↦
          let same : i ≡ c.loop-pair.next = w.if-at-next.true in
          let inside = is.inside n 0 below in
          let view : View = record { pair = p; at = c.in-Some.at; mine = false } in
          let seen : IsView h known view = record {
            pair = is.numbers n 0 below;
            saw = is.listed n 0 below;
            at = c.in-Some.ensures;
            mine = ((λ e. absurd cc), (λ before. absurd (is.own w.if-not-own.true _ inside.0 inside.1 before)));
          } in
          let covered = subst (λ j. HasCovered h cover (n + 1) (j + 1)) same (covered_more h known cover is n c.loop-pair.next so 0 below i at) in
          let new : Seen = record { wrong = mid.wrong; saw = w.put_position.new.saw; missed = mid.missed; near = mid.near } in
          let gains = gains_newest h wf known c.requires.known view seen w.in-Some-position.position w.in-Some-position.is refl (λ v there. (w.is_newest.ensures v there).0 w.if-is_newest.true) mid w.put_position.new.saw w.in_ok-put_position.ensures in
          let here = subst (λ j. Gains h (IsSightWithin h place j (j + 1)) mid new) same gains in
          rw (w.next-is, w.seen-is) (record { covered = covered; gains = gains_then h place cover.first c.loop-pair.next (c.loop-pair.next + 1) low (omega arith) old mid new c.loop-pair.invariant.gains here })
      | in_default+in_ok-next w ↦
          let told = w.in_ok-next.ensures i at in
          let covered = covered_more h known cover is n c.loop-pair.next so 0 below i at in
          let behind = told.0 in
          rw (w.next-is, w.seen-is) (record { covered = subst (λ j. HasCovered h cover (n + 1) j) (sym behind) covered; gains = gains_then h place cover.first c.loop-pair.next _ low (omega arith) old mid w.put_listed.new.seen c.loop-pair.invariant.gains told.1 })
    ]

pub put_gap-requires-clause-gap : goal.put_gap-requires-clause-gap
put_gap-requires-clause-gap c = record {
  unlisted = not_behind c.args.scope.now.ix.now c.args.known.now c.args.cover.now c.requires.cover c.loop-pair.pair-index c.loop-pair.next c.loop-pair.invariant.covered c.loop-pair-test.false;
  not_own = λ none i k low less key. not_own_within c.args.scope.now.ix.now c.args.known.now c.args.cover.now c.requires.cover none i k (let first = c.loop-pair.invariant.covered.low in omega arith) less key;
}

pub returns : goal.returns
returns c = on_ok c.put_gap.result _ _
    (covered_all c.args.scope.now.ix.now c.args.known.now c.args.cover.now c.requires.cover c.loop-pair.pair-index c.loop-pair.next c.loop-pair.invariant.covered c.args.seen.now c.loop-pair.seen c.put_gap.new.seen c.loop-pair.invariant.gains)
    c.put_gap.ensures
