-- One more list holds the place, up to the first part that begins above the last key.
use Rattle.std.proofs.Common.{◌≡◌, ◌<◌, ◌≤◌, inl, inr, slice_index_or, ap, sym, subst, ◌∙◌, arith}
use Rattle.std.proofs.lemmas.Bool.{cases_lt, leb-true}
use Rattle.std.proofs.lemmas.Option.{same_Some}
use Rattle.std.proofs.lemmas.List.{get_or_default}
use Rattle.sia_events.specs.Events.{Saw}
use Rattle.sia_events.specs.Numbering.{names_of, event_of}
use Rattle.sia_parts.specs.declared.cutting.Part.{Part}
use Rattle.sia_parts.proofs.ReadLists.DealtPlaces.{place_more}
use Rattle.sia_parts.proofs.reads.put_read.Goals as goal

pub loop-i-preserved : goal.loop-i-preserved
loop-i-preserved c = place_more c.args.place c.saturating_sub-from.result c.loop-i.i c.args.dealt.now.items c.loop-i.dealt.items c.push.new.self c.index_mut.result.now (let turn = c.loop-i-test.true in let long = c.loop-i.invariant.long in let bound = c.requires.long in omega arith) c.index_mut.ensures.value c.in_ok-push.ensures.items c.loop-i.auto.i c.loop-i.invariant

pub returns-then-hi-parts : goal.returns-then-hi-parts
returns-then-hi-parts c = record {
  long = c.loop-i.invariant.long;
  keeps = c.loop-i.invariant.keeps;
  adds = λ j t k v d part saw below inside.
      let parts = c.args.parts.now in
      let from = c.saturating_sub-from.result in
      let i = c.loop-i.i in
      let event : saw.0 ≡ event_of (names_of c.args.log.now) c.in-Some.row = same_Some _ _ (sym saw.1 ∙ sym c.in-Some.ensures.event) in
      let ends = c.in-Some-covered.ensures k v (subst (λ e. Saw e k v) event saw.3) in
      let after : from ≤ j = elim (cases_lt j from) [
        | inl before ↦
            let apart = c.requires.apart j from part before (let turn = c.loop-i-test.true in let first = c.loop-i.auto.i in omega arith) in
            let first = leb-true (slice_index_or parts from part).lo c.in-Some-covered.lo (c.place_above.ensures.point.0 from part (omega arith) (let less = c.saturating_sub-from.ensures in omega arith)) in
            omega (arith, ends, inside)
        | inr later ↦ later
      ] in
      let less : j < i = elim (cases_lt j i) [
        | inl before ↦ before
        | inr later ↦
            let none : Part = record { lo = 0; hi = 0 } in
            let rise = c.requires.first i j none later below in
            let same = ap (λ (one : Part). one.lo) (get_or_default parts j none part below) in
            let above = c.if-hi-parts.true in
            absurd (omega (arith, ends, inside))
      ] in
      c.loop-i.invariant.adds j d after less;
}
