use Rattle.std.proofs.Common.{◌≡◌, ◌<◌, true, false, get_or, length, ltb, subst, sym, ◌∙◌, arith, ltb-true}
use Rattle.std.specs.List.Sorted.{IsPartitionPoint}
use Rattle.std.proofs.lemmas.List.{get_or_default}
use Rattle.std.proofs.lemmas.List.Elements.{Contains-get_or}
use Rattle.sia_index.specs.Positions.{HasPosition, IsAtPosition}
use Rattle.sia_parts.proofs.CutKeys.StartLemmas.{increasing}
use Rattle.sia_graph.proofs.Shared.AscendingIds.{ids_rise}
use Rattle.sia_graph.proofs.Cycles.MetEdges.{first_is, none_before}
use Rattle.sia_graph.proofs.cycle.least_made.Goals.{After-place_from, In-Some}
use Rattle.sia_graph.proofs.cycle.least_made.Goals as goal

pub place_from-requires : goal.place_from-requires
place_from-requires c = ids_rise c.args.made.now (increasing c.args.made.now c.requires.1.ascending)

point : (c : After-place_from) → IsPartitionPoint (λ y. ltb y c.args.from ≡ true) (λ y. ltb y c.args.from ≡ false) c.args.made.now c.place_from.result
point c = subst (λ n. IsPartitionPoint (λ y. ltb y n ≡ true) (λ y. ltb y n ≡ false) c.args.made.now c.place_from.result) c.from.ensures c.place_from.ensures.point

below : (c : In-Some) → c.place_from.result < length c.args.made.now
below c = ltb-true c.place_from.result (length c.args.made.now) (sym c.in-Some.ensures.lookup.0)

is : (c : In-Some) → c.in-Some.position.now ≡ get_or c.args.made.now c.place_from.result 0
is c = c.in-Some.ensures.lookup.1 ∙ get_or_default c.args.made.now c.place_from.result c.in-Some.position.now 0 (below c)

pub key_at-requires : goal.key_at-requires
key_at-requires c =
    let at = (goal.at.key_at-requires c).In-Some in
    let made = c.args.made.now in
    let place = c.place_from.result in
    let v = (c.requires.1.each (get_or made place 0)).0 (Contains-get_or made place 0 (below at)) in
    subst (HasPosition c.args.index.now) (sym (is at)) (v.0, v.1)

pub returns-in-Some : goal.returns-in-Some
returns-in-Some c =
    let at = (goal.at.returns-in-Some c).In-Some in
    let made = c.args.made.now in
    let place = c.place_from.result in
    let v = (c.requires.1.each (get_or made place 0)).0 (Contains-get_or made place 0 (below at)) in
    first_is c.args.index.now made c.requires c.args.from place (point (goal.at.returns-in-Some c).After-place_from) c.args.to c.key_at.result (below at)
    (let e = is at in let f = c.if-position-to.true in omega arith) (v.0, v.1, c.key_at.ensures v.0 (subst (λ q. IsAtPosition c.args.index.now q v.0) (sym (is at)) v.1))

pub returns-in_default : goal.returns-in_default
returns-in_default c =
    let at = (goal.at.returns-in_default c).In-Some in
    let made = c.args.made.now in
    let place = c.place_from.result in
    none_before c.args.index.now made c.requires c.args.from place (point (goal.at.returns-in_default c).After-place_from) c.args.to (below at) (omega (arith, is at))
