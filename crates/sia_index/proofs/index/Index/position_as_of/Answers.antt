-- What a search of the key's versions finds.
use Rattle.std.proofs.Common.{◌+◌, refl, sym, subst, arith}
use Rattle.std.specs.Prelude.{slice_index}
use Rattle.sia_index.specs.Info.{IsKeyAt}
use Rattle.sia_index.specs.Tables.{AreTables}
use Rattle.sia_index.specs.declared.info.Made.{Made}
use Rattle.sia_index.proofs.Shared.Ordered.{ascends, rises}
use Rattle.sia_index.proofs.Answering.PositionLaws.{at, found_at, there}
use Rattle.sia_index.proofs.index.Index.position_as_of.Goals as goal

pub place_above-requires : goal.place_above-requires
place_above-requires c = rises (λ (m : Made). m.commit) _ (ascends (λ (m : Made). m.commit) _ _ (c.versions_at-versions.ensures _ (c.requires.0, c.requires.1, c.requires.2, refl)))

pub overflow_add-result : goal.overflow_add-result
overflow_add-result c =
    let are = subst (λ h. AreTables h c.self.inside.txns c.self.inside.keys c.self.inside.versions c.self.inside.writes) c.self.view_is c.self.invariant in
    let is : IsKeyAt c.args.self.now c.args.i (slice_index c.requires.0 c.args.i) = (c.requires.0, c.requires.1, c.requires.2, refl) in
    let found = found_at c.args.self.now _ _ _ _ are _ c.group-from.result.0 c.group-from.result.1 (c.group-from.ensures _ _ is are.versions_are.rows_are.listed) c.versions_at-versions.result.now (c.versions_at-versions.ensures _ is) c.args.place c.place_above.result c.place_above.ensures.bound (rw c.from.ensures at c.place_above.ensures.point) in
    let below = found.0 in
    let few = are.versions_are.rows_are.few in
    omega arith

pub overflow_cast-result : goal.overflow_cast-result
overflow_cast-result c =
    let are = subst (λ h. AreTables h c.self.inside.txns c.self.inside.keys c.self.inside.versions c.self.inside.writes) c.self.view_is c.self.invariant in
    let is : IsKeyAt c.args.self.now c.args.i (slice_index c.requires.0 c.args.i) = (c.requires.0, c.requires.1, c.requires.2, refl) in
    let found = found_at c.args.self.now _ _ _ _ are _ c.group-from.result.0 c.group-from.result.1 (c.group-from.ensures _ _ is are.versions_are.rows_are.listed) c.versions_at-versions.result.now (c.versions_at-versions.ensures _ is) c.args.place c.place_above.result c.place_above.ensures.bound (rw c.from.ensures at c.place_above.ensures.point) in
    let below = found.0 in
    let few = are.versions_are.rows_are.few in
    omega arith

pub returns : goal.returns
returns c =
    let are = subst (λ h. AreTables h c.self.inside.txns c.self.inside.keys c.self.inside.versions c.self.inside.writes) c.self.view_is c.self.invariant in
    let is : IsKeyAt c.args.self.now c.args.i (slice_index c.requires.0 c.args.i) = (c.requires.0, c.requires.1, c.requires.2, refl) in
    let found = found_at c.args.self.now _ _ _ _ are _ c.group-from.result.0 c.group-from.result.1 (c.group-from.ensures _ _ is are.versions_are.rows_are.listed) c.versions_at-versions.result.now (c.versions_at-versions.ensures _ is) c.args.place c.place_above.result c.place_above.ensures.bound (rw c.from.ensures at c.place_above.ensures.point) in
    let q = c.group-from.result.0 + c.place_above.result in
    (at c.args.self.now _ _ _ _ are q, there c.args.self.now _ _ _ _ are q found.0, (c.requires.0, c.requires.1, c.requires.2, sym found.2), found.1)
