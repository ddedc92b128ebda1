-- What stands behind version 0 of the key.
use Rattle.std.proofs.Common.{length, ap, subst, refl, arith}
use Rattle.sia_index.specs.Tables.{AreTables}
use Rattle.sia_index.proofs.Answering.PositionLaws.{chain_versions, within_made}
use Rattle.sia_index.proofs.index.Index.versions_at.Goals as goal

pub overflow_add-result : goal.overflow_add-result
overflow_add-result c =
    let are = subst (λ h. AreTables h c.self.inside.txns c.self.inside.keys c.self.inside.versions c.self.inside.writes) c.self.view_is c.self.invariant in
    let (some, bound) = within_made c.args.self.now _ _ _ _ are _ c.group-from.result.0 c.group-from.result.1 (c.group-from.ensures _ _ (c.requires.0, c.requires.1, c.requires.2, refl) are.versions_are.rows_are.listed) in
    let fits = c.self.inside.versions.made.small in
    omega (arith, c.self.inside.versions.made.ok)

pub offset_bounds-deref-from : goal.offset_bounds-deref-from
offset_bounds-deref-from c =
    let are = subst (λ h. AreTables h c.self.inside.txns c.self.inside.keys c.self.inside.versions c.self.inside.writes) c.self.view_is c.self.invariant in
    let (some, bound) = within_made c.args.self.now _ _ _ _ are _ c.group-from.result.0 c.group-from.result.1 (c.group-from.ensures _ _ (c.requires.0, c.requires.1, c.requires.2, refl) are.versions_are.rows_are.listed) in
    let same = ap length c.deref.ensures.value in
    let fits = c.deref.type_inv.1 in
    omega arith

pub slice_bounds-result-start : goal.slice_bounds-result-start
slice_bounds-result-start c =
    let are = subst (λ h. AreTables h c.self.inside.txns c.self.inside.keys c.self.inside.versions c.self.inside.writes) c.self.view_is c.self.invariant in
    let (some, bound) = within_made c.args.self.now _ _ _ _ are _ c.group-from.result.0 c.group-from.result.1 (c.group-from.ensures _ _ (c.requires.0, c.requires.1, c.requires.2, refl) are.versions_are.rows_are.listed) in
    omega arith

pub slice_bounds-result-count : goal.slice_bounds-result-count
slice_bounds-result-count c =
    let are = subst (λ h. AreTables h c.self.inside.txns c.self.inside.keys c.self.inside.versions c.self.inside.writes) c.self.view_is c.self.invariant in
    let (some, bound) = within_made c.args.self.now _ _ _ _ are _ c.group-from.result.0 c.group-from.result.1 (c.group-from.ensures _ _ (c.requires.0, c.requires.1, c.requires.2, refl) are.versions_are.rows_are.listed) in
    omega arith

pub slice_bounds-result-end : goal.slice_bounds-result-end
slice_bounds-result-end c =
    let are = subst (λ h. AreTables h c.self.inside.txns c.self.inside.keys c.self.inside.versions c.self.inside.writes) c.self.view_is c.self.invariant in
    let (some, bound) = within_made c.args.self.now _ _ _ _ are _ c.group-from.result.0 c.group-from.result.1 (c.group-from.ensures _ _ (c.requires.0, c.requires.1, c.requires.2, refl) are.versions_are.rows_are.listed) in
    let same = ap length c.deref.ensures.value in
    omega arith

pub returns : goal.returns
returns c k at =
    let are = subst (λ h. AreTables h c.self.inside.txns c.self.inside.keys c.self.inside.versions c.self.inside.writes) c.self.view_is c.self.invariant in
    rw c.deref.ensures.value (chain_versions c.args.self.now _ _ _ _ are k c.group-from.result.0 c.group-from.result.1 (c.group-from.ensures k _ at are.versions_are.rows_are.listed))
