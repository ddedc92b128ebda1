-- They stand up to where the positions of the key end.
use Rattle.std.proofs.Common.{length, ap, subst, refl, arith}
use Rattle.sia_index.specs.Tables.{AreTables}
use Rattle.sia_index.proofs.Answering.PositionLaws.{behind_long, behind_within, makers_behind}
use Rattle.sia_index.proofs.index.Index.makers_behind.Goals as goal

pub group-end-requires : goal.group-end-requires
group-end-requires c = let at = c.key_at.ensures c.requires.0 c.requires.1 in (at.0, at.1, at.2)

pub slice_bounds-result-start : goal.slice_bounds-result-start
slice_bounds-result-start c =
    let are = subst (λ h. AreTables h c.self.inside.txns c.self.inside.keys c.self.inside.versions c.self.inside.writes) c.self.view_is c.self.invariant in
    let (after, before_to, bound, fits) = behind_within c.args.self.now _ _ _ _ are _ c.group-end.result.0 c.group-end.result.1 (c.group-end.ensures _ _ (c.key_at.ensures c.requires.0 c.requires.1) are.versions_are.rows_are.listed) c.args.position c.requires.0 c.requires.1 refl in
    omega arith

pub slice_bounds-result-count : goal.slice_bounds-result-count
slice_bounds-result-count c =
    let are = subst (λ h. AreTables h c.self.inside.txns c.self.inside.keys c.self.inside.versions c.self.inside.writes) c.self.view_is c.self.invariant in
    let (after, before_to, bound, fits) = behind_within c.args.self.now _ _ _ _ are _ c.group-end.result.0 c.group-end.result.1 (c.group-end.ensures _ _ (c.key_at.ensures c.requires.0 c.requires.1) are.versions_are.rows_are.listed) c.args.position c.requires.0 c.requires.1 refl in
    omega arith

pub slice_bounds-result-end : goal.slice_bounds-result-end
slice_bounds-result-end c =
    let are = subst (λ h. AreTables h c.self.inside.txns c.self.inside.keys c.self.inside.versions c.self.inside.writes) c.self.view_is c.self.invariant in
    let (after, before_to, bound, fits) = behind_within c.args.self.now _ _ _ _ are _ c.group-end.result.0 c.group-end.result.1 (c.group-end.ensures _ _ (c.key_at.ensures c.requires.0 c.requires.1) are.versions_are.rows_are.listed) c.args.position c.requires.0 c.requires.1 refl in
    let same = ap length c.deref.ensures.value in
    omega arith

pub returns-clause-few : goal.returns-clause-few
returns-clause-few c =
    let are = subst (λ h. AreTables h c.self.inside.txns c.self.inside.keys c.self.inside.versions c.self.inside.writes) c.self.view_is c.self.invariant in
    let (after, before_to, bound, fits) = behind_within c.args.self.now _ _ _ _ are _ c.group-end.result.0 c.group-end.result.1 (c.group-end.ensures _ _ (c.key_at.ensures c.requires.0 c.requires.1) are.versions_are.rows_are.listed) c.args.position c.requires.0 c.requires.1 refl in
    rw c.deref.ensures.value (let long = behind_long c.args.self.now _ _ _ _ are _ _ _ (c.group-end.ensures _ _ (c.key_at.ensures c.requires.0 c.requires.1) are.versions_are.rows_are.listed) c.args.position bound in omega arith)

pub returns-clause-makers : goal.returns-clause-makers
returns-clause-makers c v at =
    let are = subst (λ h. AreTables h c.self.inside.txns c.self.inside.keys c.self.inside.versions c.self.inside.writes) c.self.view_is c.self.invariant in
    rw c.deref.ensures.value (makers_behind c.args.self.now _ _ _ _ are v.key c.group-end.result.0 c.group-end.result.1 (c.group-end.ensures v.key _ (c.key_at.ensures v at) are.versions_are.rows_are.listed) c.args.position v at refl)
