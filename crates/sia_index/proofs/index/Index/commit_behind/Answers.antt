-- The row behind the position has the commit, if there is one.
use Rattle.std.proofs.Common.{◌+◌, ◌<◌, length, ap, sym, subst, refl, ◌∙◌, arith}
use Rattle.std.specs.Prelude.{slice_index_or}
use Rattle.std.proofs.lemmas.Bool.{ltb-false, ltb-true}
use Rattle.std.proofs.lemmas.List.{get_or_default}
use Rattle.sia_index.specs.Tables.{AreTables}
use Rattle.sia_index.specs.declared.info.Made.{Made}
use Rattle.sia_index.proofs.Answering.PositionLaws.{commit_behind_is, no_made}
use Rattle.sia_index.proofs.index.Index.commit_behind.Goals as goal

pub returns-in-Some : goal.returns-in-Some
returns-in-Some c v at =
    let are = subst (λ h. AreTables h c.self.inside.txns c.self.inside.keys c.self.inside.versions c.self.inside.writes) c.self.view_is c.self.invariant in
    let made = c.self.inside.versions.made.items in
    let q = c.args.position + 1 in
    let inside : q < length made = subst (λ ms. q < length ms) c.deref.ensures.value (ltb-true q (length c.deref.result.now) (sym c.in-Some.ensures.lookup.0)) in
    commit_behind_is c.args.self.now _ _ _ _ are c.args.position v at c.in-Some.next.now.commit
    (λ l. ap (λ (m : Made). m.commit) (c.in-Some.ensures.lookup.1 ∙ ap (λ ms. slice_index_or ms q c.in-Some.next.now) c.deref.ensures.value ∙ get_or_default made q c.in-Some.next.now no_made inside))
    (λ past. absurd (omega arith))

pub returns-in-None : goal.returns-in-None
returns-in-None c v at =
    let are = subst (λ h. AreTables h c.self.inside.txns c.self.inside.keys c.self.inside.versions c.self.inside.writes) c.self.view_is c.self.invariant in
    let same = ap length c.deref.ensures.value in
    let past = ltb-false (c.args.position + 1) (length c.deref.result.now) (sym c.in-None.ensures.lookup.0) in
    commit_behind_is c.args.self.now _ _ _ _ are c.args.position v at 0 (λ inside. absurd (omega arith)) (λ past. refl)
