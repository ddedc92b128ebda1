-- What was found among the written keys.
use Rattle.std.proofs.Common.{ℕ, subst}
use Rattle.sia_index.proofs.Shared.Ordered.{ascends}
use Rattle.sia_index.proofs.Shared.KeyChains.{no_versions}
use Rattle.sia_index.specs.Tables.{AreTables}
use Rattle.sia_index.proofs.index.Index.versions.Goals as goal

pub find-requires : goal.find-requires
find-requires c =
    let are = subst (λ h. AreTables h c.self.inside.txns c.self.inside.keys c.self.inside.versions c.self.inside.writes) c.self.view_is c.self.invariant in
    rw c.deref.ensures.value (ascends (λ (x : ℕ). x) _ _ are.keys_are.listed_are)

pub versions_at-requires : goal.versions_at-requires
versions_at-requires c =
    let are = subst (λ h. AreTables h c.self.inside.txns c.self.inside.keys c.self.inside.versions c.self.inside.writes) c.self.view_is c.self.invariant in
    let at = rw c.deref.ensures.value at c.in-Some.ensures in
    (c.self.inside.keys.keys.items, are.keys_are.listed_are, at.0)

pub returns-in-Some : goal.returns-in-Some
returns-in-Some c =
    let are = subst (λ h. AreTables h c.self.inside.txns c.self.inside.keys c.self.inside.versions c.self.inside.writes) c.self.view_is c.self.invariant in
    let at = rw c.deref.ensures.value at c.in-Some.ensures in
    c.versions_at.ensures c.args.k (c.self.inside.keys.keys.items, are.keys_are.listed_are, at.0, at.1 0)

pub returns-in-None : goal.returns-in-None
returns-in-None c =
    let are = subst (λ h. AreTables h c.self.inside.txns c.self.inside.keys c.self.inside.versions c.self.inside.writes) c.self.view_is c.self.invariant in
    no_versions c.args.self.now c.self.inside.keys.keys.items are.keys_are.listed_are c.args.k (rw c.deref.ensures.value at c.in-None.ensures)
