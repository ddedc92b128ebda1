-- The table has the number of its key.
use Rattle.std.proofs.Common.{subst, arith}
use Rattle.sia_index.specs.Tables.{AreTables}
use Rattle.sia_index.proofs.Answering.PositionLaws.{key_is, place_is}
use Rattle.sia_index.proofs.index.Index.key_at.Goals as goal

pub index-requires : goal.index-requires
index-requires c =
    let are = subst (λ h. AreTables h c.self.inside.txns c.self.inside.keys c.self.inside.versions c.self.inside.writes) c.self.view_is c.self.invariant in
    omega (arith, (place_is c.args.self.now _ _ _ _ are c.args.position c.requires).1, c.self.inside.versions.keys.ok)

pub returns : goal.returns
returns c v at =
    let are = subst (λ h. AreTables h c.self.inside.txns c.self.inside.keys c.self.inside.versions c.self.inside.writes) c.self.view_is c.self.invariant in
    key_is c.args.self.now _ _ _ _ are c.args.position v at c.index.result.now c.index.ensures
