-- The row of the position has its commit.
use Rattle.std.proofs.Common.{subst, arith}
use Rattle.sia_index.specs.Tables.{AreTables}
use Rattle.sia_index.proofs.Answering.PositionLaws.{made_is, place_is}
use Rattle.sia_index.proofs.index.Index.commit_at.Goals as goal

pub index-requires : goal.index-requires
index-requires c =
    let are = subst (λ h. AreTables h c.self.inside.txns c.self.inside.keys c.self.inside.versions c.self.inside.writes) c.self.view_is c.self.invariant in
    omega (arith, (place_is c.args.self.now _ _ _ _ are c.args.position c.requires).0, c.self.inside.versions.made.ok)

pub returns : goal.returns
returns c v at =
    let are = subst (λ h. AreTables h c.self.inside.txns c.self.inside.keys c.self.inside.versions c.self.inside.writes) c.self.view_is c.self.invariant in
    made_is c.args.self.now _ _ _ _ are c.args.position v at c.index.result.now c.index.ensures
