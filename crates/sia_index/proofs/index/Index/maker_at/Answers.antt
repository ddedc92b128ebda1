-- Who made the version, unless it is 0.
use Rattle.std.proofs.Common.{◌≡◌, length, subst, arith}
use Rattle.sia_index.specs.Tables.{AreTables}
use Rattle.sia_index.proofs.Answering.PositionLaws.{maker_is, place_is}
use Rattle.sia_index.proofs.index.Index.maker_at.Goals as goal

pub index-maker-requires : goal.index-maker-requires
index-maker-requires c =
    let are = subst (λ h. AreTables h c.self.inside.txns c.self.inside.keys c.self.inside.versions c.self.inside.writes) c.self.view_is c.self.invariant in
    omega (arith, (place_is c.args.self.now _ _ _ _ are c.args.position c.requires).2, c.self.inside.versions.makers.ok)

pub returns : goal.returns
returns c v at =
    let are = subst (λ h. AreTables h c.self.inside.txns c.self.inside.keys c.self.inside.versions c.self.inside.writes) c.self.view_is c.self.invariant in
    let long : c.len.result ≡ length c.self.inside.txns.committed.items = omega (arith, c.len.ensures, c.self.inside.txns.committed.ok) in
    maker_is c.args.self.now _ _ _ _ are c.args.position v at c.index-maker.result.now c.index-maker.ensures c.then_some.result (rw long at c.then_some.ensures)
