-- There is a row for each position.
use Rattle.std.proofs.Common.{subst, arith}
use Rattle.sia_index.specs.Tables.{AreTables}
use Rattle.sia_index.specs.Positions.{ArePositions}
use Rattle.sia_index.proofs.Answering.PositionLaws.{positions_count}
use Rattle.sia_index.proofs.index.Index.position_count.Goals as goal

pub overflow_cast-result : goal.overflow_cast-result
overflow_cast-result c =
    let are = subst (λ h. AreTables h c.self.inside.txns c.self.inside.keys c.self.inside.versions c.self.inside.writes) c.self.view_is c.self.invariant in
    omega (arith, c.len.ensures, c.self.inside.versions.made.ok, are.versions_are.made_are.0, are.versions_are.rows_are.few)

pub returns : goal.returns
returns c =
    let are = subst (λ h. AreTables h c.self.inside.txns c.self.inside.keys c.self.inside.versions c.self.inside.writes) c.self.view_is c.self.invariant in
    subst (ArePositions c.args.self.now) (omega (arith, c.len.ensures, c.self.inside.versions.made.ok, are.versions_are.made_are.0)) (positions_count c.args.self.now _ _ _ _ are)
