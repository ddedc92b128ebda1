-- The table has both.
use Rattle.std.proofs.Common.{◌≡◌, ◌-◌, length, ap, arith, subst}
use Rattle.std.specs.Prelude.{slice_index_or}
use Rattle.sia_index.specs.Tables.{AreTables}
use Rattle.sia_index.specs.declared.writes.Written.{Written}
use Rattle.sia_index.proofs.Answering.PositionLaws.{write_is}
use Rattle.sia_index.proofs.index.Index.write_at.Goals as goal

pub returns-clause-position : goal.returns-clause-position
returns-clause-position c =
    let are = subst (λ h. AreTables h c.self.inside.txns c.self.inside.keys c.self.inside.versions c.self.inside.writes) c.self.view_is c.self.invariant in
    let w = c.args.write - 1 in
    let row = c.index.result.now in
    let is : row.position ≡ (slice_index_or c.self.inside.versions.writes.items w row).position = ap (λ (x : Written). x.position) c.index.ensures in
    let long : c.len.result ≡ length c.self.inside.versions.made.items = omega (arith, c.len.ensures, c.self.inside.versions.made.ok) in
    write_is c.args.self.now _ _ _ _ are w row (omega (arith, c.requires.above, c.requires.bound)) c.then_some-position.result (rw (is, long) at c.then_some-position.ensures)
