-- The table has them.
use Rattle.std.proofs.Common.{subst}
use Rattle.sia_index.specs.Tables.{AreTables}
use Rattle.sia_index.proofs.Answering.PositionLaws.{made_by_is}
use Rattle.sia_index.proofs.index.Index.made_by.Goals as goal

pub at-requires : goal.at-requires
at-requires c =
    let are = subst (λ h. AreTables h c.self.inside.txns c.self.inside.keys c.self.inside.versions c.self.inside.writes) c.self.view_is c.self.invariant in
    (made_by_is c.args.self.now _ _ _ _ are c.args.t c.requires.0 c.requires.1).0

pub returns : goal.returns
returns c u is =
    let are = subst (λ h. AreTables h c.self.inside.txns c.self.inside.keys c.self.inside.versions c.self.inside.writes) c.self.view_is c.self.invariant in
    rw c.at.ensures (made_by_is c.args.self.now _ _ _ _ are c.args.t u is).1
