-- The table of keys lists them.
use Rattle.std.proofs.Common.{subst}
use Rattle.sia_index.specs.Tables.{AreTables}
use Rattle.sia_index.proofs.index.Index.keys_law.Goals as goal

pub returns : goal.returns
returns c =
    let are = subst (λ h. AreTables h c.self.inside.txns c.self.inside.keys c.self.inside.versions c.self.inside.writes) c.self.view_is c.self.invariant in
    (c.self.inside.keys.keys.items, are.keys_are.listed_are)
