-- What was found among the names of the log's transactions.
use Rattle.std.proofs.Common.{subst}
use Rattle.sia_events.specs.Finding.{Finds}
use Rattle.sia_index.proofs.Shared.NumberedNames.{txn_found}
use Rattle.sia_index.specs.Tables.{AreTables}
use Rattle.sia_index.proofs.index.Index.txn_number.Goals as goal

pub returns : goal.returns
returns c =
    let are = subst (λ h. AreTables h c.self.inside.txns c.self.inside.keys c.self.inside.versions c.self.inside.writes) c.self.view_is c.self.invariant in
    let found = rw (c.deref.ensures.value, c.from.ensures, are.txns_are.known.names) at c.find.ensures in
    txn_found c.args.self.now c.args.t c.find.result found.some (found.none (subst (Finds c.self.inside.txns.finder) are.txns_are.known.names are.txns_are.found))
