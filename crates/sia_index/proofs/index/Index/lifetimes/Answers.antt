-- The table has them in the order of the transactions.
use Rattle.std.proofs.Common.{subst}
use Rattle.sia_events.proofs.Worked.OneList.{one_list_by}
use Rattle.sia_index.specs.Lifetimes.{AreLifetimes}
use Rattle.sia_index.specs.Tables.{AreTables}
use Rattle.sia_index.proofs.index.Index.lifetimes.Goals as goal

pub returns : goal.returns
returns c txns list =
    let are = subst (λ h. AreTables h c.self.inside.txns c.self.inside.keys c.self.inside.versions c.self.inside.writes) c.self.view_is c.self.invariant in
    rw c.deref.ensures.value (subst (λ ts. AreLifetimes c.args.self.now ts c.self.inside.txns.lifetimes.items) (one_list_by _ _ c.self.inside.txns.committed.items txns are.txns_are.committed.listed_are list) are.txns_are.lifetimes)
