use Rattle.std.proofs.Common.{◌<◌, List, length, subst, sym}
use Rattle.sia_events.specs.declared.event.Event.{Event}
use Rattle.sia_events.specs.Numbering.{txns_of}
use Rattle.sia_events.specs.Transactions.{StartsAt}
use Rattle.sia_events.proofs.Shared.LogReads.{row_starts, txn_room}
use Rattle.sia_events.proofs.log.Log.txn.Goals as goal

pub returns-clause-starts : goal.returns-clause-starts
returns-clause-starts c =
    let room = txn_room c.self.inside.tables c.args.number c.self.invariant.0 (subst (λ (h : List Event). c.args.number < length (txns_of h)) (sym c.self.view_is) c.requires) in
    subst (λ (h : List Event). StartsAt h c.index.result.now.name c.index.result.now.start) c.self.view_is (row_starts c.self.inside.tables c.args.number c.index.result.now c.self.invariant.0 room c.index.ensures)
