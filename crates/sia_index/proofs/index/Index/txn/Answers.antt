-- What the row of its number says.
use Rattle.std.proofs.Common.{arith, subst}
use Rattle.sia_events.specs.Numbering.{Ends}
use Rattle.sia_events.specs.Transactions.{StartsAt}
use Rattle.sia_index.proofs.Answering.OwnRows.{own_row}
use Rattle.sia_index.proofs.index.Index.txn.Goals.{After-index-known}
use Rattle.sia_index.proofs.index.Index.txn.Goals as goal

pub index-known-requires : goal.index-known-requires
index-known-requires c = omega (arith, (own_row _ _ c.self.view_is _ _ _ _ c.self.invariant _ _ c.in_ok-number.ensures).0, c.self.inside.txns.known.ok)

row : (c : After-index-known) → StartsAt c.args.self.now c.args.t c.index-known.result.now.start × Ends c.args.self.now c.args.t c.index-known.result.now.end
row c = let is = (own_row _ _ c.self.view_is _ _ _ _ c.self.invariant _ _ c.in_ok-number.ensures).1 c.index-known.result.now c.index-known.ensures in (is.1, is.2)

pub returns-in-Open : goal.returns-in-Open
returns-in-Open c = let is = row (goal.at.returns-in-Open c).After-index-known in (is.0, subst (Ends c.args.self.now c.args.t) c.in-Open.is is.1)

pub returns-in-Committed : goal.returns-in-Committed
returns-in-Committed c = let is = row (goal.at.returns-in-Committed c).After-index-known in (is.0, subst (Ends c.args.self.now c.args.t) c.in-Committed.is is.1)

pub returns-in-Aborted : goal.returns-in-Aborted
returns-in-Aborted c = let is = row (goal.at.returns-in-Aborted c).After-index-known in (is.0, subst (Ends c.args.self.now c.args.t) c.in-Aborted.is is.1)
