-- A transaction begins that has no event yet, and not too late.
use Rattle.std.proofs.Common.{refl, arith}
use Rattle.sia_events.proofs.Shared.Drafted.{counted, begin_now, begin_at, begun_refused, ended_refused, late_refused, found_of, txn_within}
use Rattle.sia_events.proofs.draft.Draft.begin.Goals as goal

pub find_txn-requires : goal.find_txn-requires
find_txn-requires c = found_of c.args.self.now c.requires.knows

pub is_open-requires-clause-within : goal.is_open-requires-clause-within
is_open-requires-clause-within c = txn_within c.args.self.now.tables.txns.items _ c.args.txn c.in-Some.ensures

pub new_txn-requires-clause-found : goal.new_txn-requires-clause-found
new_txn-requires-clause-found c = found_of c.args.self.now c.requires.knows

pub returns-then-is_open : goal.returns-then-is_open
returns-then-is_open c = begun_refused c.args.self.now _ c.args.txn c.in-Some.number c.args.start c.requires.knows refl c.in-Some.ensures (c.if-is_open.ensures c.args.txn c.in-Some.ensures)

pub returns-in-Some : goal.returns-in-Some
returns-in-Some c = ended_refused c.args.self.now _ c.args.txn c.args.start refl (c.if-is_open.ensures c.args.txn c.in-Some.ensures)

pub returns-then-count-at : goal.returns-then-count-at
returns-then-count-at c = late_refused c.args.self.now _ c.args.txn c.unwrap_or-at.result c.len-count.result c.args.start c.requires.knows refl c.in_default.ensures (counted c.args.self.now.tables c.len-count.result c.len-count.ensures) c.unwrap_or-at.ensures c.if-count-at.true

pub returns : goal.returns
returns c = begin_now c.args.self.now c.new_txn.new.self _ c.args.txn c.in_ok-txn.txn c.unwrap_or-at.result c.args.start c.requires.knows c.in_default.ensures c.in_ok-txn.ensures.same c.in_ok-txn.ensures.rows c.in_ok-txn.ensures.is c.in_ok-txn.ensures.found (begin_at c.args.start c.unwrap_or-at.result c.len-count.result _ c.unwrap_or-at.ensures (counted c.args.self.now.tables c.len-count.result c.len-count.ensures) (λ over. let no_less = c.if-count-at.false in omega arith)) refl refl refl refl refl refl refl refl refl refl c.in_ok-push.ensures.items
