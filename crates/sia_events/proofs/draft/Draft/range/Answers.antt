-- The range and its list are good, and each listed version was written.
use Rattle.std.proofs.Common.{refl, sym, arith}
use Rattle.std.proofs.lemmas.Result.{err_from_is_err_and}
use Rattle.sia_events.specs.Drafts.{mentioned}
use Rattle.sia_events.proofs.Shared.Drafted.{stops, empty_refused, bad_refused, list_refused, range_now}
use Rattle.sia_events.proofs.draft.Draft.range.Goals as goal

pub returns-in_err-txn : goal.returns-in_err-txn
returns-in_err-txn c = grind (arith, err_from_is_err_and, stops)

pub returns-then-hi-lo : goal.returns-then-hi-lo
returns-then-hi-lo c = empty_refused c.args.self.now c.actor.new.self c.args.txn c.in_ok-txn.txn c.args.lo c.args.hi (mentioned c.args.listed.now) c.requires.knows c.in_ok-txn.ensures.acts c.in_ok-txn.ensures.found c.if-hi-lo.true

pub returns-then-not-is_good_list : goal.returns-then-not-is_good_list
returns-then-not-is_good_list c = bad_refused c.args.self.now c.actor.new.self c.args.txn c.in_ok-txn.txn c.args.lo c.args.hi (mentioned c.args.listed.now) c.requires.knows c.in_ok-txn.ensures.acts c.in_ok-txn.ensures.found c.if-hi-lo.false (sym c.if-not-is_good_list.ensures)

pub returns-in_err-list : goal.returns-in_err-list
returns-in_err-list c = grind (arith, err_from_is_err_and, list_refused)

pub returns : goal.returns
returns c = range_now c.args.self.now c.actor.new.self c.list.new.self _ c.args.txn c.in_ok-txn.txn c.args.lo c.args.hi (mentioned c.args.listed.now) (record { lo = c.args.lo; hi = c.args.hi; from = c.len-from.result; to = c.len-to.result }) c.len-range.result c.len-writes.result c.requires.knows c.in_ok-txn.ensures.acts c.in_ok-txn.ensures.found c.if-hi-lo.false (sym c.if-not-is_good_list.ensures) c.in_ok-list.ensures.lists c.in_ok-list.ensures.found refl refl (let ok = c.actor.new.self.tables.pairs.ok in omega (arith, c.len-from.ensures)) (let ok = c.list.new.self.tables.pairs.ok in omega (arith, c.len-to.ensures)) (let ok = c.list.new.self.tables.ranges.ok in omega (arith, c.len-range.ensures)) (omega (arith, c.if-range-ge-MOST_ROWS.false)) (let ok = c.list.new.self.tables.writes.ok in omega (arith, c.len-writes.ensures)) refl refl refl refl refl refl refl refl c.in_ok-push.ensures.items c.in_ok-push-2.ensures.items
