-- The transaction's writes are looked through, or the table.
use Rattle.std.proofs.Common.{arith}
use Rattle.std.proofs.lemmas.Option.{slice_get_read}
use Rattle.sia_events.proofs.LogRows.OwnWrites.{own_within, own_code, none_in_table, all_below, passed}
use Rattle.sia_events.proofs.own_writes.OwnWrites.find.Goals as goal

pub returns-then-count-gt-FEW-clause-none : goal.returns-then-count-gt-FEW-clause-none
returns-then-count-gt-FEW-clause-none c = grind (arith, slice_get_read, none_in_table)

pub loop-at-init : goal.loop-at-init
loop-at-init c = grind (arith, slice_get_read, all_below)

pub offset_bounds-rows-at : goal.offset_bounds-rows-at
offset_bounds-rows-at c = let le = own_within c.args.rows.now c.args.txn c.loop-at.at c.loop-at.invariant.own in let few = c.requires.few in omega arith

pub bounds-rows-at : goal.bounds-rows-at
bounds-rows-at c = let le = own_within c.args.rows.now c.args.txn c.loop-at.at c.loop-at.invariant.own in let above = c.loop-at-test.true in omega arith

pub overflow_cast-result : goal.overflow_cast-result
overflow_cast-result c = let le = own_within c.args.rows.now c.args.txn c.loop-at.at c.loop-at.invariant.own in let few = c.requires.few in omega arith

pub returns-then-rows-at-clause-some : goal.returns-then-rows-at-clause-some
returns-then-rows-at-clause-some c = own_code c.args.rows.now c.args.txn c.args.key c.loop-at.at _ c.loop-at-test.true c.loop-at.invariant.own c.if-rows-at.true

pub index-requires : goal.index-requires
index-requires c = let le = own_within c.args.rows.now c.args.txn c.loop-at.at c.loop-at.invariant.own in let above = c.loop-at-test.true in let long = c.requires.tracks.long in let ok = c.args.self.now.before.ok in omega arith

pub loop-at-smaller : goal.loop-at-smaller
loop-at-smaller c = (passed c.args.self.now c.args.rows.now c.args.txn c.args.key c.loop-at.at c.index.result.now _ c.requires.tracks c.loop-at-test.true c.index.ensures c.if-rows-at.false c.loop-at.invariant.own c.loop-at.invariant.none).0

pub loop-at-preserved : goal.loop-at-preserved
loop-at-preserved c = grind (arith, passed c.args.self.now c.args.rows.now c.args.txn c.args.key c.loop-at.at c.index.result.now _ c.requires.tracks c.loop-at-test.true c.index.ensures c.if-rows-at.false c.loop-at.invariant.own c.loop-at.invariant.none)
