-- The transaction, the key and the write have numbers.
use Rattle.std.proofs.Common.{List, refl, ap, ◌∙◌, slice_get, arith}
use Rattle.std.proofs.lemmas.Result.{err_from_is_err_and}
use Rattle.std.proofs.lemmas.Option.{slice_get_within}
use Rattle.sia_events.specs.declared.log.TxnRow.{TxnRow}
use Rattle.sia_events.specs.LogTables.{txn_names}
use Rattle.sia_events.proofs.Shared.Drafted.{stops, write_now, txn_within}
use Rattle.sia_events.proofs.draft.Draft.write.Goals as goal

pub returns-in_err-txn : goal.returns-in_err-txn
returns-in_err-txn c = grind (arith, err_from_is_err_and, stops)

pub first_write-requires-clause-txn : goal.first_write-requires-clause-txn
first_write-requires-clause-txn c = txn_within c.key.new.self.tables.txns.items c.in_ok-txn.txn c.args.txn (ap (λ (xs : List TxnRow). slice_get (txn_names xs) c.in_ok-txn.txn) c.in_ok-key.ensures.has.same.txns ∙ c.in_ok-txn.ensures.acts.is)

pub first_write-requires-clause-key : goal.first_write-requires-clause-key
first_write-requires-clause-key c = slice_get_within c.key.new.self.tables.keys.items c.in_ok-key.key c.args.key c.in_ok-key.ensures.has.is

pub returns : goal.returns
returns c =
    let has = c.in_ok-key.ensures.has in
    let is_txn = ap (λ (xs : List TxnRow). slice_get (txn_names xs) c.in_ok-txn.txn) has.same.txns ∙ c.in_ok-txn.ensures.acts.is in
    write_now c.args.self.now c.actor.new.self c.key.new.self c.first_write.new.self _ c.args.txn c.in_ok-txn.txn c.args.key c.in_ok-key.key c.in_ok-write.write c.requires.knows c.in_ok-txn.ensures.acts has (c.in_ok-write.ensures.has c.args.txn c.args.key is_txn has.is) c.in_ok-write.ensures.found refl refl refl refl refl refl refl refl refl refl c.in_ok-push.ensures.items
