-- The row stands before the others of its transaction, and in the table where they are many.
use Rattle.std.proofs.Common.{◌∷◌, [], ◌∙◌, inl, inr, List, map, refl, sym, subst, ap, arith}
use Rattle.std.proofs.lemmas.List.{length-append}
use Rattle.std.proofs.lemmas.Option.{slice_get-get_or}
use Rattle.std.specs.Prelude.{Some}
use Rattle.sia_events.specs.declared.log.WriteRow.{WriteRow}
use Rattle.sia_events.specs.Finding.{Finds, FindsBelow}
use Rattle.sia_events.specs.OwnWrites.{new_write, write_code}
use Rattle.sia_events.proofs.LogRows.Finders.{finds_below}
use Rattle.sia_events.proofs.LogRows.OwnWrites.{tracked, table_more}
use Rattle.sia_events.proofs.own_writes.OwnWrites.add.Goals as goal

pub returns-in_ok-add_from-clause-tracks : goal.returns-in_ok-add_from-clause-tracks
returns-in_ok-add_from-clause-tracks c = λ before key is t.
    let l = length-append before (new_write c.args.txn key ∷ []) in
    let x = slice_get-get_or c.args.self.now.writers.items c.args.txn c.index_mut-writer.result.now c.requires.place ∙ ap Some (sym c.index_mut-writer.ensures.value) in
    let table = c.in_ok-add_from.ensures (subst (λ (rows : List WriteRow). FindsBelow c.args.self.now.table (map write_code rows) c.args.self.now.in_table) (sym is) (table_more c.args.self.now before (new_write c.args.txn key) t)) in
    rw (is) (tracked c.args.self.now _ before c.args.txn key c.index_mut-writer.result.now _ t x refl l c.in_ok-push.ensures.items (omega (arith, t.lags)) (inl (omega arith)) (finds_below _ _ _ (subst (λ (rows : List WriteRow). Finds c.add_from.new.self (map write_code rows)) is table)) (omega arith))

pub returns-else-writer-gt-FEW-clause-tracks : goal.returns-else-writer-gt-FEW-clause-tracks
returns-else-writer-gt-FEW-clause-tracks c = λ before key is t.
    let l = length-append before (new_write c.args.txn key ∷ []) in
    let x = slice_get-get_or c.args.self.now.writers.items c.args.txn c.index_mut-writer.result.now c.requires.place ∙ ap Some (sym c.index_mut-writer.ensures.value) in
    rw (is) (tracked c.args.self.now _ before c.args.txn key c.index_mut-writer.result.now _ t x refl l c.in_ok-push.ensures.items (omega arith) (inr c.if-writer-gt-FEW.false) (table_more c.args.self.now before (new_write c.args.txn key) t) (omega (arith, t.lags)))
