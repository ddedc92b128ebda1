-- The tables grow by one transaction.
use Rattle.std.proofs.Common.{◌≡◌, ◌++◌, ◌∷◌, [], ◌+◌, ◌<◌, ◌≤◌, List, length, refl, subst, ◌∙◌, ap, arith}
use Rattle.std.proofs.lemmas.List.{map-append, length-map, length-append}
use Rattle.sia_events.specs.declared.log.TxnRow.{TxnRow}
use Rattle.sia_events.specs.LogTables.{txn_names}
use Rattle.sia_events.specs.Finding.{Finds}
use Rattle.sia_events.specs.Drafts.{new_txn}
use Rattle.sia_events.proofs.LogRows.Logs.{txn_grown}
use Rattle.sia_events.proofs.Shared.Drafted.{found_more}
use Rattle.sia_events.proofs.LogRows.Finders.{below_last}
use Rattle.sia_events.proofs.draft.Draft.new_txn.Goals as goal
use Rattle.sia_events.proofs.LogRows.RowsRead.{last_there}

one_more : (c : goal.In_ok-add_from) → txn_names c.push.new.self.items ≡ txn_names c.args.self.now.tables.txns.items ++ c.args.name ∷ []
one_more c = ap txn_names c.in_ok-push.ensures.items ∙ map-append (λ (x : TxnRow). x.name) c.args.self.now.tables.txns.items (new_txn c.args.name c.args.start ∷ [])

len : (c : goal.In_ok-add_from) → c.len-number.result ≡ length (txn_names c.args.self.now.tables.txns.items)
len c = let ok = c.args.self.now.tables.txns.ok in let same = length-map c.args.self.now.tables.txns.items (λ (x : TxnRow). x.name) in omega (arith, c.len-number.ensures)

few : (c : goal.In_ok-add_from) → length c.args.self.now.tables.txns.items < 536870912
few c = let ok = c.args.self.now.tables.txns.ok in omega (arith, c.len-number.ensures, c.if-number-ge-MOST_ROWS.false)

long : (c : goal.In_ok-add_from) → length c.push.new.self.items ≤ length c.add_txn.new.self.writers.items
long c = grind (arith, length-append)

pub returns-clause-found : goal.returns-clause-found
returns-clause-found c = found_more c.args.self.now _ c.requires.found (txn_grown c.args.self.now.tables _ (new_txn c.args.name c.args.start) c.requires.found.sound (record {
  keys = refl;
  writes = refl;
  ranges = refl;
  pairs = refl;
  events = refl;
}) c.in_ok-push.ensures.items (few c) c.requires.new)
    (subst (λ (xs : List TxnRow). Finds c.add_from.new.self (txn_names xs)) c.deref.ensures.value (c.in_ok-add_from.ensures (below_last c.args.self.now.txns _ (txn_names c.args.self.now.tables.txns.items) c.args.name c.len-number.result (ap txn_names c.deref.ensures.value ∙ one_more c) (len c) c.requires.found.txns))) c.requires.found.keys (c.in_ok-add_txn.ensures.kept c.args.self.now.tables.writes.items c.requires.found.writes) (long c) refl refl

pub returns-clause-is : goal.returns-clause-is
returns-clause-is c = rw (one_more c) (last_there (txn_names c.args.self.now.tables.txns.items) c.args.name _ (len c))
