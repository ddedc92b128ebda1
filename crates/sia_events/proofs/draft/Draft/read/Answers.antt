-- The transaction and the key have numbers, and the version has one.
use Rattle.std.proofs.Common.{◌≡◌, ◌≢◌, List, false, refl, sym, subst, ap, ◌∙◌, rules, slice_get}
use Rattle.std.specs.List.{list_any}
use Rattle.std.proofs.lemmas.Result.{err_from_is_err_and}
use Rattle.sia_events.specs.declared.event.Event.TheVariants.{Read}
use Rattle.sia_events.specs.declared.log.Tables.{Tables}
use Rattle.sia_events.specs.declared.log.TxnRow.{TxnRow}
use Rattle.sia_events.specs.Numbering.{IsSeen, same_pair}
use Rattle.sia_events.specs.LogTables.{names_in, txn_names}
use Rattle.sia_events.specs.Drafts.{HasKey, IsReadRow}
use Rattle.sia_events.proofs.Shared.Drafted.{first_read, own_read, read_now, read_refused, stops, write_there}
use Rattle.sia_events.proofs.draft.Draft.read.Goals.{in-0, in_default-write_by}
use Rattle.sia_events.proofs.draft.Draft.read.Goals as goal

pub returns-in_err-txn : goal.returns-in_err-txn
returns-in_err-txn c =
    let p = err_from_is_err_and c.from_residual.result c.from_residual.ensures.1 in
    rw (p.1, p.2) (stops c.args.self.now c.actor.new.self c.args.txn (Read c.args.txn c.args.name c.args.saw) c.in_err-txn.field-0.0 refl c.in_err-txn.ensures.refused)

pub returns-in_default : goal.returns-in_default
returns-in_default c =
    let same = c.seen.ensures.same in
    let has = subst (λ (t : Tables). HasKey c.actor.new.self.tables t c.args.name c.in_ok-key.key) (sym same) c.in_ok-key.ensures.has in
    let none = subst (λ (t : Tables). (c.args.saw ≢ 0) × (list_any (same_pair (c.args.name, c.args.saw)) (names_in t).writes ≡ false)) (sym same) c.in_default.ensures.none in
    read_refused c.args.self.now c.actor.new.self c.seen.new.self c.args.txn c.in_ok-txn.txn c.args.name c.in_ok-key.key c.args.saw c.requires.knows c.in_ok-txn.ensures.acts has c.seen.ensures.found none.0 none.1

pub returns : goal.returns
returns c =
    let same = c.seen.ensures.same in
    let has = subst (λ (t : Tables). HasKey c.actor.new.self.tables t c.args.name c.in_ok-key.key) (sym same) c.in_ok-key.ensures.has in
    let seen = subst (λ (t : Tables). IsSeen (names_in t) c.args.name c.args.saw c.in-Some.saw) (sym same) c.in-Some.ensures.some in
    let is_txn = ap (λ (xs : List TxnRow). slice_get (txn_names xs) c.in_ok-txn.txn) has.same.txns ∙ c.in_ok-txn.ensures.acts.is in
    let names = names_in c.seen.new.self.tables in
    let row : IsReadRow names c.args.txn c.args.name c.args.saw c.match-write_by.row = elim c.match-write_by.branch [
      | in-0 w ↦ rw w.row-is (first_read names c.in_ok-txn.txn c.in_ok-key.key c.in-Some.saw c.args.txn c.args.name c.args.saw c.write_by.result is_txn has.is seen w.in-0.is (c.write_by.ensures c.args.txn c.args.name is_txn has.is))
      | in_default-write_by w ↦ rw w.row-is (own_read names c.in_ok-txn.txn c.in_ok-key.key c.in-Some.saw c.args.txn c.args.name c.args.saw is_txn has.is seen (write_there names (c.args.name, c.args.txn) c.write_by.result (search rules) (c.write_by.ensures c.args.txn c.args.name is_txn has.is)))
    ] in
    read_now c.args.self.now c.actor.new.self c.seen.new.self _ c.args.txn c.in_ok-txn.txn c.args.name c.in_ok-key.key c.args.saw c.in-Some.saw c.match-write_by.row c.requires.knows c.in_ok-txn.ensures.acts has c.seen.ensures.found seen row.spells row.within row.marked refl refl refl refl refl refl refl refl refl refl c.in_ok-push.ensures.items
