-- Each number adds its row, and the tables are those of the rows.
use Rattle.std.proofs.Common.{ℕ, ◌≡◌, ◌∙◌, ◌+◌, ◌≤◌, [], ◌∷◌, ◌++◌, List, length, refl, sym, ap, subst, arith, take}
use Rattle.std.specs.Prelude.{slice_index_or}
use Rattle.std.proofs.lemmas.List.{map_push, take_all, take_more}
use Rattle.std.proofs.lemmas.List.Elements.{All-nil, All-push}
use Rattle.std.proofs.lemmas.Option.{get_or_from_slice_get, slice_get_within}
use Rattle.sia_events.specs.declared.event.Event.TheVariants.{Commit}
use Rattle.sia_events.specs.declared.log.TxnRow.{TxnRow}
use Rattle.sia_events.specs.Finding.{Finds}
use Rattle.sia_events.specs.LogTables.{Lives, txn_names}
use Rattle.sia_events.specs.Numbering.{Ends, txns_of}
use Rattle.sia_events.specs.Transactions.{IsCommitted}
use Rattle.sia_events.proofs.LogRows.Finders.{below_none}
use Rattle.sia_index.specs.Lifetimes.{IsLifetime}
use Rattle.sia_index.specs.declared.info.Lifetime.{Lifetime}
use Rattle.sia_index.specs.Rows.{AreNumbered, IsColumn}
use Rattle.sia_index.specs.Tables.{ArePlaces}
use Rattle.sia_index.specs.declared.names.Numbered.{Numbered}
use Rattle.sia_index.proofs.TxnTables.Collected.{holds_nothing}
use Rattle.sia_index.proofs.Shared.Columns.{column_more}
use Rattle.sia_index.proofs.Shared.LogNames.{txns_stand_once, event_has_number}
use Rattle.sia_index.proofs.Shared.NumberedNames.{IsRowOf, none_numbered, numbered_listed, numbered_more, numbered_same, numbers_are, rows_apart, rows_have, rows_named, rows_within, same_some}
use Rattle.sia_index.proofs.TxnTables.KnownTxns.{beside_more, not_committed}
use Rattle.sia_index.proofs.txns.txns_of.Goals.{After-sort, in-Committed+in_ok-push, in_default, in-Committed-end+in_ok-push-3+in_ok-push-4, in_default-end}
use Rattle.sia_index.proofs.txns.txns_of.Goals as goal

pub loop-number-init : goal.loop-number-init
loop-number-init c = rw (c.in_ok-rows.ensures.items, c.in_ok-known.ensures.items) (record {
  rows = holds_nothing (IsRowOf (IsCommitted c.args.log.now) (txns_of c.args.log.now));
  names = refl;
  lives = All-nil (Lives c.args.log.now);
})

pub loop-number-preserved : goal.loop-number-preserved
loop-number-preserved c =
    let h = c.args.log.now in
    let n = c.loop-number.number in
    let so = c.loop-number.invariant in
    let row : TxnRow = c.txn-row.result in
    let is = c.txn-row.ensures in
    let next : take (n + 1) (txns_of h) ≡ take n (txns_of h) ++ row.name ∷ [] = take_more (txns_of h) n 0 (slice_get_within (txns_of h) n row.name is.name) ∙ ap (λ t. take n (txns_of h) ++ t ∷ []) (get_or_from_slice_get (txns_of h) n row.name 0 is.name) in
    rw c.in_ok-push-2.ensures.items (record {
      rows = elim c.match-row.branch [
        | in-Committed+in_ok-push w ↦ rw (w.rows-is, w.in_ok-push.ensures.items) (numbered_more (IsCommitted h) (txns_of h) n row.name _ so.rows is.name (w.in-Committed.field-0, subst (Ends h row.name) w.in-Committed.is is.ends))
        | in_default w ↦ rw w.rows-is (numbered_same (IsCommitted h) (txns_of h) n row.name _ so.rows is.name (not_committed h c.law.ensures row.name row.end w.in_default.not-Committed is.ends))
      ];
      names = map_push (λ (r : TxnRow). r.name) _ row ∙ ap (λ (names : List ℕ). names ++ row.name ∷ []) so.names ∙ sym next;
      lives = All-push (Lives h) _ row so.lives (is.starts, is.ends);
    })

numbered : (c : After-sort) → AreNumbered (IsCommitted c.args.log.now) (txns_of c.args.log.now) c.sort.new.list.items
numbered c = numbered_listed _ _ c.loop-number.number _ _ (omega (arith, c.txn_count-count.ensures)) c.loop-number.invariant.rows c.sort.ensures.sorted (λ x. (c.sort.ensures.same x).1) (λ x. (c.sort.ensures.same x).0)

-- the same of the rows that are gone through
rows_of : (c : After-sort) (rows : List (Numbered ℕ)) → rows ≡ c.sort.new.list.items → AreNumbered (IsCommitted c.args.log.now) (txns_of c.args.log.now) rows
rows_of c rows is = subst (AreNumbered (IsCommitted c.args.log.now) (txns_of c.args.log.now)) (sym is) (numbered c)

pub loop-row-preserved : goal.loop-row-preserved
loop-row-preserved c =
    let h = c.args.log.now in
    let rows = c.deref-row-items.result.now in
    let n = c.loop-row.row-index in
    let so = c.loop-row.invariant in
    let are = rows_of (goal.at.loop-row-preserved c).After-sort rows c.deref-row-items.ensures.value in
    let t = c.txn-txn.result.name in
    let name : t ≡ (slice_index_or rows n none_numbered).name = same_some t _ (sym c.txn-txn.ensures.name ∙ rows_named (IsCommitted h) (txns_of h) rows are n none_numbered c.loop-row-test.true) in
    elim c.match-txn.branch [
      | in-Committed-end+in_ok-push-3+in_ok-push-4 w ↦
          let lifetime : Lifetime = record { start = c.txn-txn.result.start; commit = w.in-Committed-end.commit } in
          rw (w.committed-is, w.in_ok-push-3.ensures.items, w.lifetimes-is, w.in_ok-push-4.ensures.items) (record {
            named = subst (λ u. IsColumn (λ (r : Numbered ℕ). r.name) rows (n + 1) (c.loop-row.committed.items ++ u ∷ [])) (sym name) (column_more (λ (r : Numbered ℕ). r.name) rows n c.loop-row.committed.items so.named none_numbered c.loop-row-test.true);
            beside = beside_more (IsLifetime h) n c.loop-row.committed.items c.loop-row.lifetimes.items t lifetime so.named.0 so.beside (c.txn-txn.ensures.starts, subst (Ends h t) w.in-Committed-end.is c.txn-txn.ensures.ends);
          })
      | in_default-end w ↦ absurd (not_committed h c.law.ensures t c.txn-txn.result.end w.in_default-end.not-Committed c.txn-txn.ensures.ends (subst (IsCommitted h) (sym name) (rows_have (IsCommitted h) (txns_of h) rows are n none_numbered c.loop-row-test.true)))
    ]

pub txn-txn-requires : goal.txn-txn-requires
txn-txn-requires c = rows_within (IsCommitted c.args.log.now) (txns_of c.args.log.now) c.deref-row-items.result.now (rows_of (goal.at.txn-txn-requires c).After-sort c.deref-row-items.result.now c.deref-row-items.ensures.value) c.loop-row.row-index none_numbered c.loop-row-test.true

pub places_of-requires-clause-apart : goal.places_of-requires-clause-apart
places_of-requires-clause-apart c = rw c.deref.ensures.value (rows_apart (IsCommitted c.args.log.now) _ _ (numbered (goal.at.places_of-requires-clause-apart c).After-sort))

pub places_of-requires-clause-within : goal.places_of-requires-clause-within
places_of-requires-clause-within c = rw (c.deref.ensures.value, c.txn_count-count.ensures) (rows_within (IsCommitted c.args.log.now) _ _ (numbered (goal.at.places_of-requires-clause-within c).After-sort))

pub returns : goal.returns
returns c =
    let h = c.args.log.now in
    let rows = c.sort.new.list.items in
    let so = c.loop-number.invariant in
    let long : length (txns_of h) ≤ c.loop-number.number = omega (arith, c.loop-number-test.false, c.txn_count-count.ensures) in
    let places : ArePlaces (λ (row : Numbered ℕ). row.number) rows (length (txns_of h)) c.in_ok-committed_numbers.committed_numbers.items = rw (c.deref.ensures.value, c.txn_count-count.ensures) at c.in_ok-committed_numbers.ensures in
    let end : c.loop-row.row-index ≡ length c.deref-row-items.result.now = (let last = c.loop-row-test.false in let most = c.loop-row.auto in omega arith) in
    let named = rw c.deref-row-items.ensures.value at (subst (λ n. IsColumn (λ (row : Numbered ℕ). row.name) c.deref-row-items.result.now n c.loop-row.committed.items) end c.loop-row.invariant.named) in
    record {
      known = record { names = so.names ∙ take_all c.loop-number.number (txns_of h) long; lives = so.lives };
      found = subst (λ rows. Finds c.add_from.new.self (txn_names rows)) c.deref-2.ensures.value (c.in_ok-add_from.ensures (below_none _ _));
      committed = numbers_are (IsCommitted h) (txns_of h) rows (numbered (goal.at.returns c).After-sort) (txns_stand_once h) (λ t done. event_has_number h t (done.0, (Commit t, done.1, refl))) _ named _ places;
      lifetimes = record { long = c.loop-row.invariant.beside.0 ∙ sym c.loop-row.invariant.named.0; each = λ i d below. c.loop-row.invariant.beside.1 i d (omega (arith, c.loop-row.invariant.named.0)) };
    }
