-- The write is there, or the tables grow by it.
use Rattle.std.proofs.Common.{◌≡◌, ℕ, ◌+◌, ◌-◌, ◌<◌, length, Some, refl, sym, subst, ◌∙◌, ap, arith, slice_get}
use Rattle.std.proofs.lemmas.Option.{slice_get-get_or}
use Rattle.sia_events.specs.LogTables.{names_in, txn_names}
use Rattle.sia_events.specs.Numbering.{Names, IsSeen}
use Rattle.sia_events.specs.Drafts.{HasWrite, IsWriteOr, SameButWrites}
use Rattle.sia_events.specs.OwnWrites.{Tracks, new_write}
use Rattle.sia_events.specs.declared.log.Tables.{Tables}
use Rattle.sia_events.specs.declared.log.TxnRow.{TxnRow}
use Rattle.sia_events.proofs.LogRows.Logs.{write_grown}
use Rattle.sia_events.proofs.Shared.Drafted.{found_more, has_write, map_get, new_has_write}
use Rattle.sia_events.proofs.draft.Draft.first_write.Goals as goal

pub returns-then-write-ne0-clause-has : goal.returns-then-write-ne0-clause-has
returns-then-write-ne0-clause-has c = λ t k is_txn is_key. has_write c.args.self.now.tables (k, t) _ c.if-write-ne0.true (c.write_by-write.ensures t k is_txn is_key)

few : (c : goal.After-see-arg-1) → length c.args.self.now.tables.writes.items < 536870912
few c = let ok = c.args.self.now.tables.writes.ok in omega (arith, c.len-number.ensures, c.if-number-ge-MOST_ROWS.false)

same : (t u : Tables) → u.txns ≡ t.txns → u.keys ≡ t.keys → u.ranges ≡ t.ranges → u.pairs ≡ t.pairs → u.events ≡ t.events → SameButWrites t u
same t u txns keys ranges pairs events = record {
  txns = ap (λ v. v.items) txns;
  keys = ap (λ v. v.items) keys;
  ranges = ap (λ v. v.items) ranges;
  pairs = ap (λ v. v.items) pairs;
  events = ap (λ v. v.items) events;
}

pub see-requires-clause-found : goal.see-requires-clause-found
see-requires-clause-found c = found_more c.args.self.now _ c.requires.found (write_grown c.args.self.now.tables _ (new_write c.args.txn c.args.key) c.requires.found.sound (same _ _ refl refl refl refl refl) c.in_ok-push.ensures.items (few c) c.requires.txn c.requires.key) c.requires.found.txns c.requires.found.keys
    (subst (Tracks c.add.new.self) c.deref.ensures.value (c.in_ok-add.ensures.tracks c.args.self.now.tables.writes.items c.args.key (c.deref.ensures.value ∙ c.in_ok-push.ensures.items) c.requires.found.writes))
    (rw (c.in_ok-add.ensures.same) c.requires.found.long) refl refl

-- the tables with the write
abbrev written : goal.After-see-arg-1 → Tables
written c = record { txns = c.args.self.now.tables.txns; keys = c.args.self.now.tables.keys; writes = c.push.new.self; ranges = c.args.self.now.tables.ranges; pairs = c.args.self.now.tables.pairs; events = c.args.self.now.tables.events }

has : (c : goal.After-see-arg-1) (t k : ℕ) → slice_get (txn_names c.args.self.now.tables.txns.items) c.args.txn ≡ Some t → slice_get c.args.self.now.tables.keys.items c.args.key ≡ Some k → HasWrite c.args.self.now.tables (written c) (k, t) (c.len-number.result + 1)
has c t k is_txn is_key = new_has_write c.args.self.now.tables _ c.args.txn c.args.key t k _ (same _ (written c) refl refl refl refl refl) c.in_ok-push.ensures.items is_txn is_key (let ok = c.args.self.now.tables.writes.ok in omega (arith, c.len-number.ensures)) (subst (IsWriteOr (names_in c.args.self.now.tables) (k, t)) c.if-write-ne0.false (c.write_by-write.ensures t k is_txn is_key))

pub returns-clause-has : goal.returns-clause-has
returns-clause-has c = λ t k is_txn is_key. subst (λ (u : Tables). HasWrite c.args.self.now.tables u (k, t) (c.len-number.result + 1)) (sym c.see.ensures.same) (has c.before t k is_txn is_key)

seen_at : (names : Names) (k v w : ℕ) → 0 < w → slice_get names.writes (w - 1) ≡ Some (k, v) → IsSeen names k v w
seen_at names k v w above is = grind (arith)

pub see-requires-clause-seen : goal.see-requires-clause-seen
see-requires-clause-seen c k is =
    let rows = c.args.self.now.tables.txns.items in
    let row = c.index.result.now in
    let at : slice_get rows c.args.txn ≡ Some row = slice_get-get_or rows c.args.txn row c.requires.txn ∙ ap Some (sym c.index.ensures) in
    let w = has c row.name k (map_get (λ (x : TxnRow). x.name) rows c.args.txn row at) is in
    seen_at (names_in (written c)) k row.name (c.len-number.result + 1) w.above w.is
