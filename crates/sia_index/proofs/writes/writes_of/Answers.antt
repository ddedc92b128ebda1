-- The lists are those of the keys of the writes, and of the transactions of the writes by key.
use Rattle.std.proofs.Common.{◌≡◌, ◌+◌, ◌-◌, ◌<◌, ◌∙◌, ℕ, Some, length, refl, sym, subst, ap, arith, slice_get}
use Rattle.std.specs.Prelude.{All, slice_index}
use Rattle.std.proofs.lemmas.List.{get_or_default}
use Rattle.std.proofs.lemmas.Option.{get_or_from_slice_get}
use Rattle.sia_events.specs.Numbering.{key_at, keys_of, names_of, txn_at, txns_of, writes_of}
use Rattle.sia_index.specs.declared.writes.Written.{Written}
use Rattle.sia_index.specs.Lists.{joined, places_by}
use Rattle.sia_index.specs.Rows.{IsWritten}
use Rattle.sia_index.specs.VersionRows.{AreUnplaced}
use Rattle.sia_index.proofs.Shared.LogNames.{numbered_wrote}
use Rattle.sia_index.proofs.Shared.NumberedNames.{number_there}
use Rattle.sia_index.proofs.VersionRows.OwnWrites.{TxnsSoFar, txns_more, write_tables, writes_below}
use Rattle.sia_index.proofs.VersionRows.PlacesBy.{places_below}
use Rattle.sia_index.proofs.VersionRows.VersionTables.{writes_more}
use Rattle.sia_index.proofs.writes.writes_of.Goals.{After-loop-before, After-loop-write, In_ok-by_key, In_ok-by_txn}
use Rattle.sia_index.proofs.writes.writes_of.Goals as goal

pub loop-before-preserved : goal.loop-before-preserved
loop-before-preserved c =
    let h = c.args.log.now in
    let n = c.loop-before.before in
    let keys = c.args.keys.now.keys.items in
    let q = c.write.result.key in
    let t = txn_at (names_of h) c.write.result.txn in
    let place : n + 1 - 1 ≡ n = omega arith in
    let here : slice_get (writes_of h) n ≡ Some (key_at (names_of h) q, t) = ap (slice_get (writes_of h)) (sym place) ∙ c.write.ensures.write in
    let pair = get_or_from_slice_get (writes_of h) n (key_at (names_of h) q, t) (0, 0) here in
    let is : c.index.result.now ≡ slice_index c.args.keys.now.numbers.items q = c.index.ensures ∙ get_or_default c.args.keys.now.numbers.items q c.index.result.now 0 (omega (arith, c.requires.keys_are.long, c.write.ensures.key)) in
    let number = number_there (IsWritten h) (keys_of h) keys c.args.keys.now.numbers.items c.requires.keys_are q c.write.ensures.key c.index.result.now is (t, numbered_wrote h n (key_at (names_of h) q) t here) in
    rw c.in_ok-push.ensures.items (writes_more h keys n c.loop-before.written.items c.loop-before.invariant _ number.0 (number.1 ∙ sym (ap (λ (p : ℕ × ℕ). p.0) pair)) refl)

-- each has its key
all_written : (c : After-loop-before) → AreUnplaced c.args.log.now c.args.keys.now.keys.items (length (writes_of c.args.log.now)) c.loop-before.written.items
all_written c = let end : c.loop-before.before ≡ length (writes_of c.args.log.now) = (let last = c.loop-before-test.false in let most = c.loop-before.auto in omega (arith, c.write_count-count.ensures)) in subst (λ n. AreUnplaced c.args.log.now c.args.keys.now.keys.items n c.loop-before.written.items) end c.loop-before.invariant

by_key_is : (c : In_ok-by_key) → c.in_ok-by_key.by_key ≡ places_by (λ (w : Written). w.key) (length c.args.keys.now.keys.items) c.loop-before.written.items
by_key_is c =
    let count : c.len.result ≡ length c.args.keys.now.keys.items = omega (arith, c.len.ensures, c.args.keys.now.keys.ok) in
    c.in_ok-by_key.ensures ∙ ap (places_by (λ (w : Written). w.key) c.len.result) c.deref.ensures.value ∙ ap (λ n. places_by (λ (w : Written). w.key) n c.loop-before.written.items) count

pub overflow_add-write : goal.overflow_add-write
overflow_add-write c =
    let all : All (λ n. n < length (writes_of c.args.log.now)) c.rows-write-items.result.now = rw (c.rows-write-items.ensures, by_key_is (goal.at.overflow_add-write c).In_ok-by_key) (writes_below c.args.log.now c.args.keys.now.keys.items c.requires.keys_are.listed_are c.loop-before.written.items (all_written (goal.at.overflow_add-write c).After-loop-before)) in
    let inside = all c.loop-write.write-index 0 c.loop-write-test.true in
    let count = c.write_count-count.ensures in
    omega arith

pub write-requires-in-loop-write-clause-bound : goal.write-requires-in-loop-write-clause-bound
write-requires-in-loop-write-clause-bound c =
    let all : All (λ n. n < length (writes_of c.args.log.now)) c.rows-write-items.result.now = rw (c.rows-write-items.ensures, by_key_is (goal.at.write-requires-in-loop-write-clause-bound c).In_ok-by_key) (writes_below c.args.log.now c.args.keys.now.keys.items c.requires.keys_are.listed_are c.loop-before.written.items (all_written (goal.at.write-requires-in-loop-write-clause-bound c).After-loop-before)) in
    let inside = all c.loop-write.write-index 0 c.loop-write-test.true in
    omega arith

pub loop-write-preserved : goal.loop-write-preserved
loop-write-preserved c =
    let h = c.args.log.now in
    let n = c.loop-write.write-index in
    let m = slice_index c.rows-write-items.result.now n in
    let place : m + 1 - 1 ≡ m = omega arith in
    rw c.in_ok-push-2.ensures.items (txns_more h c.rows-write-items.result.now n c.loop-write.txns.items c.loop-write.invariant c.write-in-loop-write.result.txn (key_at (names_of h) c.write-in-loop-write.result.key) c.write-in-loop-write.ensures.txn (ap (slice_get (writes_of h)) (sym place) ∙ c.write-in-loop-write.ensures.write))

pub returns-clause-written : goal.returns-clause-written
returns-clause-written c = all_written (goal.at.returns-clause-written c).After-loop-before

own_is : (c : In_ok-by_txn) → c.in_ok-by_txn.by_txn ≡ places_by (λ (m : ℕ). m) (length (txns_of c.args.log.now)) c.loop-write.txns.items
own_is c = c.in_ok-by_txn.ensures ∙ ap (places_by (λ (m : ℕ). m) c.txn_count.result) c.deref-2.ensures.value ∙ ap (λ n. places_by (λ (m : ℕ). m) n c.loop-write.txns.items) c.txn_count.ensures

-- each of those by key has its transaction
all_txns : (c : After-loop-write) → TxnsSoFar c.args.log.now c.rows-write-items.result.now (length c.rows-write-items.result.now) c.loop-write.txns.items
all_txns c = let end : c.loop-write.write-index ≡ length c.rows-write-items.result.now = (let last = c.loop-write-test.false in let most = c.loop-write.auto.write-index-end in omega arith) in subst (λ n. TxnsSoFar c.args.log.now c.rows-write-items.result.now n c.loop-write.txns.items) end c.loop-write.invariant

pub own_places_of-requires-clause-own : goal.own_places_of-requires-clause-own
own_places_of-requires-clause-own c =
    let count = (all_txns (goal.at.own_places_of-requires-clause-own c).After-loop-write).0 in
    let rows = ap length c.rows-write-items.ensures in
    rw (own_is (goal.at.own_places_of-requires-clause-own c).In_ok-by_txn) (λ k d below. let inside = places_below (λ (m : ℕ). m) c.loop-write.txns.items (length (txns_of c.args.log.now)) k d below in omega arith)

pub own_places_of-requires-clause-writes : goal.own_places_of-requires-clause-writes
own_places_of-requires-clause-writes c =
    rw (by_key_is (goal.at.own_places_of-requires-clause-writes c).In_ok-by_key, c.deref-3.ensures.value)
    (λ k d below. let inside = writes_below c.args.log.now c.args.keys.now.keys.items c.requires.keys_are.listed_are c.loop-before.written.items (all_written (goal.at.own_places_of-requires-clause-writes c).After-loop-before) k d below in omega (arith, c.in_ok-places.ensures.long))

pub returns-clause-tables : goal.returns-clause-tables
returns-clause-tables c =
    let h = c.args.log.now in
    let keys = c.args.keys.now.keys.items in
    write_tables h keys c.requires.keys_are.listed_are c.loop-before.written.items (all_written (goal.at.returns-clause-tables c).After-loop-before) _ _ c.loop-write.txns.items _ _ _ (c.by_key.view_is ∙ by_key_is (goal.at.returns-clause-tables c).In_ok-by_key) (subst (λ xs. TxnsSoFar h xs (length xs) c.loop-write.txns.items) (c.rows-write-items.ensures ∙ ap joined (sym c.by_key.view_is)) (all_txns (goal.at.returns-clause-tables c).After-loop-write)) (c.by_txn.view_is ∙ own_is (goal.at.returns-clause-tables c).In_ok-by_txn) c.in_ok-places.ensures
    (rw (c.by_key.view_is, c.by_txn.view_is) (rw c.deref-3.ensures.value at c.in_ok-own_places.ensures)) (rw c.deref-4.ensures.value at c.in_ok-minima_of.ensures)
