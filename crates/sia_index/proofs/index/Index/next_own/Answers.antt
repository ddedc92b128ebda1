-- The first place of a write, between those of the first key and behind the last one; and what wrote nothing wrote nothing before.
use Rattle.std.proofs.Common.{◌≡◌, ◌<◌, ◌≤◌, ◌+◌, ◌∙◌, ℕ, Some, None, length, rules, slice_get, subst, sym, ap, arith}
use Rattle.std.specs.List.{AllWithin}
use Rattle.std.specs.Prelude.{slice_index, slice_index_or}
use Rattle.std.proofs.lemmas.List.{get_or_default}
use Rattle.std.proofs.lemmas.Option.{get_or_from_slice_get, slice_get_within}
use Rattle.sia_events.specs.Numbering.{writes_of}
use Rattle.sia_events.specs.Transactions.{WroteBefore}
use Rattle.sia_index.specs.declared.writes.Written.{Written}
use Rattle.sia_index.specs.Lists.{joined}
use Rattle.sia_index.specs.Minima.{IsNextBelow}
use Rattle.sia_index.specs.Rows.{PassesNone}
use Rattle.sia_index.specs.Tables.{AreTables}
use Rattle.sia_index.proofs.Shared.Ordered.{ascends, rises}
use Rattle.sia_index.proofs.Answering.OwnRows.{none_between, own_listed, own_within, some_between}
use Rattle.sia_index.proofs.index.Index.next_own.Goals.{After-deref-4, After-rows-3}
use Rattle.sia_index.proofs.index.Index.next_own.Goals as goal

pub returns-then-not-reader : goal.returns-then-not-reader
returns-then-not-reader c k low high before = c.requires.wrote_none (search rules) k (before.0, before.2)

pub span-from-requires : goal.span-from-requires
span-from-requires c =
    let are = subst (λ h. AreTables h c.self.inside.txns c.self.inside.keys c.self.inside.versions c.self.inside.writes) c.self.view_is c.self.invariant in
    own_within c.args.self.now _ are.keys_are.listed_are _ are.writes_are _ _ c.requires.numbered

pub place_from-requires : goal.place_from-requires
place_from-requires c =
    let are = subst (λ h. AreTables h c.self.inside.txns c.self.inside.keys c.self.inside.versions c.self.inside.writes) c.self.view_is c.self.invariant in
    rw c.deref.ensures.value (rises (λ (k : ℕ). k) _ (ascends (λ (k : ℕ). k) _ _ are.keys_are.listed_are))

pub place_above-requires : goal.place_above-requires
place_above-requires c =
    let are = subst (λ h. AreTables h c.self.inside.txns c.self.inside.keys c.self.inside.versions c.self.inside.writes) c.self.view_is c.self.invariant in
    rw c.deref-2.ensures.value (rises (λ (k : ℕ). k) _ (ascends (λ (k : ℕ). k) _ _ are.keys_are.listed_are))

pub place_from-requires-2 : goal.place_from-requires-2
place_from-requires-2 c =
    let are = subst (λ h. AreTables h c.self.inside.txns c.self.inside.keys c.self.inside.versions c.self.inside.writes) c.self.view_is c.self.invariant in
    rw (c.rows.ensures, c.span-from.ensures.own) (rises (λ (p : ℕ). p) _ (ascends (λ (p : ℕ). p) _ _ (own_listed c.args.self.now _ are.keys_are.listed_are _ are.writes_are _ _ c.requires.numbered)))

pub place_from-requires-3 : goal.place_from-requires-3
place_from-requires-3 c =
    let are = subst (λ h. AreTables h c.self.inside.txns c.self.inside.keys c.self.inside.versions c.self.inside.writes) c.self.view_is c.self.invariant in
    rw (c.rows.ensures, c.span-from.ensures.own) (rises (λ (p : ℕ). p) _ (ascends (λ (p : ℕ). p) _ _ (own_listed c.args.self.now _ are.keys_are.listed_are _ are.writes_are _ _ c.requires.numbered)))

pub next_below-requires-clause-minima_are : goal.next_below-requires-clause-minima_are
next_below-requires-clause-minima_are c =
    let are = subst (λ h. AreTables h c.self.inside.txns c.self.inside.keys c.self.inside.versions c.self.inside.writes) c.self.view_is c.self.invariant in
    rw (c.deref-3.ensures.value, c.deref-4.ensures.value) are.writes_are.minima_are

none : (c : After-deref-4) → AllWithin (λ p. c.args.reader.place ≤ p) c.self.inside.writes.own_places.items (c.span-from.result.0 + c.place_from-2.result) (c.span-from.result.0 + c.place_from-3.result) → PassesNone (λ k. WroteBefore c.args.self.now c.args.reader.txn k c.args.reader.place) c.args.lo c.args.hi None
none c =
    let are = subst (λ h. AreTables h c.self.inside.txns c.self.inside.keys c.self.inside.versions c.self.inside.writes) c.self.view_is c.self.invariant in
    none_between c.args.self.now _ are.keys_are.listed_are _ are.writes_are _ _ c.requires.numbered c.span-from.result.0 c.span-from.result.1 c.span-from.ensures.order c.span-from.ensures.bound c.span-from.ensures.own c.args.lo c.args.hi c.args.reader.place c.place_from.result c.place_above.result c.place_from-2.result c.place_from-3.result
    (rw (c.rows.ensures, c.span-from.ensures.own) at c.place_from-3.ensures.bound) (rw c.deref.ensures.value at c.place_from.ensures.point) (rw c.deref-2.ensures.value at c.place_above.ensures.point)
    (rw (c.rows.ensures, c.span-from.ensures.own, c.start-low.ensures) at c.place_from-2.ensures.point) (rw (c.rows.ensures, c.span-from.ensures.own, c.start-high.ensures) at c.place_from-3.ensures.point)

some : (c : After-rows-3) (q : ℕ) → IsNextBelow (λ p. p) c.self.inside.writes.own_places.items (c.span-from.result.0 + c.place_from-2.result) (c.span-from.result.0 + c.place_from-3.result) c.args.reader.place q
    → (m k : ℕ) × (((slice_get (joined c.self.inside.writes.by_key) (slice_index (joined c.self.inside.writes.by_txn) q) ≡ Some m) × (slice_get (writes_of c.args.self.now) m ≡ Some (k, c.args.reader.txn))) × PassesNone (λ k. WroteBefore c.args.self.now c.args.reader.txn k c.args.reader.place) c.args.lo c.args.hi (Some k))
some c =
    let are = subst (λ h. AreTables h c.self.inside.txns c.self.inside.keys c.self.inside.versions c.self.inside.writes) c.self.view_is c.self.invariant in
    some_between c.args.self.now _ are.keys_are.listed_are _ are.writes_are _ _ c.requires.numbered c.span-from.result.0 c.span-from.result.1 c.span-from.ensures.order c.span-from.ensures.bound c.span-from.ensures.own c.args.lo c.args.hi c.args.reader.place c.place_from.result c.place_above.result c.place_from-2.result c.place_from-3.result
    (rw (c.rows.ensures, c.span-from.ensures.own) at c.place_from-3.ensures.bound) (rw c.deref.ensures.value at c.place_from.ensures.point) (rw c.deref-2.ensures.value at c.place_above.ensures.point)
    (rw (c.rows.ensures, c.span-from.ensures.own, c.start-low.ensures) at c.place_from-2.ensures.point) (rw (c.rows.ensures, c.span-from.ensures.own, c.start-high.ensures) at c.place_from-3.ensures.point)

pub returns-in_err-next : goal.returns-in_err-next
returns-in_err-next c = rw c.from_residual.ensures (none (goal.at.returns-in_err-next c).After-deref-4 (rw (c.from-place.ensures, c.deref-3.ensures.value) at c.in_err-next.ensures))

-- the write that was found, with its key
found : (c : After-rows-3) → (m k : ℕ) × (((slice_get c.rows-2.result.now (slice_index_or c.rows-3.result.now c.in_ok-next.next 0) ≡ Some m) × (slice_get (writes_of c.args.self.now) m ≡ Some (k, c.args.reader.txn))) × PassesNone (λ k. WroteBefore c.args.self.now c.args.reader.txn k c.args.reader.place) c.args.lo c.args.hi (Some k))
found c = rw (c.rows-2.ensures, c.rows-3.ensures) (some c c.in_ok-next.next (rw (c.from-place.ensures, c.deref-3.ensures.value) at c.in_ok-next.ensures))

key : (c : After-rows-3) (m k : ℕ) → slice_get (writes_of c.args.self.now) m ≡ Some (k, c.args.reader.txn) → (row : Written) → row ≡ slice_index_or c.self.inside.versions.writes.items m row → (row.key < length c.self.inside.keys.keys.items) × (slice_index c.self.inside.keys.keys.items row.key ≡ k)
key c m k at row read =
    let are = subst (λ h. AreTables h c.self.inside.txns c.self.inside.keys c.self.inside.versions c.self.inside.writes) c.self.view_is c.self.invariant in
    let number = are.versions_are.writes_are.keys_are m row (slice_get_within (writes_of c.args.self.now) m (k, c.args.reader.txn) at) in
    subst (λ (r : Written). (r.key < length c.self.inside.keys.keys.items) × (slice_index c.self.inside.keys.keys.items r.key ≡ k)) (sym read)
    (number.0, number.1 ∙ ap (λ (x : ℕ × ℕ). x.0) (get_or_from_slice_get (writes_of c.args.self.now) m (k, c.args.reader.txn) (0, 0) at))

pub bounds-rows-rows : goal.bounds-rows-rows
bounds-rows-rows c = let (m, k, is) = found (goal.at.bounds-rows-rows c).After-rows-3 in slice_get_within _ _ m is.0.0

pub index-requires : goal.index-requires
index-requires c =
    let are = subst (λ h. AreTables h c.self.inside.txns c.self.inside.keys c.self.inside.versions c.self.inside.writes) c.self.view_is c.self.invariant in
    let (m, k, is) = found (goal.at.index-requires c).After-rows-3 in
    let same = get_or_from_slice_get c.rows-2.result.now (slice_index_or c.rows-3.result.now c.in_ok-next.next 0) m 0 is.0.0 in
    let inside = slice_get_within (writes_of c.args.self.now) m (k, c.args.reader.txn) is.0.1 in
    omega (arith, are.versions_are.writes_are.count, c.self.inside.versions.writes.ok)

-- its row
row_is : (c : After-rows-3) (row : Written) → row ≡ slice_index_or c.self.inside.versions.writes.items (slice_index_or c.rows-2.result.now (slice_index_or c.rows-3.result.now c.in_ok-next.next 0) 0) row → (row.key < length c.self.inside.keys.keys.items) × PassesNone (λ k. WroteBefore c.args.self.now c.args.reader.txn k c.args.reader.place) c.args.lo c.args.hi (Some (slice_index c.self.inside.keys.keys.items row.key))
row_is c row read =
    let (m, k, is) = found c in
    let same = get_or_from_slice_get c.rows-2.result.now (slice_index_or c.rows-3.result.now c.in_ok-next.next 0) m 0 is.0.0 in
    let (inside, name) = key c m k is.0.1 row (read ∙ ap (λ i. slice_index_or c.self.inside.versions.writes.items i row) same) in
    (inside, rw name is.1)

pub index-requires-2 : goal.index-requires-2
index-requires-2 c = let below = (row_is (goal.at.index-requires-2 c).After-rows-3 c.index.result.now c.index.ensures).0 in omega (arith, c.self.inside.keys.keys.ok)

pub returns : goal.returns
returns c =
    let (inside, passes) = row_is (goal.at.returns c).After-rows-3 c.index.result.now c.index.ensures in
    let name : c.index-2.result.now ≡ slice_index c.self.inside.keys.keys.items c.index.result.now.key = c.index-2.ensures ∙ get_or_default c.self.inside.keys.keys.items c.index.result.now.key c.index-2.result.now 0 inside in
    rw name passes
