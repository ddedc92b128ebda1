-- What stands at the point of the key's list.
use Rattle.std.proofs.Common.{◌≡◌, ◌≢◌, ◌<◌, ◌≤◌, ◌+◌, ℕ, Some, length, slice_get, [], refl, subst, sym, ap, arith, ◌∙◌}
use Rattle.std.specs.Prelude.{slice_index, slice_index_or, slice_range}
use Rattle.std.proofs.lemmas.Bool.{ltb-false, ltb-true}
use Rattle.std.proofs.lemmas.List.{get_or_default}
use Rattle.std.proofs.lemmas.List.Elements.{All-contains}
use Rattle.std.proofs.lemmas.Option.{slice_get-get_or}
use Rattle.sia_events.specs.Numbering.{writes_of}
use Rattle.sia_events.specs.Transactions.{Wrote}
use Rattle.sia_index.specs.Lists.{joined}
use Rattle.sia_index.specs.Tables.{AreTables}
use Rattle.sia_index.proofs.Shared.Ordered.{ascends, rises}
use Rattle.sia_index.proofs.Answering.OwnRows.{first_place, inside_all, none_at, own_listed, own_within, place_at, write_at_point}
use Rattle.sia_index.proofs.index.Index.first_write_at.Goals.{After-place_from-at}
use Rattle.sia_index.proofs.index.Index.first_write_at.Goals as goal

pub find-requires : goal.find-requires
find-requires c =
    let are = subst (λ h. AreTables h c.self.inside.txns c.self.inside.keys c.self.inside.versions c.self.inside.writes) c.self.view_is c.self.invariant in
    rw c.deref.ensures.value (ascends (λ (x : ℕ). x) _ _ are.keys_are.listed_are)

pub returns-in_err-find : goal.returns-in_err-find
returns-in_err-find c =
    let are = subst (λ h. AreTables h c.self.inside.txns c.self.inside.keys c.self.inside.versions c.self.inside.writes) c.self.view_is c.self.invariant in
    rw c.from_residual.ensures (λ wrote. All-contains (λ x. x ≢ c.args.k) _ _ (rw c.deref.ensures.value at c.in_err-find.ensures) ((are.keys_are.listed_are.each c.args.k).1 (c.args.t, wrote)) refl)

pub span-first-requires : goal.span-first-requires
span-first-requires c =
    let are = subst (λ h. AreTables h c.self.inside.txns c.self.inside.keys c.self.inside.versions c.self.inside.writes) c.self.view_is c.self.invariant in
    own_within c.args.self.now _ are.keys_are.listed_are _ are.writes_are _ _ c.requires

pub place_from-at-requires : goal.place_from-at-requires
place_from-at-requires c =
    let are = subst (λ h. AreTables h c.self.inside.txns c.self.inside.keys c.self.inside.versions c.self.inside.writes) c.self.view_is c.self.invariant in
    rw (c.rows.ensures, c.span-first.ensures.own) (rises (λ (q : ℕ). q) _ (ascends (λ (q : ℕ). q) _ _ (own_listed c.args.self.now _ are.keys_are.listed_are _ are.writes_are _ _ c.requires)))

-- what has no place in its key's list isn't written
none : (c : After-place_from-at) → ((d : ℕ) → c.place_from-at.result < length (slice_range c.rows.result.now c.span-first.result.0 c.span-first.result.1) → c.span-from.result.1 ≤ slice_index_or (slice_range c.rows.result.now c.span-first.result.0 c.span-first.result.1) c.place_from-at.result d) → ¬ Wrote c.args.self.now c.args.t c.args.k
none c past =
    let are = subst (λ h. AreTables h c.self.inside.txns c.self.inside.keys c.self.inside.versions c.self.inside.writes) c.self.view_is c.self.invariant in
    let found = rw c.deref.ensures.value at c.in_ok-find.ensures in
    subst (λ k. ¬ Wrote c.args.self.now c.args.t k) (found.1 0) (none_at c.args.self.now _ are.keys_are.listed_are _ are.writes_are _ _ c.requires c.in_ok-find.field-0 _ _ found.0 c.span-from.ensures.order c.span-from.ensures.bound c.span-from.ensures.own _ (rw (c.rows.ensures, c.span-first.ensures.own) at c.place_from-at.ensures.point) (rw (c.rows.ensures, c.span-first.ensures.own) at past))

pub returns-in_err-stands : goal.returns-in_err-stands
returns-in_err-stands c = rw c.from_residual-in_err-stands.ensures (none (goal.at.returns-in_err-stands c).After-place_from-at (λ d inside. let past = ltb-false _ _ (sym c.in_err-stands.ensures.lookup.0) in absurd (omega arith)))

pub returns-then-stands-to : goal.returns-then-stands-to
returns-then-stands-to c = none (goal.at.returns-then-stands-to c).After-place_from-at (λ d inside. let over = c.if-stands-to.true in let same = c.in_ok-stands.ensures.lookup.1 ∙ get_or_default (slice_range c.rows.result.now c.span-first.result.0 c.span-first.result.1) c.place_from-at.result c.in_ok-stands.field-0.now d inside in omega arith)

-- the write at the place is that of the key, and its place is that of its first event
pub returns : goal.returns
returns c =
    let h = c.args.self.now in
    let writes = c.self.inside.writes in
    let are = subst (λ h. AreTables h c.self.inside.txns c.self.inside.keys c.self.inside.versions c.self.inside.writes) c.self.view_is c.self.invariant in
    let found = rw c.deref.ensures.value at c.in_ok-find.ensures in
    let span = c.span-first.ensures in
    let at = c.place_from-at.result in
    let p = c.in_ok-stands.field-0.now in
    let m = slice_index (joined writes.by_key) p in
    let below = c.if-stands-to.false in
    let bound = c.span-from.ensures.bound in
    let inside = rw (c.rows.ensures, span.own) at (ltb-true _ _ (sym c.in_ok-stands.ensures.lookup.0)) in
    let read = rw (c.rows.ensures, span.own) at c.in_ok-stands.ensures.lookup.1 in
    let write : slice_get (writes_of h) m ≡ Some (c.args.k, c.args.t) = subst (λ k. slice_get (writes_of h) m ≡ Some (k, c.args.t)) (found.1 0)
    (write_at_point h _ are.keys_are.listed_are _ are.writes_are _ _ c.requires c.in_ok-find.field-0 _ _ found.0 c.span-from.ensures.order bound c.span-from.ensures.own _ (rw (c.rows.ensures, span.own) at c.place_from-at.ensures.point)
    p m inside read (omega arith) (get_or_default (joined writes.by_key) p 0 m (omega arith))) in
    let stands : slice_get (joined writes.by_key) (slice_index_or (slice_index_or writes.by_txn c.args.txn []) at 0) ≡ Some m =
    ap (slice_get (joined writes.by_key)) (sym (read ∙ get_or_default _ at p 0 inside)) ∙ slice_get-get_or (joined writes.by_key) p 0 (omega arith) in
    let place = place_at h _ are.keys_are.listed_are _ are.writes_are _ _ c.requires c.span-first.result.0 c.span-first.result.1 span.order span.bound span.own at 0 m c.args.k inside (stands, write) in
    let within = inside_all h _ are.keys_are.listed_are _ are.writes_are _ _ c.requires c.span-first.result.0 c.span-first.result.1 span.order span.bound span.own at inside in
    let is : c.index.result.now ≡ slice_index writes.own_places.items (c.span-first.result.0 + at) = c.index.ensures ∙ get_or_default writes.own_places.items (c.span-first.result.0 + at) c.index.result.now 0 (omega (arith, are.writes_are.own_places.0)) in
    rw (is ∙ place) (first_place h _ are.keys_are.listed_are _ are.writes_are _ _ c.requires m c.args.k write)
