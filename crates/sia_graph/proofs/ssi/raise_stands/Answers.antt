use Rattle.std.proofs.Common.{◌≡◌, List, ℕ, [], ◌+◌, ◌<◌, arith, get_or, length, subst, sym, Contains}
use Rattle.std.proofs.lemmas.List.Elements.{Contains-get_or}
use Rattle.sia_events.specs.declared.event.Event.{Event}
use Rattle.sia_index.specs.Positions.{ArePositions, HasPosition}
use Rattle.sia_graph.specs.Late.{IsRaised, StandsAt}
use Rattle.sia_graph.proofs.Shared.AccessLists.{saw_is, saw_position}
use Rattle.sia_graph.proofs.Shared.EarlierSources.{positions_below}
use Rattle.sia_graph.proofs.SsiTest.Stands.{IsOwnFirst, IsSeenFirst, own_all, own_more, seen_all, seen_more, stands_there}
use Rattle.sia_graph.proofs.ssi.raise_stands.Goals.{After-at-position-items, After-first_position}
use Rattle.sia_graph.proofs.ssi.raise_stands.Goals as goal

-- where one stands is a place of the table
within : (h : List Event) (i p e : ℕ) (old table : List ℕ) → ArePositions h (length old) → length table ≡ length old → HasPosition h p → StandsAt h i p e → e < length table
within h i p e old table positions long has stands = let l = positions_below h (length old) e positions (stands_there h i p e has stands) in omega arith

seen_there : (c : After-at-position-items) (n : ℕ) → n < length c.at-position-items.result.now → HasPosition c.args.evidence.now.index.now (get_or c.at-position-items.result.now n 0)
seen_there c n inside =
    let e = c.args.evidence.now in
    let saw = c.at-position-items.result.now in
    let q = get_or saw n 0 in
    saw_position e.index.now e.accesses.now c.requires.evidence.accesses c.args.txn c.requires.txn.0 c.requires.txn.1 q
    ((saw_is e.index.now e.accesses.now c.requires.evidence.accesses c.args.txn c.requires.txn.0 c.requires.txn.1 q).0
    (subst (λ (l : List ℕ). Contains l q) c.at-position-items.ensures (Contains-get_or saw n 0 inside)))

pub stand_of-requires : goal.stand_of-requires
stand_of-requires c = seen_there (goal.at.stand_of-requires c).After-at-position-items c.loop-position.position-index c.loop-position-test.true

pub raise-requires : goal.raise-requires
raise-requires c =
    within c.args.evidence.now.index.now c.args.txn (get_or c.at-position-items.result.now c.loop-position.position-index 0) c.stand_of.result c.args.table.now c.loop-position.table c.requires.table c.loop-position.invariant.long
    (seen_there (goal.at.raise-requires c).After-at-position-items c.loop-position.position-index c.loop-position-test.true) c.stand_of.ensures

pub loop-position-preserved : goal.loop-position-preserved
loop-position-preserved c =
    let h = c.args.evidence.now.index.now in
    let saw = c.at-position-items.result.now in
    let n = c.loop-position.position-index in
    let inside = within h c.args.txn (get_or saw n 0) c.stand_of.result c.args.table.now c.loop-position.table c.requires.table c.loop-position.invariant.long
    (seen_there (goal.at.loop-position-preserved c).After-at-position-items n c.loop-position-test.true) c.stand_of.ensures in
    subst (λ (l : List ℕ). IsRaised h c.args.txn (IsSeenFirst h c.args.txn saw (n + 1)) c.args.table.now l c.args.to) (sym c.raise.ensures)
    (seen_more h c.args.txn saw n 0 c.args.table.now c.loop-position.table c.args.to c.stand_of.result c.loop-position-test.true c.loop-position.invariant inside c.stand_of.ensures)

pub loop-key-init : goal.loop-key-init
loop-key-init c =
    let e = c.args.evidence.now in
    subst (λ (l : List ℕ). IsRaised e.index.now c.args.txn (IsOwnFirst e.index.now c.args.txn l c.args.own.now 0) c.args.table.now c.loop-position.table c.args.to) c.at-position-items.ensures
    (seen_all e.index.now c.args.txn c.at-position-items.result.now c.args.own.now c.loop-position.position-index c.args.table.now c.loop-position.table c.args.to (let l = c.loop-position-test.false in omega arith) c.loop-position.invariant)

pub first_position-requires : goal.first_position-requires
first_position-requires c =
    let own = c.args.own.now in
    let n = c.loop-key.key-index in
    let w = ((c.requires.own (get_or own n 0)).0 (Contains-get_or own n 0 c.loop-key-test.true)).1.2 in
    (w.0, w.1, w.2)

first_inside : (c : After-first_position) (e : ℕ) → StandsAt c.args.evidence.now.index.now c.args.txn c.first_position.result e → e < length c.loop-key.table
first_inside c e stands =
    let w = c.first_position.ensures in
    within c.args.evidence.now.index.now c.args.txn c.first_position.result e c.args.table.now c.loop-key.table c.requires.table c.loop-key.invariant.long (w.0, w.1) stands

pub raise-requires-in-loop-key : goal.raise-requires-in-loop-key
raise-requires-in-loop-key c = first_inside (goal.at.raise-requires-in-loop-key c).After-first_position c.stand_of-in-loop-key.result c.stand_of-in-loop-key.ensures

pub loop-key-preserved : goal.loop-key-preserved
loop-key-preserved c =
    let e = c.args.evidence.now in
    let h = e.index.now in
    let saw = get_or e.accesses.now.saw c.args.txn [] in
    let own = c.args.own.now in
    let n = c.loop-key.key-index in
    let w = c.first_position.ensures in
    let stand = c.stand_of-in-loop-key in
    subst (λ (l : List ℕ). IsRaised h c.args.txn (IsOwnFirst h c.args.txn saw own (n + 1)) c.args.table.now l c.args.to) (sym c.raise-in-loop-key.ensures)
    (own_more h c.args.txn saw own n 0 c.args.table.now c.loop-key.table c.args.to c.first_position.result stand.result w.0 c.loop-key-test.true
    c.loop-key.invariant (first_inside (goal.at.loop-key-preserved c).After-first_position stand.result stand.ensures) w.1 w.2 w.3 stand.ensures)

pub returns : goal.returns
returns c =
    let e = c.args.evidence.now in
    own_all e.index.now c.args.txn e.accesses.now (get_or e.accesses.now.saw c.args.txn []) c.args.own.now c.loop-key.key-index c.args.table.now c.loop-key.table c.args.to (let l = c.loop-key-test.false in omega arith)
    (saw_is e.index.now e.accesses.now c.requires.evidence.accesses c.args.txn c.requires.txn.0 c.requires.txn.1) c.requires.own c.loop-key.invariant
