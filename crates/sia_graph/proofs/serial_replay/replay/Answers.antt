-- First one transaction more is taken out of the map each time.
use Rattle.std.proofs.Common.{◌≡◌, ◌+◌, ◌∙◌, [], ℕ, Bool, List, None, Some, arith, btree_map_len, drop, false, refl, sym, subst, true, ◌↔◌, IsTrue}
use Rattle.std.proofs.lemmas.Bool.{false≢true}
use Rattle.sia_events.specs.declared.event.Event.{Event}
use Rattle.sia_events.specs.Replay.{IsOrder, serial}
use Rattle.std.proofs.lemmas.List.{drop_all}
use Rattle.sia_graph.specs.Replaying.{Tells, version_in}
use Rattle.sia_graph.proofs.ReplayedTxns.MapSteps.{all_taken, none_of, not_taken, some_of, taken_more}
use Rattle.sia_graph.proofs.ReplayedTxns.Replayed.{serial_at, told_serial}
use Rattle.sia_graph.proofs.serial_replay.replay.Goals.{After-is_empty}
use Rattle.sia_graph.proofs.serial_replay.replay.Goals as goal

pub returns-then-is_none-clause-not_an_order : goal.returns-then-is_none-clause-not_an_order
returns-then-is_none-clause-not_an_order c =
    let none = none_of c.remove.result c.if-is_none.ensures in
    λ _ is. not_taken c.args.h.now c.args.order.now c.loop-txn.left c.loop-txn.txn-index c.loop-txn-test.true c.loop-txn.invariant (sym c.remove.ensures.value ∙ none) is

pub loop-txn-preserved : goal.loop-txn-preserved
loop-txn-preserved c =
    let some = some_of c.remove.result c.if-is_none.ensures in
    taken_more c.args.h.now c.args.order.now c.loop-txn.left c.remove.new.self c.loop-txn.txn-index some.0 c.loop-txn.invariant (sym c.remove.ensures.value ∙ some.1) c.remove.ensures.updates

checked : (c : After-is_empty) (r : Bool) → (IsTrue r ↔ (btree_map_len c.loop-txn.left ≡ 0)) → IsTrue r ↔ IsOrder c.args.h.now c.args.order.now
checked c r =
    all_taken c.args.h.now c.args.order.now c.loop-txn.left c.loop-txn.txn-index r
    (let a = c.loop-txn-test.false in let b = c.loop-txn.auto.txn-index-end in omega arith) c.loop-txn.invariant

pub returns-then-not-is_empty-clause-not_an_order : goal.returns-then-not-is_empty-clause-not_an_order
returns-then-not-is_empty-clause-not_an_order c = λ _ is. false≢true ((checked (goal.at.returns-then-not-is_empty-clause-not_an_order c).After-is_empty false c.if-not-is_empty.ensures).1 is)

pub returns-in-Some-clause-order : goal.returns-in-Some-clause-order
returns-in-Some-clause-order c = (checked (goal.at.returns-in-Some-clause-order c).After-is_empty true c.if-not-is_empty.ensures).0 refl

pub returns-clause-order : goal.returns-clause-order
returns-clause-order c = (checked (goal.at.returns-clause-order c).After-is_empty true c.if-not-is_empty.ensures).0 refl

pub returns-in-Some-clause-replays : goal.returns-in-Some-clause-replays
returns-in-Some-clause-replays c =
    let h = c.args.h.now in
    let order = c.args.order.now in
    let i = c.loop-txn-2.txn-index in
    let m = c.in-Some.mismatch in
    told_serial h order (Some m)
    (c.loop-txn-2.invariant.1 (Some m)
    (subst (λ (l : List (ℕ × Event)). Tells h (version_in c.loop-txn-2.versions) l (Some m)) (sym (serial_at h order i 0 c.loop-txn-2-test.true))
    (c.in_ok-mismatch.ensures.wrong m c.in-Some.is (serial h (drop (i + 1) order)))))

pub loop-txn-2-preserved : goal.loop-txn-2-preserved
loop-txn-2-preserved c = grind (arith, serial_at)

pub returns-clause-replays : goal.returns-clause-replays
returns-clause-replays c =
    let h = c.args.h.now in
    let order = c.args.order.now in
    let none : drop c.loop-txn-2.txn-index order ≡ [] = drop_all c.loop-txn-2.txn-index order c.loop-txn-2-test.false in
    told_serial h order None (c.loop-txn-2.invariant.1 None (subst (λ (l : List ℕ). Tells h (version_in c.loop-txn-2.versions) (serial h l) None) (sym none) tt))
