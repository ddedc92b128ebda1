use Rattle.std.proofs.Common.{◌≡◌, ◌≢◌, ℕ, List, [], ◌∷◌, arith, get_or, refl, sym, subst}
use Rattle.sia_events.specs.Lists.{ListsAscending}
use Rattle.sia_events.specs.Transactions.{IsCommitted}
use Rattle.sia_graph.specs.Previous.{IsLeftIn}
use Rattle.sia_graph.specs.Walks.{AreLeastSources, AreLeft}
use Rattle.sia_events.proofs.Worked.OneList.{one_list_by}
use Rattle.sia_parts.proofs.CutKeys.StartLemmas.{increasing}
use Rattle.sia_graph.proofs.Cycles.Walks.{IsPrevious, least_source, previous_is, previous_more}
use Rattle.sia_parts.specs.Entries.{IsEdge}
use Rattle.sia_graph.specs.Cycles.{IsPrintedCycle}
use Rattle.sia_graph.specs.Orders.{IsLeastOrder}
use Rattle.sia_graph.specs.Taken.{AreLeftOver, IsTaken}
use Rattle.sia_graph.proofs.Shared.MemberSteps.{size_few}
use Rattle.sia_graph.proofs.Shared.StandIns.{of_history}
use Rattle.sia_graph.proofs.OnEvidence.TakenMembers.{taken_members}
use Rattle.sia_parts.proofs.EdgeRows.Readings.{few_txns}
use Rattle.sia_graph.proofs.judgement.settle_accesses.Goals.{In-Rest, In_ok-order, then-source, else-source}
use Rattle.sia_graph.proofs.judgement.settle_accesses.Goals as goal

pub take_nodes-requires-clause-few : goal.take_nodes-requires-clause-few
take_nodes-requires-clause-few c =
    let e = c.args.evidence.now in
    let size = size_few c.size_for-size.result e.index.now e.accesses.now c.requires.evidence.well_formed c.size_for-size.ensures in
    let txns = few_txns e.index.now c.requires.evidence.well_formed c.committed-txns.result.now c.committed-txns.ensures in
    omega arith

-- how taking the committed transactions ends
members : (c : In_ok-order) → IsTaken (IsCommitted c.args.evidence.now.index.now) (IsEdge c.args.evidence.now.index.now) c.committed-txns.result.now c.in_ok-order.field-0
members c =
    let h = c.args.evidence.now.index.now in
    let txns = c.committed-txns.result.now in
    taken_members (IsCommitted h) (IsEdge h) c.size_for-size.result txns c.in_ok-graph.graph
    (of_history h _ _ _ _ (c.in_ok-graph.ensures txns c.committed-txns.ensures).stands) c.in_ok-order.field-0 c.in_ok-order.ensures

pub returns-in-Whole : goal.returns-in-Whole
returns-in-Whole c =
    let h = c.args.evidence.now.index.now in
    let whole = subst (IsTaken (IsCommitted h) (IsEdge h) c.committed-txns.result.now) c.in-Whole.is (members (goal.at.returns-in-Whole c).In_ok-order) in
    subst (IsLeastOrder (IsCommitted h) (IsEdge h)) (sym c.new.ensures) whole

-- what is left is stuck
left_is : (c : In-Rest) → (txns : List ℕ) × ListsAscending (IsCommitted c.args.evidence.now.index.now) txns × AreLeftOver (IsCommitted c.args.evidence.now.index.now) (IsEdge c.args.evidence.now.index.now) txns c.in-Rest.left.items
left_is c =
    let h = c.args.evidence.now.index.now in
    let txns = c.committed-txns.result.now in (
      txns,
      c.committed-txns.ensures,
      subst (IsTaken (IsCommitted h) (IsEdge h) txns) c.in-Rest.is
          (taken_members (IsCommitted h) (IsEdge h) c.size_for-size.result txns c.in_ok-graph.graph
          (of_history h _ _ _ _ (c.in_ok-graph.ensures txns c.committed-txns.ensures).stands) c.in_ok-order.field-0 c.in_ok-order.ensures),
    )

pub overflow_cast-txn : goal.overflow_cast-txn
overflow_cast-txn c =
    let w = left_is (goal.at.overflow_cast-txn c).In-Rest in
    omega (arith, few_txns c.args.evidence.now.index.now c.requires.evidence.well_formed w.0 w.1)

pub least_source-source-requires-clause-me : goal.least_source-source-requires-clause-me
least_source-source-requires-clause-me c =
    let w = left_is (goal.at.least_source-source-requires-clause-me c).In-Rest in
    (get_or w.0 c.loop-txn.txn 0, (w.0, w.1, (let l = c.loop-txn-test.true in let long = w.2.long in omega arith), refl))

pub loop-txn-preserved : goal.loop-txn-preserved
loop-txn-preserved c =
    let h = c.args.evidence.now.index.now in
    let left = c.in-Rest.left.items in
    let w = left_is (goal.at.loop-txn-preserved c).In-Rest in
    let i = c.loop-txn.txn in
    let source = c.least_source-source.result in
    let place = c.if-source.push in
    let none : source ≡ 4294967295 → place ≡ i = λ e. elim c.if-source.branch [
      | then-source w ↦ w.push-is
      | else-source w ↦ absurd (w.if-source.false e)
    ] in
    let some : source ≢ 4294967295 → place ≡ source = λ n. elim c.if-source.branch [
      | then-source w ↦ absurd (n w.if-source.true)
      | else-source w ↦ w.push-is
    ] in
    previous_more (IsPrevious h left) c.loop-txn.previous.items c.push.new.self.items i place c.in_ok-push-in-Rest.ensures.items c.loop-txn.invariant.0 c.loop-txn.invariant.1
    (previous_is h w.0 w.1 left i (let l = c.loop-txn-test.true in let long = w.2.long in omega arith) c.requires.evidence.well_formed source place none some (c.least_source-source.ensures left (rw c.deref.ensures.value at c.in_ok-earlier-in-Rest.ensures)))

pub cycle_of-requires-clause-ascending : goal.cycle_of-requires-clause-ascending
cycle_of-requires-clause-ascending c = increasing c.committed-txns.result.now c.committed-txns.ensures.ascending

pub cycle_of-requires-clause-stuck : goal.cycle_of-requires-clause-stuck
cycle_of-requires-clause-stuck c =
    let w = left_is (goal.at.cycle_of-requires-clause-stuck c).In-Rest in
    let same = one_list_by (λ x. x ∷ []) (IsCommitted c.args.evidence.now.index.now) w.0 c.committed-txns.result.now w.1 c.committed-txns.ensures in
    rw c.deref-in-Rest.ensures.value (w.2.stuck, w.2.is_stuck, subst (λ (xs : List ℕ). AreLeft xs (IsLeftIn c.in-Rest.left.items) w.2.stuck) same w.2.each)

pub cycle_of-requires-clause-least : goal.cycle_of-requires-clause-least
cycle_of-requires-clause-least c =
    let h = c.args.evidence.now.index.now in
    let txns = c.committed-txns.result.now in
    let left = c.in-Rest.left.items in
    let w = left_is (goal.at.cycle_of-requires-clause-least c).In-Rest in
    rw c.deref-in-Rest.ensures.value (subst (AreLeastSources txns (IsEdge h) (IsLeftIn left)) (sym c.deref-in-Rest-2.ensures.value)
    (λ i below. least_source h txns c.committed-txns.ensures left i below (get_or c.loop-txn.previous.items i 0) (c.loop-txn.invariant.1 i (omega arith))))

pub cycle_of-requires-clause-some : goal.cycle_of-requires-clause-some
cycle_of-requires-clause-some c = rw c.deref-in-Rest.ensures.value (left_is (goal.at.cycle_of-requires-clause-some c).In-Rest).2.some

pub returns-in_ok-steps-in-Rest : goal.returns-in_ok-steps-in-Rest
returns-in_ok-steps-in-Rest c =
    let h = c.args.evidence.now.index.now in
    ((left_is (goal.at.returns-in_ok-steps-in-Rest c).In-Rest).2.none_keeps, subst (IsPrintedCycle (IsCommitted h) (IsEdge h)) (sym c.new-in-Rest.ensures) c.in_ok-steps-in-Rest.ensures)
