use Rattle.std.proofs.Common.{◌≡◌, inl, inr, ◌∙◌, ◌<◌, ◌+◌, ◌-◌, ◌∷◌, [], ℕ, Bool, List, Ok, get_or, length, refl, set, take, ap, subst, sym, arith, Contains}
use Rattle.std.proofs.lemmas.Bool.{cases_eq}
use Rattle.std.proofs.lemmas.Iterator.{YieldsList-from_range, items_from_collect}
use Rattle.std.proofs.lemmas.List.{get_or-set_same, get_or-set_other, length-set, take_all}
use Rattle.std.proofs.lemmas.List.FromFn.{get_or-range_with_len, length-range_with_len}
use Rattle.sia_graph.specs.Cycles.{IsPrintedCycle}
use Rattle.sia_graph.specs.Orders.{IsLeastOrder}
use Rattle.sia_graph.specs.Previous.{IsLeftIn}
use Rattle.sia_graph.specs.Walks.{AreLeastSources}
use Rattle.sia_graph.specs.Graphs.{IsGraph}
use Rattle.sia_graph.specs.Taken.{AreLeftOver, IsTaken}
use Rattle.sia_graph.proofs.Settling.EdgesListed.{AreLeastFrom, kept_back, least_found, led_back, list_taken, none_led, sources_rise}
use Rattle.sia_graph.proofs.listed_edges.settle.Goals.{In-Rest}
use Rattle.sia_graph.proofs.listed_edges.settle.Goals as goal
use Rattle.sia_graph.proofs.Orders.Told.{target_within}
use Rattle.sia_graph.proofs.Shared.Positions.{first_cases}

pub graph_of-requires-clause-sorted : goal.graph_of-requires-clause-sorted
graph_of-requires-clause-sorted c = sources_rise c.args.edges.now c.requires.sorted

pub take_nodes-requires-clause-graph : goal.take_nodes-requires-clause-graph
take_nodes-requires-clause-graph c = let e : length c.args.ids.now ≡ 0 + length c.args.ids.now = omega arith in subst (λ n. IsGraph n c.in_ok-graph.graph) e c.in_ok-graph.ensures.made.graph

pub returns-in-Whole : goal.returns-in-Whole
returns-in-Whole c =
    let ids = c.args.ids.now in
    let edges = c.args.edges.now in
    subst (IsLeastOrder (Contains ids) (Contains edges)) (sym c.new.ensures)
    (subst (IsTaken (Contains ids) (Contains edges) ids) c.in-Whole.is (list_taken ids c.requires.ids edges c.in_ok-graph.graph c.in_ok-graph.ensures.made c.requires.joins c.in_ok-order.field-0 c.in_ok-order.ensures))

-- those that are left
left_of : (c : In-Rest) → AreLeftOver (Contains c.args.ids.now) (Contains c.args.edges.now) c.args.ids.now c.in-Rest.left.items
left_of c =
    subst (IsTaken (Contains c.args.ids.now) (Contains c.args.edges.now) c.args.ids.now) c.in-Rest.is
    (list_taken c.args.ids.now c.requires.ids c.args.edges.now c.in_ok-graph.graph c.in_ok-graph.ensures.made c.requires.joins c.in_ok-order.field-0 c.in_ok-order.ensures)

left_long : (c : In-Rest) (slice : List Bool) → slice ≡ c.in-Rest.left.items → length slice ≡ length c.args.ids.now
left_long c slice is = ap (length {A = Bool}) is ∙ (left_of c).long

pub loop-source-init : goal.loop-source-init
loop-source-init c =
    let n = length c.as_slice-left.result.now in
    let items = items_from_collect {E = ℕ} (Ok c.in_ok-previous-in-Rest.previous) c.in_ok-previous-in-Rest.ensures.ran (YieldsList-from_range 0 n n refl (omega arith)) in
    none_led c.in_ok-graph.graph.targets c.as_slice-left.result.now c.in_ok-previous-in-Rest.previous.items (ap (length {A = ℕ}) items ∙ length-range_with_len 0 n)
    (λ i l. let at = ap (λ (xs : List ℕ). get_or xs i 0) items ∙ get_or-range_with_len 0 n i 0 l in omega arith)

pub index_mut-requires : goal.index_mut-requires
index_mut-requires c = grind (arith, left_long, target_within)

pub loop-target-preserved : goal.loop-target-preserved
loop-target-preserved c =
    let source = c.loop-source.source - 1 in
    let items = c.at-target-items.result.now in
    let i = c.loop-target.target-index in
    let at = get_or items i 0 in
    let l = c.loop-target-test.true in
    let previous = c.loop-target.previous.items in
    let a = target_within c.in_ok-graph.graph (length c.args.ids.now) source i c.in_ok-graph.ensures.made.graph items c.at-target-items.ensures l in
    let same = left_long (goal.at.loop-target-preserved c).In-Rest c.as_slice-left.result.now c.as_slice-left.ensures.value in
    let long : at < length previous = (let b = c.loop-target.invariant.0 in let d = c.loop-source.invariant.0 in omega arith) in (
      length-set previous at source ∙ c.loop-target.invariant.0,
      (λ t m. elim (cases_eq t at) [
        | inl e ↦ ap (λ k. get_or (set previous at source) k 0) e ∙ get_or-set_same previous at source 0 long
        | inr other ↦ get_or-set_other previous at t source 0 other ∙ (elim ((first_cases items i 0 t l).0 m) [ inl old ↦ c.loop-target.invariant.1 t old | inr e ↦ absurd (other (sym e)) ])
      ]),
      (λ t m. get_or-set_other previous at t source 0 (λ e. m (subst (λ k. Contains (take (i + 1) items) k) (sym e) ((first_cases items i 0 (get_or items i 0) l).1 (inr refl)))) ∙ c.loop-target.invariant.2 t (λ old. m ((first_cases items i 0 t l).1 (inl old)))),
    )

pub loop-source-preserved-in-loop-target : goal.loop-source-preserved-in-loop-target
loop-source-preserved-in-loop-target c =
    let source = c.loop-source.source - 1 in
    let g = c.in_ok-graph.graph in
    let items = c.at-target-items.result.now in
    let left = c.as_slice-left.result.now in
    let old = c.loop-source.previous.items in
    let back : source + 1 ≡ c.loop-source.source = (let b = c.loop-source-test.true in omega arith) in
    let all : take c.loop-target.target-index items ≡ (get_or g.targets source []) = take_all c.loop-target.target-index items c.loop-target-test.false ∙ c.at-target-items.ensures in
    led_back g.targets left source old c.loop-target.previous.items (let a = c.loop-source.auto.source in omega arith) c.if-left-source.true c.loop-target.invariant.0
    (subst (λ r. (t : ℕ) → Contains r t → get_or c.loop-target.previous.items t 0 ≡ source) all c.loop-target.invariant.1)
    (subst (λ r. (t : ℕ) → ¬ Contains r t → get_or c.loop-target.previous.items t 0 ≡ get_or old t 0) all c.loop-target.invariant.2)
    (subst (λ m. AreLeastFrom g.targets left m old) (sym back) c.loop-source.invariant)

pub loop-source-preserved : goal.loop-source-preserved
loop-source-preserved c =
    let source = c.loop-source.source - 1 in
    let back : source + 1 ≡ c.loop-source.source = (let b = c.loop-source-test.true in omega arith) in
    kept_back c.in_ok-graph.graph.targets c.as_slice-left.result.now source c.loop-source.previous.items (λ is. (let e = sym is ∙ c.if-left-source.false in cc))
    (subst (λ m. AreLeastFrom c.in_ok-graph.graph.targets c.as_slice-left.result.now m c.loop-source.previous.items) (sym back) c.loop-source.invariant)

pub cycle_of-requires-clause-some : goal.cycle_of-requires-clause-some
cycle_of-requires-clause-some c =
    rw c.as_slice-left.ensures.value (left_of (goal.at.cycle_of-requires-clause-some c).In-Rest).some

pub cycle_of-requires-clause-stuck : goal.cycle_of-requires-clause-stuck
cycle_of-requires-clause-stuck c =
    let left = left_of (goal.at.cycle_of-requires-clause-stuck c).In-Rest in
    (left.stuck, left.is_stuck, rw c.as_slice-left.ensures.value left.each)

pub cycle_of-requires-clause-least : goal.cycle_of-requires-clause-least
cycle_of-requires-clause-least c =
    let slice = c.as_slice-left.result.now in
    let same = left_long (goal.at.cycle_of-requires-clause-least c).In-Rest slice c.as_slice-left.ensures.value in
    let none : c.loop-source.source ≡ 0 = (let a = c.loop-source-test.false in omega arith) in
    subst (λ (l : List ℕ). AreLeastSources c.args.ids.now (Contains c.args.edges.now) (IsLeftIn slice) l) (sym c.deref.ensures.value)
    (least_found c.args.ids.now c.args.edges.now c.in_ok-graph.graph c.in_ok-graph.ensures.made slice same c.loop-source.previous.items
    (subst (λ m. AreLeastFrom c.in_ok-graph.graph.targets slice m c.loop-source.previous.items) none c.loop-source.invariant))

pub returns : goal.returns
returns c =
    ((left_of (goal.at.returns c).In-Rest).none_keeps, subst (IsPrintedCycle (Contains c.args.ids.now) (Contains c.args.edges.now)) (sym c.new-in-Rest.ensures) c.in_ok-cycle-in-Rest.ensures)
