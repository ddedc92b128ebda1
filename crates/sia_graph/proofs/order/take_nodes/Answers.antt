use Rattle.std.proofs.Common.{◌≡◌, ◌≢◌, ◌+◌, ◌-◌, ◌*◌, ◌<◌, ◌≤◌, ◌∷◌, ◌++◌, ℕ, [], Bool, true, false, not, cond, Ok, Vec, Global, List, drop, get_or, length, map, replicate, set, ap, sym, subst, ◌∙◌, arith, rules, tests, ◌↔◌, Contains, MatchBool}
use Rattle.std.specs.List.{AllWithin, HoldsAt, range_with_len}
use Rattle.std.proofs.lemmas.Bool.{cases_lt, le-ltb, lt-ltb}
use Rattle.std.proofs.lemmas.Iterator.{YieldsList-from_map, YieldsList-from_slice, cases_from_all, items_from_collect}
use Rattle.std.proofs.lemmas.Iterator.Consumers.{YieldsList-at}
use Rattle.std.proofs.lemmas.List.{get_or-drop, get_or-map, get_or-replicate, get_or-set_same, get_or_past, length-drop, length-map, length-replicate, take_all}
use Rattle.sia_graph.specs.UnderWay.{IsBehind, IsDone, IsLastFront, IsReadyIn, IsTaking, none_pending, times}
use Rattle.sia_graph.specs.declared.order.Taking.{Taking}
use Rattle.sia_graph.specs.NarrowSteps.{name_of}
use Rattle.sia_graph.proofs.Orders.DoneNodes.{done_ready, done_under_way}
use Rattle.sia_graph.proofs.Orders.Pending.{as_taking, first_fewer, not_yet, block_more, member_more}
use Rattle.sia_graph.proofs.Orders.StuckNodes.{left_nodes, whole_order}
use Rattle.sia_graph.proofs.Orders.TakenFronts.{fewer_left, front_taken, last_front, no_front, ready_left, ready_within}
use Rattle.sia_graph.proofs.order.take_nodes.Goals.{After-all, In-Some, In_default, then-node-floor+in_ok-push, else-node-floor}
use Rattle.sia_graph.proofs.order.take_nodes.Goals as goal

abbrev many : ℕ → List ℕ → ℕ
many size txns = 2 * size + length txns

pub loop-node-init : goal.loop-node-init
loop-node-init c =
    let n = many c.args.size c.args.txns.now in
    let done = c.in_ok-done.ensures.items_if_clones_equal (λ y k. search rules) in
    let none : (s : ℕ) → get_or c.in_ok-done.done.items s false ≡ false = λ s. ap (λ xs. get_or xs s false) done ∙ grind (arith, cases_lt, get_or-replicate, get_or_past, replicate, length-replicate) in
    let long = ap (length {A = Bool}) done ∙ length-replicate n false in (
      as_taking c.args.graph.now c.in_ok-done.done.items c.in_ok-taking.taking (λ t. 1) (not_yet 0) n (λ t l. sym (ap (λ b. cond b 0 1) (le-ltb t 0 (omega arith))))
          (c.in_ok-taking.ensures.is c.in_ok-done.done.items long (λ s d. let e = sym d ∙ none s in cc)),
      c.in_ok-taking.ensures.long,
      none,
    )

pub loop-node-preserved : goal.loop-node-preserved
loop-node-preserved c =
    let same = c.deref.ensures.value in
    let is = subst (λ d. IsTaking c.args.graph.now d c.loop-node.taking (not_yet c.loop-node.node) (many c.args.size c.args.txns.now)) (sym same) c.loop-node.invariant.0 in (
      subst (λ d. IsTaking c.args.graph.now d c.release.new.self (not_yet (c.loop-node.node + 1)) (many c.args.size c.args.txns.now)) same
          (c.in_ok-release.ensures.is (not_yet c.loop-node.node) (not_yet (c.loop-node.node + 1)) (many c.args.size c.args.txns.now) is (first_fewer c.loop-node.node)),
      c.in_ok-release.ensures.long ∙ c.loop-node.invariant.1,
      c.loop-node.invariant.2,
    )

pub loop-node-2-init : goal.loop-node-2-init
loop-node-2-init c =
    let is = c.loop-node.invariant in (
      as_taking c.args.graph.now c.in_ok-done.done.items c.loop-node.taking (not_yet c.loop-node.node) none_pending (many c.args.size c.args.txns.now)
          (λ t l. ap (λ b. cond b 0 1) (lt-ltb t c.loop-node.node (let e = is.1 in omega arith))) is.0,
      is.1,
      [],
      no_front (many c.args.size c.args.txns.now) c.args.graph.now c.in_ok-done.done.items (is.0.under_way.done_long ∙ is.1) is.2,
      c.in_ok-order.ensures.items,
    )

within : (c : In-Some) → c.in-Some.node < (many c.args.size c.args.txns.now)
within c =
    let is = c.loop-node-2.invariant in
    ready_within (many c.args.size c.args.txns.now) c.args.graph.now c.requires.graph c.loop-node-2.done.items c.loop-node-2.taking is.1 is.0 is.2 is.3 c.in-Some.node c.in-Some.ensures.member

left : (c : In-Some) → (get_or c.loop-node-2.taking.counts.items c.in-Some.node 0 ≡ 0) × ¬ IsDone c.loop-node-2.done.items c.in-Some.node
left c = grind (arith, ready_left, within)

pub index_mut-requires : goal.index_mut-requires
index_mut-requires c = let l = within (goal.at.index_mut-requires c).In-Some in let e = c.loop-node-2.invariant.3.done_long in let ok = c.loop-node-2.done.ok.0 in omega arith

pub finish-requires-clause-node : goal.finish-requires-clause-node
finish-requires-clause-node c =
    let l = within (goal.at.finish-requires-clause-node c).In-Some in
    let e = ap (λ (k : Taking). length k.counts.items) c.in-Some.ensures.same in
    (omega arith, omega arith)

pub finish-requires-clause-done : goal.finish-requires-clause-done
finish-requires-clause-done c =
    let l = within (goal.at.finish-requires-clause-done c).In-Some in
    ap (λ d. get_or d c.in-Some.node false) c.deref-in-Some.ensures.value ∙ get_or-set_same c.loop-node-2.done.items c.in-Some.node true false (omega arith)

pub finish-requires-clause-is : goal.finish-requires-clause-is
finish-requires-clause-is c =
    let before = (goal.at.finish-requires-clause-is c).In-Some in
    let is = c.loop-node-2.invariant in
    let g = c.args.graph.now in
    let done = c.loop-node-2.done.items in
    let k = c.loop-node-2.taking in
    let t = c.in-Some.node in
    let free = left before in
    let new = c.take.new.self in
    let popped = c.in-Some.ensures in
    subst (λ d. IsTaking g d new (λ u. times u (get_or g.targets t [])) t) (sym c.deref-in-Some.ensures.value)
    (subst (λ k. IsTaking g (set done t true) k (λ u. times u (get_or g.targets t [])) t) (sym popped.same) (record {
      under_way = done_under_way (many c.args.size c.args.txns.now) g c.requires.graph done k is.1 is.0 t (within before) free.0 free.1;
      ready = done_ready (many c.args.size c.args.txns.now) g c.requires.graph done k is.1 is.0 t (within before) free.0 free.1 (IsBehind new) new.end
          (subst (λ (x : Taking). (u : ℕ) → IsReadyIn x u ↔ (IsReadyIn k u × (t ≢ u))) popped.same popped.taken);
      before = popped.behind.0;
      within = subst (λ (x : Taking). x.end ≤ length x.counts.items) popped.same popped.behind.1;
    }))

pub loop-node-2-smaller : goal.loop-node-2-smaller
loop-node-2-smaller c =
    let before = (goal.at.loop-node-2-smaller c).In-Some in
    fewer_left c.loop-node-2.done.items c.in-Some.node (omega (arith, within before)) (left before).1

pub loop-node-2-preserved : goal.loop-node-2-preserved
loop-node-2-preserved c =
    let is = c.loop-node-2.invariant in
    let n = many c.args.size c.args.txns.now in
    let g = c.args.graph.now in
    let done = c.loop-node-2.done.items in
    let k = c.loop-node-2.taking in
    let t = c.in-Some.node in
    let name = name_of c.args.size c.args.txns.now in
    let items = λ (v : Vec ℕ Global). v.items in
    let long = c.in_ok-finish.ensures.long ∙ ap (λ (k : Taking). length k.counts.items) c.in-Some.ensures.same ∙ is.1 in (
      subst (λ m. IsTaking g (set done t true) c.finish.new.self none_pending m) long
          (subst (λ d. IsTaking g d c.finish.new.self none_pending (length c.finish.new.self.counts.items)) c.deref-in-Some.ensures.value c.in_ok-finish.ensures.is),
      long,
      is.2 ++ t ∷ [],
      front_taken n g c.requires.graph done k is.1 is.0 is.2 is.3 t (within (goal.at.loop-node-2-preserved c).In-Some) c.in-Some.ensures.member c.in-Some.ensures.least,
      elim c.if-node-floor.branch [
        | then-node-floor+in_ok-push w ↦
            ap items w.order-is ∙ member_more (2 * c.args.size) name is.2 t c.loop-node-2.order.items is.4 w.if-node-floor.true _ w.in_ok-push.ensures.items
        | else-node-floor w ↦ ap items w.order-is ∙ block_more (2 * c.args.size) name is.2 t c.loop-node-2.order.items is.4 w.if-node-floor.false
      ],
    )

-- those that were taken, where none is ready any more
last : (c : In_default) → IsLastFront (Contains (range_with_len 0 (many c.args.size c.args.txns.now))) c.args.graph.now c.loop-node-2.done.items c.loop-node-2.invariant.2
last c =
    let is = c.loop-node-2.invariant in
    last_front (many c.args.size c.args.txns.now) c.args.graph.now c.requires.graph c.loop-node-2.done.items c.loop-node-2.taking is.1 is.0 is.2 is.3
    c.in_default.ensures

-- whether all are done, or one isn't
abbrev AreAll : List Bool → Bool → Type 0
AreAll done r = MatchBool r (AllWithin (λ d. d ≡ true) done 0 (length done)) ((k : ℕ) × (k < length done) × HoldsAt (λ d. d ≡ false) done k)

cases : (c : After-all) → AreAll c.deref-2.result.now c.all.result
cases c = cases_from_all _ _ _ (λ d. d ≡ true) (λ d. d ≡ false) c.all.ensures.ran (YieldsList-from_slice _ c.iter.ensures.rest) (λ x q k. search (rules, tests)) (λ x q k. search (rules, tests))

pub offset_bounds-txns-node : goal.offset_bounds-txns-node
offset_bounds-txns-node c =
    omega (arith, within (goal.at.offset_bounds-txns-node c).In-Some)

pub bounds-txns-node : goal.bounds-txns-node
bounds-txns-node c =
    omega (arith, within (goal.at.bounds-txns-node c).In-Some)

pub returns-then-all : goal.returns-then-all
returns-then-all c =
    let n = 2 * c.args.size + length c.args.txns.now in
    let order = c.loop-node-2.invariant.2 in
    let done = c.loop-node-2.done.items in
    let all = subst (AreAll done) c.if-all.true (subst (λ l. AreAll l c.all.result) c.deref-2.ensures.value (cases (goal.at.returns-then-all c).After-all)) in (
      order,
      whole_order n c.args.graph.now c.requires.graph done order (last (goal.at.returns-then-all c).In_default) (λ t l. all t false (omega arith) (let e = c.loop-node-2.invariant.3.done_long in omega arith)),
      c.loop-node-2.invariant.4,
    )

pub returns : goal.returns
returns c =
    let floor = 2 * c.args.size in
    let done = c.loop-node-2.done.items in
    let some = subst (AreAll done) c.if-all.false (subst (λ l. AreAll l c.all.result) c.deref-2.ensures.value (cases (goal.at.returns c).After-all)) in
    let rest = drop floor done in
    let many : length rest ≡ length c.args.txns.now = (let a = length-drop floor done in omega arith) in
    let cut : c.iter-2.result.rest.now ≡ rest =
    c.iter-2.ensures.rest ∙ take_all (length c.deref-3.result.now - floor) (drop floor c.deref-3.result.now) (let a = length-drop floor c.deref-3.result.now in omega arith)
    ∙ ap (λ (l : List Bool). drop floor l) c.deref-3.ensures.value in
    let items : c.in_ok-collect.field-0.items ≡ map not rest =
    items_from_collect {E = Bool} (Ok c.in_ok-collect.field-0) c.in_ok-collect.ensures.ran
    (YieldsList-from_map _ not (YieldsList-at c.map.ensures.source (YieldsList-from_slice rest cut)) c.map.ensures.closure (λ x r q k. search (rules, tests))) in
    left_nodes c.args.size c.args.txns.now c.args.graph.now c.requires.graph done c.loop-node-2.invariant.2 (last (goal.at.returns c).In_default) c.in_ok-collect.field-0.items
    (ap (length {A = Bool}) items ∙ length-map rest not ∙ many)
    (λ i l. ap (λ xs. get_or xs i false) items ∙ get_or-map not rest i false false (omega arith) ∙ ap not (get_or-drop floor done i false))
    (some.0, (let l = some.1 in omega arith), some.2 false)
