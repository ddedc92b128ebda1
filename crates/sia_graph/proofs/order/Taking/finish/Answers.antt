use Rattle.std.proofs.Common.{◌≡◌, ◌≢◌, ◌<◌, ◌+◌, ℕ, suc, List, [], drop, inl, length, get_or, refl, ap, sym, subst, ◌∙◌, arith, Contains}
use Rattle.std.specs.List.{count_by, range_with_len}
use Rattle.std.proofs.lemmas.List.{drop_all, get_or_default, length-set}
use Rattle.std.specs.Vec.{with_item}
use Rattle.sia_graph.specs.declared.order.Taking.{Taking}
use Rattle.sia_graph.specs.UnderWay.{IsOneFewer, IsTaking, WaitsAt, none_pending, times}
use Rattle.sia_graph.proofs.Orders.Pending.{as_taking, one_more, one_more_is, row_fewer}
use Rattle.sia_graph.proofs.Orders.Woken.{fewer_wait, node_waits, none_wait, ready_woken, waited_before, waits_test, woken}
use Rattle.sia_graph.proofs.order.Taking.finish.Goals.{After-index-in-waiting}
use Rattle.sia_graph.proofs.order.Taking.finish.Goals as goal

-- what is still to be taken for the targets
abbrev to_take : After-index-in-waiting → ℕ → ℕ
to_take c t = times t (get_or c.args.graph.now.targets c.args.node [])

at_least_one : (a b : ℕ) → a ≡ suc b → 0 < a
at_least_one a b e = omega arith

-- what was read of the list of first ones, for any default
at_zero : (k : Taking) (at n : ℕ) → at < length k.first_waiting.items → n ≡ get_or k.first_waiting.items at n → n ≡ get_or k.first_waiting.items at 0
at_zero k at n l e = e ∙ get_or_default k.first_waiting.items at n 0 l

below : (c : After-index-in-waiting) → c.args.node < length c.waiting.self.counts.items
below c = let b = c.waiting.invariant.1 in let n = c.requires.node.0 in omega arith

first_is : (c : After-index-in-waiting) → c.index-in-waiting.result.now ≡ get_or c.waiting.self.first_waiting.items c.args.node 0
first_is c = at_zero c.waiting.self c.args.node c.index-in-waiting.result.now (let l = c.waiting.invariant.0.under_way.first_long in let b = below c in omega arith) c.index-in-waiting.ensures

some_waits : (c : After-index-in-waiting) → c.index-in-waiting.result.now ≢ 4294967295
some_waits c none = grind (arith, at_zero, below, first_is)

waits : (c : After-index-in-waiting) → WaitsAt c.args.graph.now.sources c.waiting.self.counts.items c.waiting.self.passed.items c.index-in-waiting.result.now c.args.node
waits c = node_waits c.args.graph.now c.args.done.now c.waiting.self (to_take c) c.args.node (below c) c.waiting.invariant.0 c.index-in-waiting.result.now (first_is c) (some_waits c)

-- what was read of its count, for any default
raised : (c : After-index-in-waiting) (m : ℕ) → m ≡ get_or c.waiting.self.counts.items c.index-in-waiting.result.now m → m + 1 ≡ get_or c.waiting.self.counts.items c.index-in-waiting.result.now 0 + 1
raised c m is = let read = is ∙ get_or_default c.waiting.self.counts.items c.index-in-waiting.result.now m 0 (waits c).0 in omega arith

-- the first that waits is held back once more, and the next one stands in its place
is_woken : (c : After-index-in-waiting) (m n : ℕ) → m ≡ get_or c.waiting.self.counts.items c.index-in-waiting.result.now m → n ≡ get_or c.waiting.self.next_waiting.items c.index-in-waiting.result.now n
    → IsTaking c.args.graph.now c.args.done.now (record (c.waiting.self) {
      counts = with_item c.waiting.self.counts c.index-in-waiting.result.now (m + 1);
      first_waiting = with_item c.waiting.self.first_waiting c.args.node n;
    }) (one_more c.index-in-waiting.result.now (to_take c)) c.args.node
is_woken c m n counted next =
    let g = c.args.graph.now in
    let done = c.args.done.now in
    let k = c.waiting.self in
    let is = c.waiting.invariant.0 in
    let first = c.index-in-waiting.result.now in
    let inside = (waits c).0 in
    let link = next ∙ get_or_default k.next_waiting.items first n 0 (omega arith) in
    let more = one_more first (to_take c) in
    record {
      under_way = woken g done k (to_take c) c.args.node (below c) is first (first_is c) (some_waits c) (m + 1) (raised c m counted) n link more (one_more_is first (to_take c));
      ready = ready_woken g done k (to_take c) c.args.node (below c) is first (first_is c) (some_waits c) (m + 1) (raised c m counted) n link more (one_more_is first (to_take c));
      before = is.before;
      within = let w = is.within in omega (arith, length-set k.counts.items first (m + 1));
    }

pub index-requires-in-waiting-2 : goal.index-requires-in-waiting-2
index-requires-in-waiting-2 c =
    omega (arith, (waits (goal.at.index-requires-in-waiting-2 c).After-index-in-waiting).0)

pub index_mut-requires-in-waiting : goal.index_mut-requires-in-waiting
index_mut-requires-in-waiting c =
    omega (arith, (waits (goal.at.index_mut-requires-in-waiting c).After-index-in-waiting).0)

pub overflow_add-index_mut : goal.overflow_add-index_mut
overflow_add-index_mut c =
    let before = (goal.at.overflow_add-index_mut c).After-index-in-waiting in
    omega (arith, (waits before).1, raised before c.index_mut-in-waiting.result.now c.index_mut-in-waiting.ensures.value)

pub release-requires-clause-node : goal.release-requires-clause-node
release-requires-clause-node c =
    let inside = (waits (goal.at.release-requires-clause-node c).After-index-in-waiting).0 in
    let long = length-set c.waiting.self.counts.items c.index-in-waiting.result.now (c.index_mut-in-waiting.result.now + 1) in
    (omega arith, omega arith)

pub release-requires-clause-is : goal.release-requires-clause-is
release-requires-clause-is c =
    let first = c.index-in-waiting.result.now in
    let before = (goal.at.release-requires-clause-is c).After-index-in-waiting in
    (one_more first (to_take before), c.args.node, is_woken before c.index_mut-in-waiting.result.now c.index-in-waiting-2.result.now c.index_mut-in-waiting.ensures.value c.index-in-waiting-2.ensures, at_least_one _ _ (one_more_is first (to_take before)).0)

pub waiting-smaller : goal.waiting-smaller
waiting-smaller c =
    let g = c.args.graph.now in
    let node = c.args.node in
    let k = c.waiting.self in
    let new = c.release.new.self in
    let first = c.index-in-waiting.result.now in
    let before = (goal.at.waiting-smaller c).After-index-in-waiting in
    let v = c.index_mut-in-waiting.result.now + 1 in
    subst (λ n. count_by (waits_test g.sources new.counts.items new.passed.items node) (range_with_len 0 n) < count_by (waits_test g.sources k.counts.items k.passed.items node) (range_with_len 0 (length k.counts.items)))
    (sym (c.in_ok-release.ensures.long ∙ length-set k.counts.items first v))
    (fewer_wait g.sources k.counts.items k.passed.items new.counts.items new.passed.items node first (length k.counts.items) (waits before).0 (waits before)
    (λ u w. waited_before g c.args.done.now k (to_take before) node (below before) c.waiting.invariant.0 first (first_is before) (some_waits before) v (raised before c.index_mut-in-waiting.result.now c.index_mut-in-waiting.ensures.value) u node
    (c.in_ok-release.ensures.others u node w c.requires.done).0))

pub waiting-preserved : goal.waiting-preserved
waiting-preserved c =
    let first = c.index-in-waiting.result.now in
    let before = (goal.at.waiting-preserved c).After-index-in-waiting in (
      c.in_ok-release.ensures.is (one_more first (to_take before)) (to_take before) c.args.node (is_woken before c.index_mut-in-waiting.result.now c.index-in-waiting-2.result.now c.index_mut-in-waiting.ensures.value c.index-in-waiting-2.ensures) (one_more_is first (to_take before)),
      c.in_ok-release.ensures.long ∙ length-set c.waiting.self.counts.items first (c.index_mut-in-waiting.result.now + 1) ∙ c.waiting.invariant.1,
    )

pub loop-target-init : goal.loop-target-init
loop-target-init c =
    let k = c.waiting.self in
    let inside : c.args.node < length k.counts.items = let b = c.waiting.invariant.1 in let n = c.requires.node.0 in omega arith in
    let none = at_zero k c.args.node c.index.result.now (let l = c.waiting.invariant.0.under_way.first_long in omega arith) c.index.ensures in
    (none_wait c.args.graph.now c.args.done.now k (λ t. times t (get_or c.args.graph.now.targets c.args.node [])) c.args.node inside c.waiting.invariant.0 (sym none ∙ c.waiting-test.false), refl)

-- the next target is one of those that are left of the row
next_fewer : (row items : List ℕ) (i : ℕ) → items ≡ row → i < length items → IsOneFewer (get_or items i 0) (λ t. times t (drop i row)) (λ t. times t (drop (i + 1) row))
next_fewer row items i e l = subst (λ r. IsOneFewer (get_or items i 0) (λ t. times t (drop i r)) (λ t. times t (drop (i + 1) r))) e (row_fewer items i 0 l)

pub release-requires-in-loop-target-clause-node : goal.release-requires-in-loop-target-clause-node
release-requires-in-loop-target-clause-node c =
    let items = c.at-target-items.result.now in
    let i = c.loop-target.target-index in
    let t = get_or items i 0 in
    let row : Contains (get_or c.args.graph.now.targets c.args.node []) t = subst (λ r. Contains r t) c.at-target-items.ensures (i, c.loop-target-test.true, get_or_default items i t 0 c.loop-target-test.true) in
    let l = (c.requires.graph.within c.args.node t (inl row)).1 in
    (omega arith, omega arith)

pub release-requires-in-loop-target-clause-is : goal.release-requires-in-loop-target-clause-is
release-requires-in-loop-target-clause-is c =
    let row = get_or c.args.graph.now.targets c.args.node [] in
    let i = c.loop-target.target-index in
    let fewer = next_fewer row c.at-target-items.result.now i c.at-target-items.ensures c.loop-target-test.true in
    ((λ t. times t (drop i row)), length c.loop-target.self.counts.items, c.loop-target.invariant.0, at_least_one _ _ fewer.0)

pub loop-target-preserved : goal.loop-target-preserved
loop-target-preserved c =
    let row = get_or c.args.graph.now.targets c.args.node [] in
    let i = c.loop-target.target-index in
    let fewer = next_fewer row c.at-target-items.result.now i c.at-target-items.ensures c.loop-target-test.true in
    let long = c.in_ok-release-2.ensures.long in (
      subst (λ n. IsTaking c.args.graph.now c.args.done.now c.release-in-loop-target.new.self (λ t. times t (drop (i + 1) row)) n) (sym long)
          (c.in_ok-release-2.ensures.is (λ t. times t (drop i row)) (λ t. times t (drop (i + 1) row)) (length c.loop-target.self.counts.items) c.loop-target.invariant.0 fewer),
      long ∙ c.loop-target.invariant.1,
    )

pub returns-clause-is : goal.returns-clause-is
returns-clause-is c =
    let row = get_or c.args.graph.now.targets c.args.node [] in
    let i = c.loop-target.target-index in
    let none : drop i row ≡ [] = drop_all i row (let a = c.loop-target-test.false in let e = ap (length {A = ℕ}) c.at-target-items.ensures in omega arith) in
    as_taking c.args.graph.now c.args.done.now c.loop-target.self (λ t. times t (drop i row)) none_pending (length c.loop-target.self.counts.items)
    (λ t l. ap (times t) none) c.loop-target.invariant.0
