use Rattle.std.proofs.Common.{◌≡◌, ◌+◌, ◌-◌, ◌<◌, ◌≤◌, ℕ, [], Bool, List, Option, Result, Some, length, get_or, set, inl, inr, ◌⊎◌, ap, refl, sym, subst, ◌∙◌, arith, heap_items, ◌↔◌}
use Rattle.std.specs.List.Sorted.{IsStrictlyIncreasing}
use Rattle.std.specs.Result.{OkIff, result_ok}
use Rattle.std.proofs.lemmas.Bool.{cases_eq, cases_lt}
use Rattle.std.proofs.lemmas.List.{get_or-set_same, get_or-set_other, get_or_default, length-set}
use Rattle.std.proofs.lemmas.Option.{same_Some, slice_get-get_or}
use Rattle.sia_graph.specs.UnderWay.{HasReady, IsBehind, IsDone, IsOneFewer, IsReadyAt, IsTaking, IsUnderWay, held}
use Rattle.sia_graph.proofs.Orders.Released.{many, others_waited, ready_free, ready_held, sources_within, under_way_free, under_way_held, under_way_waiting}
use Rattle.sia_graph.proofs.Orders.ReadySets.{ascends_more, one, others_more, put_before, put_noted, read_at, run_more}
use Rattle.sia_graph.proofs.order.Taking.release.Goals.{Else-place-sources, Then-place-sources, then-loop-place-test+else-done-sources, else-loop-place-test}
use Rattle.sia_graph.proofs.order.Taking.release.Goals as goal

pub returns-then-index-gt1-clause-is : goal.returns-then-index-gt1-clause-is
returns-then-index-gt1-clause-is c pending less waking is fewer =
    let k = c.args.self.now in
    let node = c.args.node in
    let below = c.requires.node.0 in
    let v = c.index_mut.result.now - 1 in
    let old = c.index_mut.ensures.value ∙ get_or_default k.counts.items node c.index_mut.result.now 0 below in
    let long = length-set k.counts.items node v in
    let same = get_or-set_same k.counts.items node v c.index.result.now below in
    record {
      under_way = under_way_held c.args.graph.now c.args.done.now k node below v c.index_mut.result.now old refl pending less waking is fewer (omega arith);
      ready = ready_held c.args.graph.now c.args.done.now k node below v c.index_mut.result.now old refl pending less waking is fewer;
      before = is.before;
      within = let e = is.within in omega arith;
    }

-- the place of the first source that isn't done
abbrev IsFirst : List Bool → ℕ → ℕ → List ℕ → Type 0
IsFirst done p from row = (from ≤ p) × (p < length row) × (¬ IsDone done (get_or row p 0)) × ((i : ℕ) → from ≤ i → i < p → IsDone done (get_or row i 0))

first_left : (c : Then-place-sources) → IsFirst c.args.done.now c.loop-place.place c.index-2.result.now c.at-sources.result.now
first_left c = grind (arith, then-loop-place-test+else-done-sources, else-loop-place-test)

pub bounds-done-sources : goal.bounds-done-sources
bounds-done-sources c = grind (arith, sources_within)

pub index-requires-then-place-sources : goal.index-requires-then-place-sources
index-requires-then-place-sources c = grind (arith, sources_within)

pub index_mut-requires-then-place-sources-3 : goal.index_mut-requires-then-place-sources-3
index_mut-requires-then-place-sources-3 c = grind (arith, sources_within)

-- what is known of a row and a place from which it was looked at, of an equal row and an equal place
elsewhere : (P : ℕ → List ℕ → Type 0) (from n : ℕ) (row other : List ℕ) → from ≡ n → row ≡ other → P from row → P n other
elsewhere P from n row other e f p = subst (λ r. P n r) f (subst (λ k. P k row) e p)

-- the place that is kept
same_place : {E : Type 0} (r : Result ℕ E) (o : Option ℕ) (x place : ℕ) → OkIff r (place < 4294967296) place → o ≡ result_ok r → o ≡ Some x → x ≡ place
same_place r o x place p q s = grind (arith, same_Some)

pub returns-then-place-sources-clause-is : goal.returns-then-place-sources-clause-is
returns-then-place-sources-clause-is c pending less waking is fewer =
    let k = c.args.self.now in
    let node = c.args.node in
    let below = c.requires.node.0 in
    let v = c.index_mut.result.now - 1 in
    let old = c.index_mut.ensures.value ∙ get_or_default k.counts.items node c.index_mut.result.now 0 below in
    let long = length-set k.counts.items node v in
    let same = get_or-set_same k.counts.items node v c.index.result.now below in
    let passed = is.under_way.passed_long in
    let p = c.in_ok-self.field-0 in
    let stored = same_place c.try_from.result c.ok.result p c.loop-place.place c.try_from.ensures c.ok.ensures.value c.in_ok-self.ensures.ok_part in
    let f =
    subst (λ q. IsFirst c.args.done.now q (get_or k.passed.items node 0) (get_or c.args.graph.now.sources node [])) (sym stored)
    (elsewhere (IsFirst c.args.done.now c.loop-place.place) c.index-2.result.now (get_or k.passed.items node 0) c.at-sources.result.now (get_or c.args.graph.now.sources node [])
    (c.index-2.ensures ∙ get_or_default k.passed.items node c.index-2.result.now 0 (omega arith)) c.at-sources.ensures (first_left (goal.at.returns-then-place-sources-clause-is c).Then-place-sources)) in
    let row = c.at-sources.result.now in
    let at = get_or row c.loop-place.place 0 in
    let is_at : at ≡ get_or (get_or c.args.graph.now.sources node []) p 0 = ap (λ (r : List ℕ). get_or r c.loop-place.place 0) c.at-sources.ensures ∙ ap (λ q. get_or (get_or c.args.graph.now.sources node []) q 0) (sym stored) in
    let at_below : at < length k.counts.items = sources_within c.args.graph.now (length k.counts.items) node c.requires.graph row c.at-sources.ensures c.loop-place.place 0 c.if-place-sources.true in
    record {
      under_way = under_way_waiting c.args.graph.now c.args.done.now k node below v c.index_mut.result.now old refl pending less waking is fewer (omega arith)
          p f.1 f.0 at is_at (λ is. f.2 (subst (IsDone c.args.done.now) is_at is)) f.3 at_below (let m = c.requires.node.1 in omega arith)
          c.index-then-place-sources.result.now (c.index-then-place-sources.ensures ∙ get_or_default k.first_waiting.items at c.index-then-place-sources.result.now 0 (omega arith));
      ready = ready_held c.args.graph.now c.args.done.now k node below v c.index_mut.result.now old refl pending less waking is fewer;
      before = is.before;
      within = let e = is.within in omega arith;
    }

pub returns-then-place-sources-clause-others : goal.returns-then-place-sources-clause-others
returns-then-place-sources-clause-others c t s w d = grind (arith, same_place, cases_eq, elsewhere, first_left, same_Some, slice_get-get_or, get_or-set_same, others_waited, length-set, get_or-set_other)

abbrev lowered : Else-place-sources → List ℕ
lowered c = set (set c.args.self.now.counts.items c.args.node (c.index_mut.result.now - 1)) c.args.node 0

-- nothing holds the node back, and it wasn't ready, whatever is told of what is
freed : (c : Else-place-sources) (pending less : ℕ → ℕ) (waking : ℕ) → IsTaking c.args.graph.now c.args.done.now c.args.self.now pending waking → IsOneFewer c.args.node pending less
    → IsUnderWay c.args.graph.now c.args.done.now (lowered c) c.args.self.now.passed.items c.args.self.now.first_waiting.items c.args.self.now.next_waiting.items less waking
    × ((After : ℕ → Type 0) → ((t : ℕ) → After t ↔ (IsBehind c.args.self.now t ⊎ ((c.args.node ≡ t) × (c.args.node < c.args.self.now.end))))
    → (t : ℕ) → t < length (lowered c) → IsReadyAt After c.args.self.now.end (lowered c) t ↔ ((get_or (lowered c) t 0 ≡ 0) × ¬ IsDone c.args.done.now t))
    × (held c.args.self.now.run.items (heap_items c.args.self.now.others) c.args.node ≡ 0)
    × (c.args.self.now.end ≤ length (lowered c))
freed c pending less waking is fewer =
    let k = c.args.self.now in
    let node = c.args.node in
    let below = c.requires.node.0 in
    let v = c.index_mut.result.now - 1 in
    let old = c.index_mut.ensures.value ∙ get_or_default k.counts.items node c.index_mut.result.now 0 below in
    let long = length-set k.counts.items node v in
    let longer = length-set (set k.counts.items node v) node 0 in
    let same = get_or-set_same k.counts.items node v c.index.result.now below in
    let m = many c.args.graph.now c.args.done.now k node below v c.index_mut.result.now old refl pending less waking is fewer in
    let once = is.before.once node in (
      under_way_free c.args.graph.now c.args.done.now k node below v c.index_mut.result.now old refl pending less waking is fewer (omega arith)
          (elsewhere (λ from row. (i : ℕ) → from ≤ i → i < length row → IsDone c.args.done.now (get_or row i 0)) c.index-2.result.now (get_or k.passed.items node 0)
          c.at-sources.result.now (get_or c.args.graph.now.sources node [])
          (c.index-2.ensures ∙ get_or_default k.passed.items node c.index-2.result.now 0 (let l = is.under_way.passed_long in omega arith)) c.at-sources.ensures (λ i low below. c.loop-place.invariant.1 i low (let end = c.if-place-sources.false in omega arith))),
      ready_free c.args.graph.now c.args.done.now k node below v c.index_mut.result.now old refl pending less waking is fewer (omega arith),
      elim (cases_lt 0 (held k.run.items (heap_items k.others) node)) [
        | inl some ↦ absurd (let z = ((is.ready node below).0 (inl (omega arith))).0 in omega arith)
        | inr none ↦ omega arith
      ],
      (let e = is.within in omega arith),
    )

pub returns-in_ok-push_back-clause-is : goal.returns-in_ok-push_back-clause-is
returns-in_ok-push_back-clause-is c pending less waking is fewer =
    let k = c.args.self.now in
    let node = c.args.node in
    let run = k.run.items in
    let others = heap_items k.others in
    let f = freed (goal.at.returns-in_ok-push_back-clause-is c).Else-place-sources pending less waking is fewer in
    let items = c.in_ok-push_back.ensures.items in
    let differ : (i : ℕ) → held c.push_back.new.self.items others i ≡ one node i + held run others i = λ i. ap (λ xs. held xs others i) items ∙ run_more run node others i in
    let last = read_at 0 c.unwrap_or.result run (k.run.len - 1) c.back.result c.copied.result c.unwrap_or.ensures c.copied.ensures c.back.ensures.item in
    let above : get_or run (length run - 1) 0 < node = (let e : get_or run (k.run.len - 1) 0 ≡ get_or run (length run - 1) 0 = ap (λ n. get_or run (n - 1) 0) k.run.ok.0 in let l = c.if-unwrap_or-node.true in omega arith) in
    let put = put_before run others c.push_back.new.self.items others k.end node is.before f.2 differ c.if-node-self.true in
    record {
      under_way = f.0;
      ready = f.1 (HasReady c.push_back.new.self.items others) (put_noted run others c.push_back.new.self.items others k.end node is.before f.2 differ c.if-node-self.true);
      before = put (subst IsStrictlyIncreasing (sym items) (ascends_more run node 0 is.before.ascends above)) is.before.order;
      within = f.3;
    }

pub returns-in_ok-push-clause-is : goal.returns-in_ok-push-clause-is
returns-in_ok-push-clause-is c pending less waking is fewer =
    let k = c.args.self.now in
    let node = c.args.node in
    let run = k.run.items in
    let others = heap_items k.others in
    let more = heap_items c.push.new.self in
    let pushed = c.in_ok-push.ensures in
    let f = freed (goal.at.returns-in_ok-push-clause-is c).Else-place-sources pending less waking is fewer in
    let differ = others_more run (record { 0 = node }) others more pushed.permutation in
    record {
      under_way = f.0;
      ready = f.1 (HasReady run more) (put_noted run others run more k.end node is.before f.2 differ c.if-node-self.true);
      before = put_before run others run more k.end node is.before f.2 differ c.if-node-self.true is.before.ascends (pushed.heap_order is.before.order);
      within = f.3;
    }

pub returns-else-node-self-clause-is : goal.returns-else-node-self-clause-is
returns-else-node-self-clause-is c pending less waking is fewer =
    let f = freed (goal.at.returns-else-node-self-clause-is c).Else-place-sources pending less waking is fewer in
    record {
      under_way = f.0;
      ready = f.1 (IsBehind c.args.self.now) (λ i. ((λ b. inl b), (λ b. elim b [ inl had ↦ had | inr w ↦ absurd (let x = w.1 in omega arith) ])));
      before = is.before;
      within = f.3;
    }
