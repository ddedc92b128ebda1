use Rattle.std.proofs.Common.{◌≡◌, ◌⊎◌, ◌++◌, ◌+◌, ◌<◌, ◌≤◌, ◌∙◌, ℕ, List, Vec, Global, ap, arith, false, get_or, inl, inr, length, ltb, max, refl, rules, subst, sym, true}
use Rattle.std.specs.List.Sorted.{IsNonDecreasing, IsNonDecreasingBy, IsPartitionPoint}
use Rattle.std.proofs.lemmas.List.Sorted.{Contains-permutation, IsPartitionPoint-from_clause, IsPartitionedBy-ltb, IsPermutation-sym, answers_always}
use Rattle.sia_parts.proofs.OfReasons.InTwoNumbers.{firsts_rise, rise_from_sort}
use Rattle.std.specs.Prelude.{◌↔◌, Contains}
use Rattle.std.proofs.lemmas.List.Elements.{Contains-get_or}
use Rattle.sia_parts.specs.declared.accesses.RangeMiss.{RangeMiss}
use Rattle.sia_parts.specs.Sights.{Adds}
use Rattle.sia_graph.specs.Passed.{IsHeldBy}
use Rattle.sia_graph.proofs.Shared.AccessLists.{few_missed, held_passed, missed_is, own_passed}
use Rattle.sia_parts.proofs.Shared.Adding.{adds_nothing, adds_push}
use Rattle.sia_graph.proofs.OnEvidence.JoinedMisses.{joined_held, joined_more, joined_none, joined_own}
use Rattle.sia_graph.proofs.OnEvidence.PassedKeys.{HasCutTo, IsNextKey, cut_held, cut_more, cut_own, next_key}
use Rattle.std.proofs.lemmas.Bool.{cases_lt}
use Rattle.sia_graph.proofs.evidence.Passed.fill.Goals.{After-loop-miss, After-min-next, After-sort_unstable_by_key, then-next-miss+in_ok-push-2, else-next-miss}
use Rattle.sia_graph.proofs.evidence.Passed.fill.Goals as goal

-- all range misses stand in the list
is_all : (c : After-sort_unstable_by_key) → c.extend_from_slice.new.self.items ≡ c.at-misses.result.now
is_all c = c.in_ok-extend_from_slice.ensures.items ∙ ap (λ (l : List RangeMiss). l ++ c.at-misses.result.now) c.clear-3.ensures.items

same : (c : After-sort_unstable_by_key) → (miss : RangeMiss) → Contains c.sort_unstable_by_key.new.self.items miss ↔ Contains c.at-misses.result.now miss
same c miss =
    let ys = c.sort_unstable_by_key.new.self.items in
    let xs = c.extend_from_slice.new.self.items in
    let moved = c.sort_unstable_by_key.ensures.permutation in (
      (λ has. subst (λ (l : List RangeMiss). Contains l miss) (is_all c) (Contains-permutation ys xs miss (IsPermutation-sym xs ys moved) has)),
      (λ has. Contains-permutation xs ys miss moved (subst (λ (l : List RangeMiss). Contains l miss) (sym (is_all c)) has)),
    )

sorted : (c : After-sort_unstable_by_key) → IsNonDecreasingBy (λ (miss : RangeMiss). miss.from) c.sort_unstable_by_key.new.self.items
sorted c =
    let ys = c.sort_unstable_by_key.new.self.items in
    firsts_rise (λ (miss : RangeMiss). miss.from) (λ miss. miss.to) ys
    (rise_from_sort (λ (miss : RangeMiss). miss.from) (λ miss. miss.to) _
    (c.sort_unstable_by_key.ensures.sorted (λ miss. (miss.from, miss.to)) (answers_always _ (λ a r. r ≡ (a.0.now.from, a.0.now.to)) _ (λ f a r g k. search rules))))

few : (c : After-sort_unstable_by_key) (n : ℕ) (d : RangeMiss) → n < length c.sort_unstable_by_key.new.self.items → (get_or c.sort_unstable_by_key.new.self.items n d).to ≤ 1073741824
few c n d l =
    let e = c.args.evidence.now in
    let xs = c.sort_unstable_by_key.new.self.items in
    let there = subst (λ (l : List RangeMiss). Contains l (get_or xs n d)) c.at-misses.ensures ((same c (get_or xs n d)).0 (Contains-get_or xs n d l)) in
    let few = few_missed e.index.now e.accesses.now c.requires.evidence.accesses c.args.txn c.requires.txn.0 c.requires.txn.1 c.requires.evidence.well_formed (get_or xs n d)
    ((missed_is e.index.now e.accesses.now c.requires.evidence.accesses c.args.txn c.requires.txn.0 c.requires.txn.1 (get_or xs n d)).0 there) in
    omega arith

abbrev none : RangeMiss
none = record { from = 0; to = 0 }

pub loop-miss-init : goal.loop-miss-init
loop-miss-init c = (refl, refl, joined_none c.put_firsts.new.firsts.items c.sort_unstable_by_key.new.self.items c.clear.new.self.items c.clear-2.new.self.items)

next_own : (c : After-min-next) → IsNextKey c.loop-miss.self.1.1.1.1.0.items c.loop-from.from (get_or c.deref-miss-items.result.now c.loop-miss.miss-index none).to c.min-next.result
next_own c =
    let keys = c.loop-miss.self.1.1.1.1.0.items in
    let from = c.loop-from.from in
    let own = ap (λ (v : Vec ℕ Global). v.items) c.loop-from.invariant.1 in
    let rise : IsNonDecreasing keys = subst IsNonDecreasing (sym (ap (λ (v : Vec ℕ Global). v.items) c.loop-miss.invariant.1)) c.in_ok-put_firsts.ensures.rise in
    let looked : c.deref.result.now ≡ keys = c.deref.ensures.value ∙ own in
    let point = IsPartitionPoint-from_clause (λ key. ltb key from) c.deref.result.now _ c.partition_point-place.ensures.partitioned
    (IsPartitionedBy-ltb (λ key. key) c.deref.result.now from (subst IsNonDecreasing (sym looked) rise)) (λ a r f k. search rules) in
    let got : c.deref-in-loop-from.result.now ≡ keys = c.deref-in-loop-from.ensures.value ∙ own in
    next_key keys rise from c.partition_point-place.result
    (subst (λ l. IsPartitionPoint (λ n. ltb n from ≡ true) (λ n. ltb n from ≡ false) l c.partition_point-place.result) looked point)
    c.get-own.result _ _ (let more = c.loop-from-test.true in omega arith) (rw got at c.get-own.ensures.lookup.0) (rw got at c.get-own.ensures.lookup.1) (rw (c.unwrap_or.ensures, c.copied.ensures) at c.min-next.ensures)

pub loop-from-smaller : goal.loop-from-smaller
loop-from-smaller c = let up = (next_own (goal.at.loop-from-smaller c).After-min-next).0 in let more = c.loop-from-test.true in omega arith

pub overflow_add-from : goal.overflow_add-from
overflow_add-from c = grind (arith, few, next_own)

pub loop-from-preserved : goal.loop-from-preserved
loop-from-preserved c =
    let keys = c.loop-miss.self.1.1.1.1.0.items in
    let next = c.min-next in
    let to = (get_or c.deref-miss-items.result.now c.loop-miss.miss-index none).to in
    let start = c.max-from.result in
    let before = c.loop-from.self.1.0.items in
    let own = c.if-next-miss.self.1.0.items in
    let put : Adds (λ j. (j ≡ next.result) × (next.result < to)) before own = elim c.if-next-miss.branch [
      | then-next-miss+in_ok-push-2 w ↦
          subst (Adds (λ j. (j ≡ next.result) × (next.result < to)) before) (sym (ap (λ s. s.1.0.items) w.self-is ∙ w.in_ok-push-2.ensures.items))
          (adds_push (λ j. (j ≡ next.result) × (next.result < to)) before next.result (refl, w.if-next-miss.true) (λ j p. sym p.0))
      | else-next-miss w ↦
          rw w.self-is (adds_nothing (λ j. (j ≡ next.result) × (next.result < to)) before (λ j p. let a = p.1 in let b = w.if-next-miss.false in omega arith))
    ] in (
      refl,
      c.loop-from.invariant.1,
      subst (λ (l : List RangeMiss). HasCutTo keys start to c.loop-miss.self.1.0.items own c.loop-miss.self.1.1.0.items l (next.result + 1)) (sym c.in_ok-push.ensures.items)
          (cut_more keys start to c.loop-miss.self.1.0.items c.loop-miss.self.1.1.0.items before own c.loop-from.self.1.1.0.items c.loop-from.from next.result c.loop-from.invariant.2
          (next_own (goal.at.loop-from-preserved c).After-min-next) put),
    )

pub loop-miss-preserved : goal.loop-miss-preserved
loop-miss-preserved c =
    let keys = c.put_firsts.new.firsts.items in
    let misses = c.sort_unstable_by_key.new.self.items in
    let n = c.loop-miss.miss-index in
    let value = c.deref-miss-items.ensures.value in
    let to = (get_or misses n none).to in
    let same_keys : c.loop-miss.self.1.1.1.1.0.items ≡ keys = ap (λ (v : Vec ℕ Global). v.items) c.loop-miss.invariant.1 in
    let own = c.loop-from.self.1.0.items in
    let held = c.loop-from.self.1.1.0.items in
    let cut : HasCutTo keys c.max-from.result to c.loop-miss.self.1.0.items own c.loop-miss.self.1.1.0.items held c.loop-from.from =
    subst (λ (l : List RangeMiss). HasCutTo keys c.max-from.result (get_or l n none).to c.loop-miss.self.1.0.items own c.loop-miss.self.1.1.0.items held c.loop-from.from) value
    (subst (λ k. HasCutTo k c.max-from.result (get_or c.deref-miss-items.result.now n none).to c.loop-miss.self.1.0.items own c.loop-miss.self.1.1.0.items held c.loop-from.from) same_keys c.loop-from.invariant.2) in
    let inside : n < length misses = subst (λ (l : List RangeMiss). n < length l) value c.loop-miss-test.true in
    let end : to ≤ c.loop-from.from =
    subst (λ (l : List RangeMiss). (get_or l n none).to ≤ c.loop-from.from) value (let over = c.loop-from-test.false in omega arith) in
    let from = subst (λ (l : List RangeMiss). c.max-from.result ≡ max (get_or l n none).from c.loop-miss.reached) value c.max-from.ensures in
    let most = subst (λ (l : List RangeMiss). c.max-reached.result ≡ max c.loop-miss.reached (get_or l n none).to) value c.max-reached.ensures in (
      refl,
      c.loop-from.invariant.1 ∙ c.loop-miss.invariant.1,
      joined_more keys misses c.clear.new.self.items c.clear-2.new.self.items (sorted (goal.at.loop-miss-preserved c).After-sort_unstable_by_key) n none inside c.loop-miss.reached c.max-from.result
          (omega arith) (omega arith) (elim (cases_lt (get_or misses n none).from c.loop-miss.reached) [ inl less ↦ inr (omega arith) | inr more ↦ inl (omega arith) ])
          c.loop-miss.invariant.2.reached_by c.loop-miss.self.1.0.items own c.loop-miss.self.1.1.0.items held c.max-reached.result c.loop-miss.invariant.2
          (cut_own keys c.max-from.result to c.loop-miss.self.1.0.items c.loop-miss.self.1.1.0.items own held c.loop-from.from cut end)
          (cut_held keys c.max-from.result to c.loop-miss.self.1.0.items c.loop-miss.self.1.1.0.items own held c.loop-from.from cut end)
          (elim (cases_lt (get_or misses n none).to c.loop-miss.reached) [ inl less ↦ inl (omega arith) | inr more ↦ inr (omega arith) ]),
    )

-- all range misses are passed over
over : (c : After-loop-miss) → length c.sort_unstable_by_key.new.self.items ≤ c.loop-miss.miss-index
over c = subst (λ (l : List RangeMiss). length l ≤ c.loop-miss.miss-index) c.deref-miss-items.ensures.value (let end = c.loop-miss-test.false in omega arith)

pub returns-clause-own : goal.returns-clause-own
returns-clause-own c =
    let e = c.args.evidence.now in
    let keys = c.put_firsts.new.firsts.items in
    let misses = c.sort_unstable_by_key.new.self.items in
    let own = c.loop-miss.self.1.0.items in
    let held = c.loop-miss.self.1.1.0.items in
    let cut : Adds (λ j. IsHeldBy misses j × Contains keys j) c.clear.new.self.items own =
    joined_own keys misses c.clear.new.self.items c.clear-2.new.self.items c.loop-miss.miss-index (over (goal.at.returns-clause-own c).After-loop-miss) own held c.loop-miss.reached c.loop-miss.invariant.2 in
    own_passed e.index.now e.accesses.now c.requires.evidence.accesses c.args.txn c.requires.txn.0 c.requires.txn.1 misses
    (subst (λ (l : List RangeMiss). (miss : RangeMiss) → Contains misses miss ↔ Contains l miss) c.at-misses.ensures (same (goal.at.returns-clause-own c).After-sort_unstable_by_key))
    keys c.in_ok-put_firsts.ensures.each own (subst (λ (l : List ℕ). Adds (λ j. IsHeldBy misses j × Contains keys j) l own) c.clear.ensures.items cut)

pub returns-clause-stretches : goal.returns-clause-stretches
returns-clause-stretches c =
    let e = c.args.evidence.now in
    let keys = c.put_firsts.new.firsts.items in
    let misses = c.sort_unstable_by_key.new.self.items in
    let own = c.loop-miss.self.1.0.items in
    let held = c.loop-miss.self.1.1.0.items in
    let Cut = λ (old : List RangeMiss). (j : ℕ) → IsHeldBy held j ↔ (IsHeldBy old j ⊎ (IsHeldBy misses j × ¬ Contains keys j)) in
    let cut : Cut c.clear-2.new.self.items =
    joined_held keys misses c.clear.new.self.items c.clear-2.new.self.items c.loop-miss.miss-index (over (goal.at.returns-clause-stretches c).After-loop-miss) own held c.loop-miss.reached c.loop-miss.invariant.2 in
    held_passed e.index.now e.accesses.now c.requires.evidence.accesses c.args.txn c.requires.txn.0 c.requires.txn.1 misses
    (subst (λ (l : List RangeMiss). (miss : RangeMiss) → Contains misses miss ↔ Contains l miss) c.at-misses.ensures (same (goal.at.returns-clause-stretches c).After-sort_unstable_by_key))
    keys c.in_ok-put_firsts.ensures.each held (subst Cut c.clear-2.ensures.items cut)
