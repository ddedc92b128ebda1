use Rattle.std.specs.BinaryHeap.{IsHeap, heap_items}
use Rattle.std.specs.List.Sorted.{IsStrictlyIncreasing}
use Rattle.std.proofs.lemmas.List.Sorted.{length_permutation}
use Rattle.std.specs.List.{AllWithin, HoldsAt}
use Rattle.std.specs.declared.cmp.Reverse.{Reverse}
use Rattle.std.proofs.lemmas.Bool.{cases_lt}
use Rattle.std.proofs.lemmas.Iterator.{IsFirst-from_position, YieldsList-from_slice}
use Rattle.std.proofs.lemmas.List.{get_or-drop, get_or_default, get_or_past, length-drop, take_all}
use Rattle.std.proofs.Common.{◌≡◌, ◌≢◌, ◌+◌, ◌-◌, ◌<◌, ◌≤◌, ◌++◌, inl, inr, ℕ, List, ◌∷◌, Option, None, Some, drop, take, get_or, length, ap, refl, sym, subst, ◌∙◌, arith, rules, tests, MatchOption, nat_cmp, option_to_list}
use Rattle.sia_graph.specs.UnderWay.{IsReadyIn, IsTaken, held, times}
use Rattle.sia_graph.specs.declared.order.Taking.{Taking}
use Rattle.sia_graph.proofs.Orders.ReadySets.{among, least_of_others, others_from, others_less, none_held, empty_run, read_at, rest_ascends, run_from, run_less, taken_from, with_left}
use Rattle.sia_graph.proofs.order.Taking.take.Goals.{After-unwrap_or-other, In_default}
use Rattle.sia_graph.proofs.order.Taking.take.Goals as goal

-- what is held is at least as great as the first of both
from_both : (run : List ℕ) (others : List (Reverse ℕ)) (first : ℕ) → ((i : ℕ) → 0 < times i run → first ≤ i) → ((i : ℕ) → 0 < among others i → first ≤ i) → (i : ℕ) → 0 < held run others i → first ≤ i
from_both run others first a b i some = elim (cases_lt 0 (times i run)) [ inl l ↦ a i l | inr m ↦ b i (omega arith) ]

-- a place that there isn't, and the two that were read
abbrev last : ℕ
last = 18446744073709551615

abbrev most : Reverse ℕ
most = record { 0 = last }

abbrev AreFirsts : Taking → ℕ → Reverse ℕ → Type 0
AreFirsts k first other = (first ≡ get_or k.run.items 0 last) × (other.0 ≡ (get_or (heap_items k.others) 0 most).0)

firsts : (c : After-unwrap_or-other) → AreFirsts c.args.self.now c.unwrap_or-first.result c.unwrap_or-other.result
firsts c = grind (arith, read_at)

pub returns-then-first-other : goal.returns-then-first-other
returns-then-first-other c =
    let k = c.args.self.now in
    let run = k.run.items in
    let others = heap_items k.others in
    let rest = c.pop_front.new.self.items in
    let read = firsts (goal.at.returns-then-first-other c).After-unwrap_or-other in
    let some : 0 < length run = elim (cases_lt 0 (length run)) [ inl l ↦ l | inr none ↦ absurd (let e = get_or_past run 0 last none in omega arith) ] in
    let popped = c.pop_front.ensures.value last (let e = k.run.ok.0 in omega arith) in
    let whole : run ≡ get_or run 0 last ∷ rest = c.pop_front.ensures.items ∙ ap (λ r. option_to_list r ++ rest) popped in
    subst (λ r. MatchOption r ((i : ℕ) → ¬ IsReadyIn k i) (IsTaken k (record { counts = k.counts; passed = k.passed; first_waiting = k.first_waiting; next_waiting = k.next_waiting; run = c.pop_front.new.self; others = k.others; end = k.end }))) (sym popped)
    (taken_from k (record { counts = k.counts; passed = k.passed; first_waiting = k.first_waiting; next_waiting = k.next_waiting; run = c.pop_front.new.self; others = k.others; end = k.end }) (get_or run 0 last) c.requires
    (λ i. ap (λ xs. held xs others i) whole ∙ run_less (get_or run 0 last) rest others i)
    (from_both run others (get_or run 0 last) (run_from last run c.requires.0.ascends)
    (λ i l. let m = others_from most others c.peek.result c.peek.ensures.item c.peek.ensures.greatest c.requires.0.order i l in omega arith))
    (rest_ascends (get_or run 0 last) rest (subst IsStrictlyIncreasing whole c.requires.0.ascends)) c.requires.0.order)

pub returns : goal.returns
returns c =
    let k = c.args.self.now in
    let others = heap_items k.others in
    let place = c.in-Some.field-0 in
    let read = firsts (goal.at.returns c).After-unwrap_or-other in
    let order = c.in-Some.ensures.heap_order c.requires.0.order in
    let long = length_permutation others (place ∷ heap_items c.pop.new.self) c.in-Some.ensures.permutation in
    let top : (get_or others 0 most).0 ≡ place.0 = ap (λ x. x.0) (get_or_default others 0 most place (omega arith) ∙ sym c.in-Some.ensures.top) in
    taken_from k (record { counts = k.counts; passed = k.passed; first_waiting = k.first_waiting; next_waiting = k.next_waiting; run = k.run; others = c.pop.new.self; end = k.end }) place.0 c.requires
    (others_less k.run.items place (heap_items c.pop.new.self) others c.in-Some.ensures.permutation)
    (from_both k.run.items others place.0 (λ i l. let m = run_from last k.run.items c.requires.0.ascends i l in omega arith) (least_of_others place others order.1))
    c.requires.0.ascends order.0

-- nothing was there, and nothing is
emptied : (c : In_default) → AreFirsts c.args.self.now c.unwrap_or-first.result c.unwrap_or-other.result → (i : ℕ) → held c.args.self.now.run.items (heap_items c.args.self.now.others) i ≡ 0
emptied c read =
    let k = c.args.self.now in
    let none = c.in_default.ensures.none in
    let long : length (heap_items k.others) ≡ 0 = (let e = k.others.data.ok.0 in omega arith) in
    let other : c.unwrap_or-other.result.0 ≡ last = read.1 ∙ ap (λ x. x.0) (get_or_past (heap_items k.others) 0 most (omega arith)) in
    none_held k.run.items (heap_items k.others) (empty_run k.run.items (heap_items k.others) k.end c.requires.0 (let w = c.requires.1 in let b = k.counts.ok.1 in omega arith) (omega arith)) long

-- the first place in the rest of a list at which nothing is left, and in the list
abbrev IsFirstOf : List ℕ → Option ℕ → Type 0
IsFirstOf rest r = MatchOption r (AllWithin (λ n. n ≢ 0) rest 0 (length rest)) (λ p. (p < length rest) × HoldsAt (λ n. n ≡ 0) rest p × AllWithin (λ n. n ≢ 0) rest 0 p)

abbrev IsFirstFree : List ℕ → ℕ → Option ℕ → Type 0
IsFirstFree counts end r = MatchOption r ((i : ℕ) → end ≤ i → i < length counts → 0 < get_or counts i 0)
    (λ p. (end + p < length counts) × (get_or counts (end + p) 0 ≡ 0) × ((i : ℕ) → end ≤ i → i < end + p → 0 < get_or counts i 0))

from_end : (counts : List ℕ) (end i : ℕ) → end ≤ i → get_or (drop end counts) (i - end) 0 ≡ get_or counts i 0
from_end counts end i from = let e : end + (i - end) ≡ i = omega arith in get_or-drop end counts (i - end) 0 ∙ ap (λ n. get_or counts n 0) e

first_free : (counts : List ℕ) (end : ℕ) (r : Option ℕ) → IsFirstOf (drop end counts) r → IsFirstFree counts end r
first_free counts end r p = grind (arith, length-drop, from_end, cases_lt, get_or-drop)

rest_is : (counts slice : List ℕ) (end : ℕ) (xs : List ℕ) → slice ≡ counts → xs ≡ take (length slice - end) (drop end slice) → xs ≡ drop end counts
rest_is counts slice end xs same is = let l = length-drop end slice in is ∙ take_all (length slice - end) (drop end slice) (omega arith) ∙ ap (drop end) same

pub returns-in_err-self : goal.returns-in_err-self
returns-in_err-self c =
    let k = c.args.self.now in
    let free =
    first_free k.counts.items k.end None
    (IsFirst-from_position _ _ None (λ n. n ≡ 0) (λ n. n ≢ 0) c.in_err-self.ensures.ran (YieldsList-from_slice _ (rest_is k.counts.items c.deref.result.now k.end _ c.deref.ensures.value c.iter.ensures.rest))
    (λ x q k. search (rules, tests)) (λ x q k. search (rules, tests))) in
    let none : (i : ℕ) → ¬ IsReadyIn k i = λ i r. elim r [
      | inl b ↦ (let e = emptied (goal.at.returns-in_err-self c).In_default (firsts (goal.at.returns-in_err-self c).After-unwrap_or-other) i in omega arith)
      | inr w ↦ (let some = free i w.0 w.1 in let no = w.2 in omega arith)
    ] in
    subst (λ r. MatchOption r ((i : ℕ) → ¬ IsReadyIn k i) (IsTaken k (with_left k (record { counts = k.counts; passed = k.passed; first_waiting = k.first_waiting; next_waiting = k.next_waiting; run = k.run; others = c.pop.new.self; end = k.end })))) (sym c.from_residual.ensures) none

pub returns-in_default : goal.returns-in_default
returns-in_default c =
    let k = c.args.self.now in
    let p = k.end + c.in_ok-self.field-0 in
    let free = first_free k.counts.items k.end (Some c.in_ok-self.field-0)
    (IsFirst-from_position _ _ (Some c.in_ok-self.field-0) (λ n. n ≡ 0) (λ n. n ≢ 0) c.in_ok-self.ensures.ran (YieldsList-from_slice _ (rest_is k.counts.items c.deref.result.now k.end _ c.deref.ensures.value c.iter.ensures.rest))
    (λ x q k. search (rules, tests)) (λ x q k. search (rules, tests))) in
    let was = emptied (goal.at.returns-in_default c).In_default (firsts (goal.at.returns-in_default c).After-unwrap_or-other) in
    let still : (i : ℕ) → held k.run.items (heap_items c.pop.new.self) i ≡ 0 = λ i. ap (λ xs. held k.run.items xs i) c.in_default.ensures.unchanged.0 ∙ was i in
    subst (IsTaken k (record { counts = k.counts; passed = k.passed; first_waiting = k.first_waiting; next_waiting = k.next_waiting; run = k.run; others = c.pop.new.self; end = k.end + (c.in_ok-self.field-0 + 1) }))
    (let e : p ≡ k.end + (c.in_ok-self.field-0 + 1) - 1 = omega arith in e)
    (record {
      member = inr ((omega arith), free.0, free.1);
      least = λ i r. elim r [
        | inl b ↦ absurd (let e = was i in omega arith)
        | inr w ↦ elim (cases_lt i p) [ inl less ↦ let some = free.2 i w.0 less in let none = w.2 in absurd (omega arith) | inr more ↦ more ]
      ];
      taken = λ i. (
        λ r. elim r [
          | inl b ↦ absurd (let e = still i in omega arith)
          | inr w ↦ let m = w.0 in (inr ((omega arith), w.1, w.2), λ e. absurd (omega arith))
        ],
        λ r. elim r.0 [
          | inl b ↦ absurd (let e = was i in omega arith)
          | inr w ↦ elim (cases_lt i p) [
            | inl less ↦ let some = free.2 i w.0 less in let none = w.2 in absurd (omega arith)
            | inr more ↦ elim (cases_lt p i) [ inl above ↦ inr ((omega arith), w.1, w.2) | inr no_more ↦ absurd (r.1 (omega arith)) ]
          ]
        ],
      );
      behind = (
        record {
          ascends = c.requires.0.ascends;
          order = subst (IsHeap (λ x y. nat_cmp y.0 x.0)) (sym c.in_default.ensures.unchanged.0) c.requires.0.order;
          once = λ i. (let e = still i in omega arith);
          before = λ i h. absurd (let e = still i in omega arith);
        },
        (let l = free.0 in omega arith),
      );
      same = refl;
    })
