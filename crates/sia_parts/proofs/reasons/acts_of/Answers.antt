-- One event more, and what the sort leaves.
use Rattle.std.proofs.Common.{◌≡◌, ◌<◌, ℕ, List, get_or, length, refl, rules, subst, sym, arith}
use Rattle.std.specs.Prelude.{Contains}
use Rattle.std.proofs.lemmas.List.Elements.{Contains-get_or}
use Rattle.std.proofs.lemmas.List.Sorted.{Contains-permutation, IsNonDecreasingBy-from_sort_by_key, IsPermutation-sym, answers_always}
use Rattle.sia_index.specs.Between.{IsBetween}
use Rattle.std.proofs.lemmas.Bool.Decides.{nat_tests}
use Rattle.sia_parts.proofs.OfReasons.Groups.{group_between}
use Rattle.sia_parts.proofs.OfReasons.InTwoNumbers.{group_holds, rise_from_sort}
use Rattle.sia_parts.specs.declared.reasons.Act.{Act}
use Rattle.sia_parts.proofs.OfReasons.TakenEvents.{all_taken, next_left, next_taken, none_taken}
use Rattle.sia_parts.proofs.reasons.acts_of.Goals as goal
use Rattle.sia_parts.proofs.reasons.acts_of.Goals.{in-Some+then-not-is_empty+in_ok-push, in-Some+else-not-is_empty, in_default}

-- what stands between two equal numbers tells whether the number is there
among : (xs group : List ℕ) (t : ℕ) → IsBetween (λ t. t) xs t t group → (0 < length group → Contains xs t) × (Contains xs t → 0 < length group)
among xs group t is =
    let own = group_holds (λ (t : ℕ). t) xs t group (group_between (λ (t : ℕ). t) xs group t is) in (
      (λ some. let first = (own (get_or group 0 0)).0 (Contains-get_or group 0 0 some) in subst (Contains xs) first.1 first.0),
      (λ has. let less = ((own t).1 (has, refl)).1 in omega arith),
    )

pub between-requires : goal.between-requires
between-requires c = rw (c.deref.ensures.value) (IsNonDecreasingBy-from_sort_by_key (λ (t : ℕ). t) _ c.sort_unstable_by_key.ensures.sorted (λ a r f k. search rules))

pub loop-before-preserved : goal.loop-before-preserved
loop-before-preserved c =
    let wanted = c.sort_unstable_by_key.new.self.items in
    let taken = c.loop-before.invariant in
    elim c.match-act_at.branch [
      | in-Some+then-not-is_empty+in_ok-push w ↦ rw (w.acts-is) (next_taken wanted c.args.h.now c.loop-before.before c.loop-before.acts.items taken _ w.in-Some.act w.in-Some.ensures (subst (λ xs. Contains xs w.in-Some.act.txn) w.deref.ensures.value ((among _ _ _ (rw w.from-txn.ensures at w.between.ensures)).0 (grind (arith, nat_tests, w.is_empty-in-Some.ensures, w.if-not-is_empty.true)))) w.in_ok-push.ensures.items)
      | in-Some+else-not-is_empty w ↦ rw (w.acts-is) (next_left wanted c.args.h.now c.loop-before.before c.loop-before.acts.items taken w.in-Some.act w.in-Some.ensures
          (λ has. let some = (among _ _ _ (rw w.from-txn.ensures at w.between.ensures)).1 (subst (λ xs. Contains xs w.in-Some.act.txn) (sym w.deref.ensures.value) has) in grind (arith, nat_tests, w.is_empty-in-Some.ensures, w.if-not-is_empty.false)))
      | in_default w ↦ rw (w.acts-is) (none_taken wanted c.args.h.now c.loop-before.before c.loop-before.acts.items taken (λ act among here. w.in_default.ensures act here))
    ]

pub returns-clause-has : goal.returns-clause-has
returns-clause-has c =
    let xs = c.loop-before.acts.items in
    let ys = c.sort_unstable_by_key-2.new.self.items in
    let moved = c.sort_unstable_by_key-2.ensures.permutation in
    let wanted = c.sort_unstable_by_key.new.self.items in
    let last = c.loop-before-test.false in
    let count = c.len-before-end.ensures.len in
    λ k d below.
    let t = get_or c.args.txns.items k d in
    let among = Contains-permutation c.args.txns.items wanted t c.sort_unstable_by_key.ensures.permutation (Contains-get_or c.args.txns.items k d below) in
    let all = all_taken wanted c.args.h.now c.loop-before.before xs c.loop-before.invariant (omega arith) in
    record {
      rise = rise_from_sort (λ (act : Act). act.txn) (λ act. act.key) _
          (c.sort_unstable_by_key-2.ensures.sorted (λ act. (act.txn, act.key)) (answers_always _ (λ a r. r ≡ (a.0.now.txn, a.0.now.key)) _ (λ f a r g k. search rules)));
      each = λ act is. (
        (λ has. ((all act).0 (Contains-permutation ys xs act (IsPermutation-sym xs ys moved) has)).1),
        (λ one. Contains-permutation xs ys act moved ((all act).1 (subst (Contains wanted) (sym is) among, one))),
      );
    }

pub returns-clause-only : goal.returns-clause-only
returns-clause-only c =
    let xs = c.loop-before.acts.items in
    let ys = c.sort_unstable_by_key-2.new.self.items in
    let wanted = c.sort_unstable_by_key.new.self.items in
    λ i d below.
    let act : Act = get_or ys i d in
    let has = Contains-permutation ys xs act (IsPermutation-sym xs ys c.sort_unstable_by_key-2.ensures.permutation) (Contains-get_or ys i d below) in
    Contains-permutation wanted c.args.txns.items act.txn (IsPermutation-sym c.args.txns.items wanted c.sort_unstable_by_key.ensures.permutation) ((c.loop-before.invariant act).0 has).0
