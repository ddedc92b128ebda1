-- What a run and others hold after one place is put in or taken out.
use Rattle.std.proofs.Common.{◌≡◌, ◌≢◌, ◌⊎◌, inl, inr, ℕ, suc, ◌+◌, ◌-◌, ◌<◌, ◌≤◌, false, cond, Bor, Option, None, Some, List, [], ◌∷◌, ◌++◌, length, get_or, eqb, refl, ap, subst, ◌∙◌, arith, ◌↔◌, count_by, IfSome, option_copied, unwrap_or, is_lt, nat_cmp}
use Rattle.std.specs.BinaryHeap.{IsHeap, IsUpperBound, heap_items}
use Rattle.std.specs.List.Sorted.{IsPermutation, IsStrictlyIncreasing}
use Rattle.std.specs.Slice.{IsGetResult, IsItemAt}
use Rattle.std.specs.declared.cmp.Reverse.{Reverse}
use Rattle.std.proofs.lemmas.Bool.{cases_Bool, cases_lt, eqb-true}
use Rattle.std.proofs.lemmas.Bool.Decides.{nat_tests}
use Rattle.std.proofs.lemmas.List.{get_or_append_left, get_or_default, length-append}
use Rattle.std.proofs.Math.Seq.{get_or-append_seam}
use Rattle.std.proofs.lemmas.List.Sorted.{sum_by-IsPermutation}
use Rattle.std.proofs.lemmas.List.Sums.{sum_by-cons, sum_by_push}
use Rattle.sia_graph.specs.UnderWay.{AreBefore, AreBehind, HasReady, IsBehind, IsTaken, held, times}
use Rattle.sia_graph.specs.declared.order.Taking.{Taking}
use Rattle.sia_graph.proofs.Shared.Counted.{count_later}

-- how often one place is another
abbrev pub one : ℕ → ℕ → ℕ
one place i = cond (eqb place i) 1 0

abbrev pub among : List (Reverse ℕ) → ℕ → ℕ
among others i = count_by (λ x. eqb x.0 i) others

-- the first of the run, or of the others
pub run_less : (place : ℕ) (rest : List ℕ) (others : List (Reverse ℕ)) (i : ℕ) → held (place ∷ rest) others i ≡ one place i + held rest others i
run_less place rest others i = let e : times i (place ∷ rest) ≡ one place i + times i rest = sum_by-cons (λ x. cond (eqb x i) 1 0) place rest in omega arith

pub run_more : (run : List ℕ) (place : ℕ) (others : List (Reverse ℕ)) (i : ℕ) → held (run ++ place ∷ []) others i ≡ one place i + held run others i
run_more run place others i = let e : times i (run ++ place ∷ []) ≡ times i run + one place i = sum_by_push (λ x. cond (eqb x i) 1 0) run place in omega arith

pub others_more : (run : List ℕ) (place : Reverse ℕ) (fewer more : List (Reverse ℕ)) → IsPermutation (place ∷ fewer) more → (i : ℕ) → held run more i ≡ one place.0 i + held run fewer i
others_more run place fewer more p i =
    let a : among more i ≡ among (place ∷ fewer) i = sum_by-IsPermutation (λ x. cond (eqb x.0 i) 1 0) (place ∷ fewer) more p in
    let b : among (place ∷ fewer) i ≡ one place.0 i + among fewer i = sum_by-cons (λ x. cond (eqb x.0 i) 1 0) place fewer in
    omega arith

pub others_less : (run : List ℕ) (place : Reverse ℕ) (fewer more : List (Reverse ℕ)) → IsPermutation more (place ∷ fewer) → (i : ℕ) → held run more i ≡ one place.0 i + held run fewer i
others_less run place fewer more p i =
    let a : among (place ∷ fewer) i ≡ among more i = sum_by-IsPermutation (λ x. cond (eqb x.0 i) 1 0) more (place ∷ fewer) p in
    let b : among (place ∷ fewer) i ≡ one place.0 i + among fewer i = sum_by-cons (λ x. cond (eqb x.0 i) 1 0) place fewer in
    omega arith

-- fewer are held than were, by one place
module _ (fewer more : ℕ → ℕ) (place : ℕ) (differ : (i : ℕ) → more i ≡ one place i + fewer i) where
  pub at_place : more place ≡ suc (fewer place)
  at_place = let a = differ place in grind (arith, nat_tests)

  pub once_more : fewer place ≡ 0 → ((i : ℕ) → fewer i ≤ 1) → (i : ℕ) → more i ≤ 1
  once_more none once i = let a = differ i in let b = once i in grind (arith, nat_tests)

  pub has_less : ((i : ℕ) → more i ≤ 1) → (i : ℕ) → (fewer i ≡ 1) ↔ ((more i ≡ 1) × (place ≢ i))
  has_less once i = let a = differ i in let b = once i in grind (arith, nat_tests)

  pub has_more : fewer place ≡ 0 → (i : ℕ) → (more i ≡ 1) ↔ ((fewer i ≡ 1) ⊎ (place ≡ i))
  has_more none i = let a = differ i in grind (arith, nat_tests)

-- what is left of a run that ascends
pub rest_ascends : (first : ℕ) (rest : List ℕ) → IsStrictlyIncreasing (first ∷ rest) → IsStrictlyIncreasing rest
rest_ascends first rest up k l =
    let e : suc k + 1 ≡ suc (k + 1) = omega arith in
    subst (λ n. get_or rest k 0 < get_or (first ∷ rest) n 0) e (up (suc k) (omega arith))

-- the first of a run that ascends is its least
pub least_of_run : (first : ℕ) (rest : List ℕ) → IsStrictlyIncreasing (first ∷ rest) → (i : ℕ) → 0 < times i (first ∷ rest) → first ≤ i
least_of_run first [] up i some = grind (arith, cases_Bool, eqb, eqb-true, count_later, rest_ascends)
least_of_run first (next ∷ rest) up i some = elim (cases_Bool (eqb first i)) [
  | inl same ↦ let e = eqb-true first i same in omega arith
  | inr other ↦
      let e : times i (first ∷ next ∷ rest) ≡ times i (next ∷ rest) = count_later (λ x. eqb x i) first (next ∷ rest) other in
      let l : first < next = up 0 (omega arith) in
      let m = least_of_run next rest (rest_ascends first (next ∷ rest) up) i (omega arith) in
      omega arith
]

-- no other is below the greatest of those in reverse
pub least_of_others : (top : Reverse ℕ) (others : List (Reverse ℕ)) → IsUpperBound (λ x y. nat_cmp y.0 x.0) top others → (i : ℕ) → 0 < count_by (λ x. eqb x.0 i) others → top.0 ≤ i
least_of_others top [] bound i some = absurd (omega arith)
least_of_others top (x ∷ others) bound i some = elim (cases_Bool (eqb x.0 i)) [
  | inl same ↦ let e = eqb-true x.0 i same in let b : is_lt (nat_cmp x.0 top.0) ≡ false = bound.0 in grind (arith, nat_tests)
  | inr other ↦
      let e : among (x ∷ others) i ≡ among others i = count_later (λ x. eqb x.0 i) x others other in
      least_of_others top others bound.1 i (omega arith)
]

-- a run goes on ascending with what is above its last
pub ascends_more : (run : List ℕ) (place d : ℕ) → IsStrictlyIncreasing run → get_or run (length run - 1) d < place → IsStrictlyIncreasing (run ++ place ∷ [])
ascends_more run place d up above k l = grind (arith, length-append, get_or_append_left, cases_lt, get_or-append_seam, get_or_default)

-- the element that was read, or the default
pub read_at : {X : Type 0} (d v : X) (xs : List X) (i : ℕ) (r : Option (Bor X)) (o : Option X) → v ≡ unwrap_or o d → o ≡ option_copied r → IsGetResult xs 0 i r → v ≡ get_or xs i d
read_at d v xs i r o e f at = e ∙ ap (λ x. unwrap_or x d) f ∙ at.4 (omega arith) d

-- what is at hand, of another run and others
abbrev pub with_left : Taking → Taking → Taking
with_left k new = record { counts = k.counts; passed = k.passed; first_waiting = k.first_waiting; next_waiting = k.next_waiting; run = new.run; others = new.others; end = k.end }

-- a place is taken out that is the least
pub taken_from : (k new : Taking) (place : ℕ) → AreBehind k → ((i : ℕ) → held k.run.items (heap_items k.others) i ≡ one place i + held new.run.items (heap_items new.others) i)
    → ((i : ℕ) → 0 < held k.run.items (heap_items k.others) i → place ≤ i) → IsStrictlyIncreasing new.run.items → IsHeap (λ x y. nat_cmp y.0 x.0) (heap_items new.others)
    → IsTaken k (with_left k new) place
taken_from k new place is differ bound up order =
    let many = held k.run.items (heap_items k.others) in
    let few = held new.run.items (heap_items new.others) in
    let member : IsBehind k place = (let a = at_place few many place differ in let b = is.0.once place in omega arith) in
    let low = is.0.before place member in
    let less = has_less few many place differ is.0.once in
    record {
      member = inl member;
      least = λ i r. elim r [ inl b ↦ bound i (omega arith) | inr w ↦ (let b = w.0 in omega arith) ];
      taken = λ i. (
        λ r. elim r [ inl b ↦ (let h = (less i).0 b in (inl h.0, h.1)) | inr w ↦ (inr w, λ e. absurd (let b = w.0 in omega arith)) ],
        λ r. elim r.0 [ inl b ↦ inl ((less i).1 (b, r.1)) | inr w ↦ inr w ],
      );
      behind = (record { ascends = up; order = order; once = λ i. let a = differ i in let b = is.0.once i in omega arith; before = λ i h. is.0.before i ((less i).0 h).0 }, is.1);
      same = refl;
    }

-- a place before the end is put in that wasn't there
module _ (run : List ℕ) (others : List (Reverse ℕ)) (more : List ℕ) (with' : List (Reverse ℕ)) (end place : ℕ) (is : AreBefore run others end)
    (none : held run others place ≡ 0) (differ : (i : ℕ) → held more with' i ≡ one place i + held run others i) (low : place < end) where
  pub put_before : IsStrictlyIncreasing more → IsHeap (λ x y. nat_cmp y.0 x.0) with' → AreBefore more with' end
  put_before up order = record {
    ascends = up;
    order = order;
    once = once_more (held run others) (held more with') place differ none is.once;
    before = λ i h. elim ((has_more (held run others) (held more with') place differ none i).0 h) [ inl had ↦ is.before i had | inr e ↦ omega arith ];
  }

  pub put_noted : (i : ℕ) → HasReady more with' i ↔ (HasReady run others i ⊎ ((place ≡ i) × (place < end)))
  put_noted i =
      let w = has_more (held run others) (held more with') place differ none i in (
        λ h. elim (w.0 h) [ inl had ↦ inl had | inr e ↦ inr (e, low) ],
        λ h. w.1 (elim h [ inl had ↦ inl had | inr x ↦ inr x.0 ]),
      )

-- what was read of a heap first is no more than any other
pub others_from : (d : Reverse ℕ) (others : List (Reverse ℕ)) (r : Option (Bor (Reverse ℕ))) → IsItemAt others 0 r
    → IfSome r (λ x. IsHeap (λ x y. nat_cmp y.0 x.0) others → IsUpperBound (λ x y. nat_cmp y.0 x.0) x.now others) → IsHeap (λ x y. nat_cmp y.0 x.0) others
    → (i : ℕ) → 0 < among others i → (get_or others 0 d).0 ≤ i
others_from d [] None at bound order i some = absurd (omega arith)
others_from d (x ∷ others) None at bound order i some = absurd (let l = at.3 in omega arith)
others_from d others (Some top) at bound order i some =
    subst (λ x. x.0 ≤ i) (at.4 (omega arith) d) (least_of_others top.now others (bound order) i some)

-- the first of a run, if there is one, is no more than any
pub run_from : (d : ℕ) (run : List ℕ) → IsStrictlyIncreasing run → (i : ℕ) → 0 < times i run → get_or run 0 d ≤ i
run_from d [] up i some = absurd (omega arith)
run_from d (x ∷ run) up i some = least_of_run x run up i some

-- nothing is held where nothing stands
pub none_held : (run : List ℕ) (others : List (Reverse ℕ)) → length run ≡ 0 → length others ≡ 0 → (i : ℕ) → held run others i ≡ 0
none_held [] [] a b i = omega arith
none_held (x ∷ run) others a b i = absurd (omega arith)
none_held [] (x ∷ others) a b i = absurd (omega arith)

-- a run of places is empty if its first is said to be no place
pub empty_run : (run : List ℕ) (others : List (Reverse ℕ)) (end : ℕ) → AreBefore run others end → end < 18446744073709551615 → 18446744073709551615 ≤ get_or run 0 18446744073709551615 → length run ≡ 0
empty_run [] others end is few past = refl
empty_run (x ∷ run) others end is few past =
    let a = at_place (held run others) (held (x ∷ run) others) x (run_less x run others) in
    let c = is.before x (omega arith) in
    absurd (omega arith)
