-- Answers that are sorted by their parts.
use Rattle.std.proofs.Common.{◌≡◌, ◌≢◌, ⊎_elim, ℕ, zero, suc, ◌+◌, ◌<◌, ◌≤◌, cond, eqb, List, [], ◌∷◌, length, map, sym, refl, ap, ◌∙◌, subst, arith}
use Rattle.std.specs.Prelude.{slice_index_or, count_by, nat_eq, IsPermutation}
use Rattle.std.specs.List.{AllByRecursion, range_with_len}
use Rattle.std.specs.List.Sorted.{IsNonDecreasingBy}
use Rattle.std.proofs.lemmas.List.{length-map}
use Rattle.std.proofs.lemmas.List.Sums.{sum_by-cons}
use Rattle.std.proofs.lemmas.List.FromFn.{length-range_with_len}
use Rattle.std.proofs.lemmas.List.Elements.{recursion_from_All, All-from_recursion}
use Rattle.std.proofs.lemmas.List.Sorted.{sum_by-IsPermutation, length_permutation, All-permutation, IsPermutation-map, IsPermutation-trans}
use Rattle.std.proofs.lemmas.Bool.Decides.{nat_tests}
use Rattle.std.proofs.lemmas.Bool.{cases_eq}
use Rattle.sia_pool.specs.Answers.{parts_of, Owed, AnswersEach}
use Rattle.sia_pool.proofs.CoreLemmas.{each_map, each_true}

-- how often the part k stands in a list
abbrev times : ℕ → List ℕ → ℕ
times k ps = count_by (nat_eq k) ps

abbrev tick : ℕ → ℕ → ℕ
tick k p = cond (eqb k p) 1 0

off : (k p : ℕ) → k ≢ p → tick k p ≡ 0
off k p n = grind (arith, nat_tests)

on : (p : ℕ) → tick p p ≡ 1
on p = grind (arith, nat_tests)

times-cons : (k p : ℕ) (ps : List ℕ) → times k (p ∷ ps) ≡ tick k p + times k ps
times-cons k p ps = sum_by-cons (tick k) p ps

-- a part from a on, below a + n, stands once in n numbers from a on, and a part below a does not
times_before : (k a n : ℕ) → k < a → times k (range_with_len a n) ≡ 0
times_before k a zero h = refl
times_before k a (suc n) h = omega (arith, times-cons k a (range_with_len (a + 1) n), off k a (λ e. omega arith), times_before k (a + 1) n (omega arith))

times_within : (k a n : ℕ) → a ≤ k → k < a + n → times k (range_with_len a n) ≡ 1
times_within k a zero h l = absurd (omega arith)
times_within k a (suc n) h l = ⊎_elim
    (λ e. let z : k ≡ a = e in let one : tick k a ≡ 1 = subst (λ b. tick k b ≡ 1) z (on k) in omega (arith, times-cons k a (range_with_len (a + 1) n), one, times_before k (a + 1) n (omega arith)))
    (λ (e : k ≢ a). omega (arith, times-cons k a (range_with_len (a + 1) n), off k a e, times_within k (a + 1) n (omega arith) (omega arith)))
    (cases_eq k a)

once_in : (count : ℕ) (ps : List ℕ) → IsPermutation (range_with_len 0 count) ps → (k : ℕ) → k < count → times k ps ≡ 1
once_in count ps p k h = sum_by-IsPermutation (tick k) (range_with_len 0 count) ps p ∙ times_within k 0 count (omega arith) (omega arith)

-- a number below all of a list is not in it
absent : (k : ℕ) (ps : List ℕ) → AllByRecursion (λ p. k < p) ps → times k ps ≡ 0
absent k [] h = refl
absent k (p ∷ ps) h = let l = h.0 in omega (arith, times-cons k p ps, off k p (λ e. omega (arith, l, e)), absent k ps h.1)

-- and one that is not in it is below all, if it is above none
above : (k : ℕ) (ps : List ℕ) → AllByRecursion (λ p. k ≤ p) ps → times k ps ≡ 0 → AllByRecursion (λ p. k + 1 ≤ p) ps
above k [] h e = tt
above k (p ∷ ps) h e =
    let n = times-cons k p ps in
    let l = h.0 in (
      ⊎_elim
          (λ z. let same : k ≡ p = z in let one : tick k p ≡ 1 = subst (λ q. tick k q ≡ 1) same (on k) in absurd (omega (arith, e, n, one)))
          (λ (d : k ≢ p). omega (arith, l))
          (cases_eq k p),
      above k ps h.1 (omega (arith, e, n)),
    )

-- the numbers do not fall along the list
abbrev Rises : List ℕ → Type 0
Rises [] = Unit {0}
Rises (x ∷ xs) = AllByRecursion (λ y. x ≤ y) xs × Rises xs

head_is : (a x : ℕ) (ps : List ℕ) → AllByRecursion (λ y. x ≤ y) ps → a ≤ x → times a (x ∷ ps) ≡ 1 → x ≡ a
head_is a x ps r b once = ⊎_elim
    (λ (e : x ≡ a). e)
    (λ (d : x ≢ a). let l : a < x = omega arith in let none = absent a (x ∷ ps) (l, each_map (λ y. x ≤ y) (λ y. a < y) ps (λ y p. omega arith) r) in absurd (omega (arith, none, once)))
    (cases_eq x a)

-- numbers from a on that do not fall, each once
in_turn : (a : ℕ) (ps : List ℕ) → Rises ps → AllByRecursion (λ p. a ≤ p) ps → ((k : ℕ) → a ≤ k → k < a + length ps → times k ps ≡ 1) → ps ≡ range_with_len a (length ps)
in_turn a [] r b once = refl
in_turn a (x ∷ ps) r b once =
    let n : times a (x ∷ ps) ≡ 1 = once a (omega arith) (omega arith) in
    let e : x ≡ a = head_is a x ps r.0 b.0 n in
    let one : tick a x ≡ 1 = subst (λ y. tick a y ≡ 1) (sym e) (on a) in
    let none : times a ps ≡ 0 = omega (arith, n, times-cons a x ps, one) in
    let rest = in_turn (a + 1) ps r.1 (above a ps b.1 none) (λ k l u. omega (arith, once k (omega arith) (omega arith), times-cons k x ps, off k x (λ z. omega (arith, z, e, l)))) in
    ap (λ y. y ∷ ps) e ∙ ap (λ l. a ∷ l) rest

module _ {Out : Type 0} where
  -- the answers are owed to the parts from j on, one each
  abbrev pub OwedFrom : (ℕ → Out → Type 0) → ℕ → List Out → Type 0
  OwedFrom owes j [] = Unit {0}
  OwedFrom owes j (x ∷ xs) = owes j x × OwedFrom owes (suc j) xs

module _ {Out : Type 0} where
  low : (p : ℕ) (xs : List (ℕ × Out)) → ((j : ℕ) (d : ℕ × Out) → j < length xs → p ≤ (slice_index_or xs j d).0) → AllByRecursion (λ y. p ≤ y) (parts_of xs)
  low p [] h = tt
  low p (x ∷ xs) h = (h 0 x (omega arith), low p xs (λ j d l. h (suc j) d (omega arith)))

  rises : (xs : List (ℕ × Out)) → IsNonDecreasingBy (λ a. a.0) xs → Rises (parts_of xs)
  rises [] h = tt
  rises (x ∷ xs) h = (low x.0 xs (λ j d l. h 0 (suc j) d (omega arith) (omega arith)), rises xs (λ i j d l u. h (suc i) (suc j) d (omega arith) (omega arith)))

  sorted_parts : (count : ℕ) (xs : List (ℕ × Out)) → IsPermutation (range_with_len 0 count) (parts_of xs) → IsNonDecreasingBy (λ a. a.0) xs → parts_of xs ≡ range_with_len 0 count
  sorted_parts count xs once rise =
      let ps : List ℕ = parts_of xs in
      let long : length ps ≡ count = length_permutation (range_with_len 0 count) ps once ∙ length-range_with_len 0 count in
      in_turn 0 ps (rises xs rise) (each_true ps) (λ k l u. once_in count ps once k (omega (arith, long, u))) ∙ ap (range_with_len 0) long

  owed_in_turn : (owes : ℕ → Out → Type 0) (j n : ℕ) (xs : List (ℕ × Out)) → parts_of xs ≡ range_with_len j n → Owed owes xs → OwedFrom owes j (map (λ a. a.1) xs)
  owed_in_turn owes j n [] e h = tt
  owed_in_turn owes j zero (x ∷ xs) e h = absurd (let long = ap length e in omega (arith, long))
  owed_in_turn owes j (suc n) (x ∷ xs) e h =
      let row : x.0 ∷ parts_of xs ≡ j ∷ range_with_len (j + 1) n = e in
      let first : x.0 ≡ j = cc row in
      let rest : parts_of xs ≡ range_with_len (j + 1) n = cc row in
      let z : j + 1 ≡ suc j = omega arith in
      (subst (λ k. owes k x.1) first h.0, owed_in_turn owes (suc j) n xs (rest ∙ ap (λ k. range_with_len k n) z) h.1)

  pub in_order : (owes : ℕ → Out → Type 0) (count : ℕ) (old new : List (ℕ × Out)) (outs : List Out)
      → Owed owes old → IsPermutation (range_with_len 0 count) (parts_of old) → IsPermutation old new → IsNonDecreasingBy (λ a. a.0) new → outs ≡ map (λ a. a.1) new → (length outs ≡ count) × OwedFrom owes 0 outs
  in_order owes count old new outs owed once same rise is =
      let parts : parts_of new ≡ range_with_len 0 count = sorted_parts count new (IsPermutation-trans (range_with_len 0 count) (parts_of old) (parts_of new) once (IsPermutation-map (λ a. a.0) old new same)) rise in
      let all : Owed owes new = recursion_from_All (λ a. owes a.0 a.1) new (All-permutation (λ a. owes a.0 a.1) old new same (All-from_recursion (λ a. owes a.0 a.1) old owed)) in (
        ap length is ∙ length-map new (λ a. a.1) ∙ sym (length-map new (λ a. a.0)) ∙ ap length parts ∙ length-range_with_len 0 count,
        subst (OwedFrom owes 0) (sym is) (owed_in_turn owes 0 count new parts all),
      )

pub owed_at : {Out : Type 0} (owes : ℕ → Out → Type 0) (j : ℕ) (xs : List Out) (i : ℕ) (d : Out) → OwedFrom owes j xs → i < length xs → owes (j + i) (slice_index_or xs i d)
owed_at owes j [] i d h l = absurd (omega arith)
owed_at owes j (x ∷ xs) zero d h l = let z : j ≡ j + 0 = omega arith in subst (λ n. owes n x) z h.0
owed_at owes j (x ∷ xs) (suc i) d h l = let z : suc j + i ≡ j + suc i = omega arith in subst (λ n. owes n (slice_index_or xs i d)) z (owed_at owes (suc j) xs i d h.1 (omega arith))

pub owed_each : {Out : Type 0} (owes : ℕ → Out → Type 0) (count : ℕ) (xs : List Out) → length xs ≡ count → OwedFrom owes 0 xs → AnswersEach owes count xs
owed_each owes count xs n h k d l = let z : 0 + k ≡ k = omega arith in subst (λ i. owes i (slice_index_or xs k d)) z (owed_at owes 0 xs k d h (omega arith))
