-- Each state in which c parts are dealt is reached: the last part dealt is taken back, and the induction goes on.
use Rattle.std.proofs.Common.{◌≡◌, ◌≢◌, ⊎_elim, ℕ, zero, suc, ◌+◌, ◌-◌, ◌<◌, ◌≤◌, cond, eqb, ltb, List, [], ◌∷◌, ◌++◌, length, sym, refl, ap, ◌∙◌, subst, arith}
use Rattle.std.specs.Prelude.{replicate, AllPairs, IsPermutation}
use Rattle.std.specs.List.{AllByRecursion, range_with_len, concat}
use Rattle.std.specs.List.Sorted.{IsStrictlyIncreasing}
use Rattle.std.proofs.lemmas.Bool.{cases_eq}
use Rattle.std.proofs.lemmas.Bool.Decides.{nat_tests}
use Rattle.std.proofs.lemmas.List.Elements.{recursion_from_All}
use Rattle.std.proofs.lemmas.List.Kept.{AllPairs-from_increasing}
use Rattle.std.proofs.lemmas.List.Recursion.{is_sum_by}
use Rattle.std.proofs.lemmas.List.Sorted.{sum_by-IsPermutation}
use Rattle.sia_pool.specs.Core.{with_part, Reached, IsDealt}
use Rattle.sia_pool.proofs.CoreLemmas.{Ascends, each_map, reached_opening, reached_take, length-with_part}

abbrev tick : ℕ → ℕ → ℕ
tick k p = cond (eqb k p) 1 0

-- how often k stands in a list, and in some lists
abbrev tally : ℕ → List ℕ → ℕ
tally k [] = 0
tally k (x ∷ xs) = tick k x + tally k xs

abbrev tally_all : ℕ → List (List ℕ) → ℕ
tally_all k [] = 0
tally_all k (s ∷ shares) = tally k s + tally_all k shares

abbrev below : ℕ → ℕ → ℕ
below k c = cond (ltb k c) 1 0

off : (k p : ℕ) → k ≢ p → tick k p ≡ 0
off k p n = grind (arith, nat_tests)

on : (p : ℕ) → tick p p ≡ 1
on p = grind (arith, nat_tests)

below_more : (k c : ℕ) → below k (suc c) ≡ below k c + tick k c
below_more k c = grind (arith, nat_tests)

below_none : (k : ℕ) → below k 0 ≡ 0
below_none k = grind (arith, nat_tests)

below_past : (k c : ℕ) → c ≤ k → below k c ≡ 0
below_past k c h = grind (arith, nat_tests)

below_here : (c : ℕ) → below c (suc c) ≡ 1
below_here c = grind (arith, nat_tests)

tally-append : (k : ℕ) (xs ys : List ℕ) → tally k (xs ++ ys) ≡ tally k xs + tally k ys
tally-append k [] ys = omega arith
tally-append k (x ∷ xs) ys = omega (arith, tally-append k xs ys)

tally-concat : (k : ℕ) (shares : List (List ℕ)) → tally k (concat shares) ≡ tally_all k shares
tally-concat k [] = refl
tally-concat k (s ∷ shares) = omega (arith, tally-append k s (concat shares), tally-concat k shares)

tally-range : (k a n : ℕ) → tally k (range_with_len a n) + below k a ≡ below k (a + n)
tally-range k a zero = let e : a ≡ a + 0 = omega arith in let same = ap (below k) e in omega (arith, same)
tally-range k a (suc n) =
    let e : (a + 1) + n ≡ a + suc n = omega arith in
    let one : suc a ≡ a + 1 = omega arith in
    let step = tally-range k (a + 1) n ∙ ap (below k) e in
    let more : below k (a + 1) ≡ below k a + tick k a = ap (below k) (sym one) ∙ below_more k a in
    omega (arith, step, more)

-- what a permutation of the parts below c counts
tally-dealt : (c : ℕ) (shares : List (List ℕ)) → IsPermutation (range_with_len 0 c) (concat shares) → (k : ℕ) → tally_all k shares ≡ below k c
tally-dealt c shares p k =
    let counts = is_sum_by (tally k) (tick k) refl (λ _ _. refl) in
    let all : tally k (concat shares) ≡ tally k (range_with_len 0 c) = counts (concat shares) ∙ sum_by-IsPermutation (tick k) (range_with_len 0 c) (concat shares) p ∙ sym (counts (range_with_len 0 c)) in
    let z : 0 + c ≡ c = omega arith in
    let row : tally k (range_with_len 0 c) + below k 0 ≡ below k c = tally-range k 0 c ∙ ap (below k) z in
    omega (arith, all, row, below_none k, tally-concat k shares)

ascends_from_pairs : (xs : List ℕ) → AllPairs (λ x y. x < y) xs → Ascends xs
ascends_from_pairs [] p = tt
ascends_from_pairs (x ∷ xs) p = (
  recursion_from_All (λ y. x < y) xs (λ k d h. p 0 (suc k) d (omega arith) (omega arith)),
  ascends_from_pairs xs (λ i j d h l. p (suc i) (suc j) d (omega arith) (omega arith)),
)

-- a list whose last number is c
record EndsIn (c : ℕ) (s : List ℕ) : Type 0 where
  front : List ℕ
  is : s ≡ front ++ c ∷ []
  ascends : Ascends front

each_front : {X : Type 0} (P : X → Type 0) (xs ys : List X) → AllByRecursion P (xs ++ ys) → AllByRecursion P xs
each_front P [] ys h = tt
each_front P (x ∷ xs) ys h = (h.0, each_front P xs ys h.1)

-- of numbers that ascend, with none above c, c can only be the last
ends_in : (c : ℕ) (s : List ℕ) → Ascends s → ((k : ℕ) → suc c ≤ k → tally k s ≡ 0) → tally c s ≢ 0 → EndsIn c s
ends_in c [] a above here = absurd (here refl)
ends_in c (x ∷ []) a above here = ⊎_elim
    (λ (e : c ≡ x). record { front = []; is = ap (λ n. n ∷ []) (sym e); ascends = tt })
    (λ (e : c ≢ x). absurd (here (let z = off c x e in omega (arith, z))))
    (cases_eq c x)
ends_in c (x ∷ y ∷ s) a above here =
    let more : tally c (y ∷ s) ≢ 0 = λ (none : tally c (y ∷ s) ≡ 0). ⊎_elim
    (λ (e : c ≡ x). let less : suc c ≤ y = let l : x < y = a.0.0 in omega (arith, l, e) in let z = above y less in let one = on y in omega (arith, z, one))
    (λ (e : c ≢ x). here (let z = off c x e in omega (arith, z, none)))
    (cases_eq c x) in
    let rest = ends_in c (y ∷ s) a.1 (λ k h. let z = above k h in omega (arith, z)) more in
    record {
      front = x ∷ rest.front;
      is = ap (λ l. x ∷ l) rest.is;
      ascends = (each_front (λ z. x < z) rest.front (c ∷ []) (subst (AllByRecursion (λ z. x < z)) rest.is a.0), rest.ascends);
    }

-- the shares before part c was taken
record Before (c : ℕ) (shares : List (List ℕ)) : Type 0 where
  worker : ℕ
  old : List (List ℕ)
  is_worker : worker < length old
  is : shares ≡ with_part old worker c
  ascends : AllByRecursion Ascends old
  counts : (k : ℕ) → tally_all k shares ≡ tally_all k old + tick k c

-- another worker took it
before_later : (c : ℕ) (s : List ℕ) (shares : List (List ℕ)) → tally c s ≡ 0 → Ascends s → Before c shares → Before c (s ∷ shares)
before_later c s shares none a rest = record {
  worker = suc rest.worker;
  old = s ∷ rest.old;
  is_worker = let l = rest.is_worker in omega (arith, l);
  is = ap (λ l. s ∷ l) rest.is;
  ascends = (a, rest.ascends);
  counts = λ k. let z = rest.counts k in omega (arith, z);
}

-- the first worker took it
before_here : (c : ℕ) (s : List ℕ) (shares : List (List ℕ)) → EndsIn c s → AllByRecursion Ascends shares → Before c (s ∷ shares)
before_here c s shares end a = record {
  worker = 0;
  old = end.front ∷ shares;
  is_worker = omega arith;
  is = ap (λ l. l ∷ shares) end.is;
  ascends = (end.ascends, a);
  counts = λ k. let z = ap (tally k) end.is ∙ tally-append k end.front (c ∷ []) in omega (arith, z);
}

before : (c : ℕ) (shares : List (List ℕ)) → AllByRecursion Ascends shares → ((k : ℕ) → suc c ≤ k → tally_all k shares ≡ 0) → tally_all c shares ≡ 1 → Before c shares
before c [] a above here = absurd (omega arith)
before c (s ∷ shares) a above here = ⊎_elim
    (λ (none : tally c s ≡ 0). before_later c s shares none a.0 (before c shares a.1 (λ k h. let z = above k h in omega (arith, z)) (omega (arith, here, none))))
    (λ (some : tally c s ≢ 0). before_here c s shares (ends_in c s a.0 (λ k h. let z = above k h in omega (arith, z)) some) a.1)
    (cases_eq (tally c s) 0)

all_empty : (shares : List (List ℕ)) → ((k : ℕ) → tally_all k shares ≡ 0) → shares ≡ replicate (length shares) []
all_empty [] h = refl
all_empty ([] ∷ shares) h = ap (λ l. [] ∷ l) (all_empty shares (λ k. let z = h k in omega (arith, z)))
all_empty ((x ∷ s) ∷ shares) h = absurd (let z = h x in let one = on x in omega (arith, z, one))

reach : (count workers c : ℕ) (shares : List (List ℕ)) → c ≤ count → length shares ≡ workers → AllByRecursion Ascends shares → ((k : ℕ) → tally_all k shares ≡ below k c) → Reached count workers (range_with_len c (count - c)) shares
reach count workers zero shares h n a counts =
    let empty : shares ≡ replicate workers [] = all_empty shares (λ k. counts k ∙ below_none k) ∙ ap (λ m. replicate m []) n in
    let z : count ≡ count - 0 = omega arith in
    subst (λ l. Reached count workers (range_with_len 0 (count - 0)) l) (sym empty) (subst (λ m. Reached count workers (range_with_len 0 m) (replicate workers [])) z (reached_opening count workers))
reach count workers (suc c) shares h n a counts =
    let b = before c shares a (λ k l. counts k ∙ below_past k (suc c) l) (counts c ∙ below_here c) in
    let long : length b.old ≡ workers = sym (length-with_part b.old b.worker c) ∙ sym (ap length b.is) ∙ n in
    let r = reach count workers c b.old (omega arith) long b.ascends (λ k. let x = counts k in let y = b.counts k in let z = below_more k c in omega (arith, x, y, z)) in
    let m : count - c ≡ suc (count - suc c) = omega (arith, h) in
    let one : c + 1 ≡ suc c = omega arith in
    let row : range_with_len c (count - c) ≡ c ∷ range_with_len (suc c) (count - suc c) = ap (range_with_len c) m ∙ ap (λ i. c ∷ range_with_len i (count - suc c)) one in
    let t = reached_take count workers b.worker c (range_with_len (suc c) (count - suc c)) b.old b.is_worker (subst (λ l. Reached count workers l b.old) row r) in
    subst (Reached count workers (range_with_len (suc c) (count - suc c))) (sym b.is) t

pub is_reached : (count workers c : ℕ) (left : List ℕ) (shares : List (List ℕ)) → IsDealt count workers c left shares → Reached count workers left shares
is_reached count workers c left shares d =
    let ascends = each_map IsStrictlyIncreasing Ascends shares (λ s h. ascends_from_pairs s (AllPairs-from_increasing s h)) (recursion_from_All IsStrictlyIncreasing shares d.ascending) in
    let r = reach count workers c shares d.taken d.each_worker ascends (tally-dealt c shares d.once) in
    subst (λ l. Reached count workers l shares) (sym d.rest) r
