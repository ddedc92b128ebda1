-- Each kind of step keeps the rule, whatever the other views are.
use Rattle.std.proofs.Common.{◌≡◌, ◌≢◌, ◌⊎◌, ℕ, zero, suc, ◌+◌, ◌-◌, ◌<◌, ◌≤◌, false, true≢false, List, [], ◌∷◌, ◌++◌, length, set, sym, refl, ap, ◌∙◌, subst, ⊎_elim, inl, inr, arith, length-append}
use mathlib.Core.Option.{some, some-ne-none, some-injective}
use lib.ListN.{get_elem?}
use Rattle.std.proofs.Math.ListN.{length-set}
use Rattle.crossbeam_deque.specs.Tasks.{Pushes, Takes, Finds, FindsFew, Forks, Merges}
use Rattle.crossbeam_deque.proofs.Lists.{at_set}
use Rattle.sia_pool.specs.declared.rule.View.{View}
use Rattle.std.specs.Prelude.{replicate}
use Rattle.std.specs.List.{AllByRecursion, range_with_len}
use Rattle.std.proofs.lemmas.List.{length-replicate}
use Rattle.std.proofs.lemmas.List.FromFn.{length-range_with_len}
use Rattle.std.proofs.lemmas.List.Sorted.{length_permutation}
use Rattle.sia_pool.specs.Core.{with_part, Reached}
use Rattle.sia_pool.specs.View.{owner_view, stealer_view, spent_view, with_share, line_size}
use Rattle.sia_pool.specs.Rule.{shares_by, HoldsAt, Holds}
use Rattle.sia_pool.specs.Steps.{Took, NothingLeft}
use Rattle.sia_pool.proofs.CoreLemmas.{dealt, range_push, reached_take, reached_opening, reached_padded, each_map, each_true, Ascends, Low}

pub length-shares_by : (back : List (List ℕ)) (ts : List View) (n : ℕ) → length (shares_by back ts n) ≡ length ts + n
length-shares_by [] [] n = let e : length (replicate {A = List ℕ} n []) ≡ n = length-replicate {A = List ℕ} n [] in omega (arith, e)
length-shares_by (s ∷ back) [] n = let e : length (replicate {A = List ℕ} n []) ≡ n = length-replicate {A = List ℕ} n [] in omega (arith, e)
length-shares_by [] (t ∷ ts) n = omega (arith, length-shares_by [] ts n)
length-shares_by (s ∷ back) (t ∷ ts) n = omega (arith, length-shares_by back ts n)

-- a taker whose view was not taken back has the share of its place
share_at : (back : List (List ℕ)) (ts : List View) (n j : ℕ) (t : View) → length back ≤ j → get_elem? ts j ≡ some t → get_elem? (shares_by back ts n) j ≡ some t.share
share_at back [] n j t h e = absurd (some-ne-none t (sym e))
share_at [] (u ∷ ts) n zero t h e = ap (λ (m : View). some m.share) (some-injective u t e)
share_at [] (u ∷ ts) n (suc j) t h e = share_at [] ts n j t (omega arith) e
share_at (s ∷ back) (u ∷ ts) n zero t h e = absurd (omega arith)
share_at (s ∷ back) (u ∷ ts) n (suc j) t h e = share_at back ts n j t (omega arith) e

-- a taker that takes changes its own share and no other
with_part_at : (back : List (List ℕ)) (ts : List View) (n j : ℕ) (t : View) (x : ℕ) → length back ≤ j → get_elem? ts j ≡ some t → with_part (shares_by back ts n) j x ≡ shares_by back (set ts j (with_share t (t.share ++ x ∷ []))) n
with_part_at back [] n j t x h e = absurd (some-ne-none t (sym e))
with_part_at [] (u ∷ ts) n zero t x h e = ap (λ (m : View). (m.share ++ x ∷ []) ∷ shares_by [] ts n) (some-injective u t e)
with_part_at [] (u ∷ ts) n (suc j) t x h e = ap (λ l. u.share ∷ l) (with_part_at [] ts n j t x (omega arith) e)
with_part_at (s ∷ back) (u ∷ ts) n zero t x h e = absurd (omega arith)
with_part_at (s ∷ back) (u ∷ ts) n (suc j) t x h e = ap (λ l. s ∷ l) (with_part_at back ts n j t x (omega arith) e)

at_lt : {A : Type 0} (l : List A) (j : ℕ) (a : A) → get_elem? l j ≡ some a → j < length l
at_lt [] j a e = absurd (some-ne-none a (sym e))
at_lt (x ∷ l) zero a e = omega arith
at_lt (x ∷ l) (suc j) a e = omega (arith, at_lt l j a e)

each_at : {A : Type 0} (P : A → Type 0) (l : List A) (j : ℕ) (a : A) → AllByRecursion P l → get_elem? l j ≡ some a → P a
each_at P [] j a h e = absurd (some-ne-none a (sym e))
each_at P (x ∷ l) zero a h e = subst P (some-injective x a e) h.0
each_at P (x ∷ l) (suc j) a h e = each_at P l j a h.1 e

-- parts that ascend, from a on and below c, are few
few_parts : (s : List ℕ) (a c : ℕ) → a ≤ c → Ascends s → AllByRecursion (λ y. a ≤ y) s → AllByRecursion (λ y. y < c) s → length s + a ≤ c
few_parts [] a c h r f b = omega arith
few_parts (x ∷ s) a c h r f b =
    let k = few_parts s (suc x) c (omega (arith, b.0)) r.1 (each_map (λ y. x < y) (λ y. suc x ≤ y) s (λ y p. omega arith) r.0) b.1 in
    omega (arith, f.0, k)

-- while a part is left, each share has fewer parts than there are
pub room : (count workers x : ℕ) (left : List ℕ) (shares : List (List ℕ)) (j : ℕ) (s : List ℕ) → Reached count workers (x ∷ left) shares → get_elem? shares j ≡ some s → length s < count
room count workers x left shares j s r e =
    let g = dealt count workers (x ∷ left) shares r in
    let low = each_at (Low (length r.takers)) shares j s g.low e in
    let k = few_parts s 0 (length r.takers) (omega arith) low.0 (each_true s) low.1 in
    omega (arith, g.total, k)

abbrev Taken : List ℕ → List View → ℕ → View → ℕ → Type 0
Taken items views port v x = (w : View) × Holds items (set views port w) × Took v (x ∷ []) w

take_first : (o : View) (ts : List View) (x : ℕ) (items : List ℕ) → HoldsAt (x ∷ items) o ts → Taken items (o ∷ ts) 0 o x
take_first o ts x items k =
    let shares = o.share ∷ shares_by o.back ts k.waiting in (
      with_share o (o.share ++ x ∷ []),
      record {
        first = k.first;
        live = k.live;
        given = k.given;
        back = k.back;
        waiting = k.waiting;
        all = k.all;
        reached = reached_take o.count o.workers 0 x items shares (omega arith) k.reached;
        seated = k.seated;
      },
      (
        refl,
        record {
          left = items;
          shares = shares;
          before = k.reached;
          mine = ap (λ n. get_elem? shares n) k.first;
          room = room o.count o.workers x items shares 0 o.share k.reached refl;
        },
      ),
    )

take_later : (o : View) (ts : List View) (x : ℕ) (items : List ℕ) (j : ℕ) (t : View) → HoldsAt (x ∷ items) o ts → get_elem? ts j ≡ some t → t.spent ≡ false → Taken items (o ∷ ts) (suc j) t x
take_later o ts x items j t k at live =
    let shares = o.share ∷ shares_by o.back ts k.waiting in
    let w = with_share t (t.share ++ x ∷ []) in
    let sat = k.seated j t at live in
    let mine : get_elem? shares (suc j) ≡ some t.share = share_at o.back ts k.waiting j t sat.3 at in
    let less : suc j < length shares = omega (arith, at_lt ts j t at, length-shares_by o.back ts k.waiting) in
    let after = reached_take o.count o.workers (suc j) x items shares less k.reached in
    let same : with_part shares (suc j) x ≡ o.share ∷ shares_by o.back (set ts j w) k.waiting = ap (λ l. o.share ∷ l) (with_part_at o.back ts k.waiting j t x sat.3 at) in
    let long : length (set ts j w) ≡ length ts = length-set ts j w in (
      w,
      record {
        first = k.first;
        live = k.live;
        given = k.given ∙ sym long;
        back = subst (λ n. length o.back ≤ n) (sym long) k.back;
        waiting = k.waiting;
        all = ap (λ n. suc n + k.waiting) long ∙ k.all;
        reached = subst (Reached o.count o.workers items) same after;
        seated = λ i u there fresh. ⊎_elim (λ y. (ap (λ (m : View). m.number) (sym y.1) ∙ sat.0 ∙ ap suc (sym y.0), ap (λ (m : View). m.count) (sym y.1) ∙ sat.1, ap (λ (m : View). m.workers) (sym y.1) ∙ sat.2, subst (λ n. length o.back ≤ n) (sym y.0) sat.3)) (λ y. k.seated i u y.1 fresh) (at_set ts j i w u there);
      },
      (
        refl,
        record {
          left = items;
          shares = shares;
          before = subst (λ n. Reached t.count n (x ∷ items) shares) (sym sat.2) (subst (λ c. Reached c o.workers (x ∷ items) shares) (sym sat.1) k.reached);
          mine = ap (λ n. get_elem? shares n) sat.0 ∙ mine;
          room = subst (λ c. length t.share < c) (sym sat.1) (room o.count o.workers x items shares (suc j) t.share k.reached mine);
        },
      ),
    )

pub takes : (port : ℕ) (v : View) → v.spent ≡ false → Takes Holds port v 1 (Took v)
takes port v live [] items views a b h at = absurd (omega arith)
takes port v live (x ∷ y ∷ xs) items views a b h at = absurd (omega arith)
takes port v live (x ∷ []) items [] a b h at = absurd h
takes zero v live (x ∷ []) items (o ∷ ts) a b h at = subst (λ u. Taken items (o ∷ ts) 0 u x) (some-injective o v at) (take_first o ts x items h)
takes (suc j) v live (x ∷ []) items (o ∷ ts) a b h at = take_later o ts x items j v h at live

shares_back : (back : List (List ℕ)) (ts : List View) (n : ℕ) → length back ≡ length ts → n ≡ 0 → shares_by back ts n ≡ back
shares_back [] [] n e z = ap (λ m. replicate m []) z
shares_back [] (t ∷ ts) n e z = absurd (omega arith)
shares_back (s ∷ back) [] n e z = absurd (omega arith)
shares_back (s ∷ back) (t ∷ ts) n e z = ap (λ l. s ∷ l) (shares_back back ts n (omega arith) z)

find_first : (o : View) (ts : List View) → HoldsAt [] o ts → NothingLeft o
find_first o ts k = grind (arith, get_elem?, shares_back)

find_later : (o : View) (ts : List View) (j : ℕ) (t : View) → HoldsAt [] o ts → get_elem? ts j ≡ some t → t.spent ≡ false → NothingLeft t
find_later o ts j t k at live = grind (arith, get_elem?, share_at)

pub finds : (port : ℕ) (v : View) → v.spent ≡ false → Finds Holds port v (NothingLeft v)
finds port v live h p at = grind (arith, some-injective, find_first, find_later)

pub finds_few : (n port : ℕ) (v : View) → n ≡ 0 → v.spent ≡ false → FindsFew Holds n port v (NothingLeft v)
finds_few n port v e live [] views few h at = finds port v live views h at
finds_few n port v e live (x ∷ items) views few h at = absurd (omega arith)

pub begins : Holds [] (owner_view 0 1 [] 0 [] ∷ [])
begins = record { first = refl; live = refl; given = refl; back = omega arith; waiting = 0; all = omega arith; reached = reached_opening 0 1; seated = λ j t e _. absurd (some-ne-none t (sym e)) }

-- with nothing taken and no view given out, the state is the opening one
untaken : (count : ℕ) (items : List ℕ) → Reached count 1 items ([] ∷ []) → items ≡ range_with_len 0 count
untaken count items r =
    let g = dealt count 1 items ([] ∷ []) r in
    let size = length_permutation (range_with_len 0 (length r.takers)) [] g.once in
    let none : length r.takers ≡ 0 = sym (length-range_with_len 0 (length r.takers)) ∙ sym size in
    let long : length items ≡ count = omega (arith, g.total, none) in
    g.rest ∙ ap (λ c. range_with_len c (length items)) none ∙ ap (range_with_len 0) long

zero-add' : (n : ℕ) → n ≡ 0 + n
zero-add' n = omega arith

add-one' : (n : ℕ) → suc n ≡ n + 1
add-one' n = omega arith

place : (count : ℕ) (items : List ℕ) (ts : List View) → HoldsAt items (owner_view count 1 [] 0 []) ts → HoldsAt (items ++ count ∷ []) (owner_view (count + 1) 1 [] 0 []) ts
place count items (t ∷ ts) k = absurd (let g : 0 ≡ suc (length ts) = k.given in omega arith)
place count items [] k =
    let none : k.waiting ≡ 0 = let all = k.all in omega (arith, all) in
    let alone : Reached count 1 items ([] ∷ []) = subst (λ n. Reached count 1 items ([] ∷ replicate n [])) none k.reached in
    let e : range_with_len 0 (suc count) ≡ items ++ count ∷ [] = sym (ap (λ l. l ++ count ∷ []) (untaken count items alone) ∙ ap (λ n. range_with_len 0 count ++ n ∷ []) (zero-add' count) ∙ range_push 0 count) in
    record {
      first = refl;
      live = refl;
      given = refl;
      back = omega arith;
      waiting = 0;
      all = omega arith;
      reached = subst (λ l. Reached (count + 1) 1 l ([] ∷ [])) e (subst (λ n. Reached n 1 (range_with_len 0 (suc count)) ([] ∷ [])) (add-one' count) (reached_opening (suc count) 1));
      seated = λ j t there _. absurd (some-ne-none t (sym there));
    }

pub pushes : (port : ℕ) (v : View) (x : ℕ) → v ≡ owner_view x 1 [] 0 [] → Pushes Holds port v (x ∷ []) (λ w. w ≡ owner_view (v.count + length (x ∷ [])) 1 [] 0 [])
pushes port v x is items h p at = grind (arith, some-injective, place)

at_end : (l : List View) (a b : View) (j : ℕ) → get_elem? (l ++ a ∷ []) j ≡ some b → (get_elem? l j ≡ some b) ⊎ ((j ≡ length l) × (a ≡ b))
at_end [] a b zero e = inr (refl, some-injective a b e)
at_end [] a b (suc j) e = absurd (some-ne-none b (sym e))
at_end (x ∷ xs) a b zero e = inl e
at_end (x ∷ xs) a b (suc j) e = ⊎_elim (λ y. inl y) (λ y. inr (ap suc y.0, y.1)) (at_end xs a b j e)

-- the view of the first that waits is given out, with an empty share
shares_more : (back : List (List ℕ)) (ts : List View) (t : View) (n : ℕ) → length back ≤ length ts → t.share ≡ [] → shares_by back ts (suc n) ≡ shares_by back (ts ++ t ∷ []) n
shares_more [] [] t n h e = ap (λ l. l ∷ replicate n []) (sym e)
shares_more (s ∷ back) [] t n h e = absurd (omega arith)
shares_more [] (u ∷ ts) t n h e = ap (λ l. u.share ∷ l) (shares_more [] ts t n (omega arith) e)
shares_more (s ∷ back) (u ∷ ts) t n h e = ap (λ l. s ∷ l) (shares_more back ts t n (omega arith) e)

fork : (o : View) (ts : List View) (items : List ℕ) → suc (length ts) < o.workers → HoldsAt items o ts → HoldsAt items (owner_view o.count o.workers o.share (o.given + 1) o.back) (ts ++ stealer_view (o.given + 1) o.count o.workers [] ∷ [])
fork o ts items less k =
    let t = stealer_view (o.given + 1) o.count o.workers [] in
    let long : suc (length ts) ≡ length (ts ++ t ∷ []) = omega (arith, length-append ts (t ∷ [])) in
    let rest = o.workers - suc (suc (length ts)) in
    let all = k.all in
    let one : k.waiting ≡ suc rest = omega (arith, all, less) in
    record {
      first = refl;
      live = refl;
      given = omega (arith, k.given, long);
      back = omega (arith, k.back, long);
      waiting = rest;
      all = omega (arith, long, less);
      reached = subst (λ l. Reached o.count o.workers items (o.share ∷ l)) (ap (shares_by o.back ts) one ∙ shares_more o.back ts t rest k.back refl) k.reached;
      seated = λ j u there fresh. ⊎_elim (λ old. k.seated j u old fresh)
          (λ y. (ap (λ (m : View). m.number) (sym y.1) ∙ (let g : o.given + 1 ≡ suc j = omega (arith, k.given, y.0) in g), ap (λ (m : View). m.count) (sym y.1), ap (λ (m : View). m.workers) (sym y.1), (let g : length o.back ≤ j = omega (arith, k.back, y.0) in g)))
          (at_end ts t u j there);
    }

abbrev with_workers : View → ℕ → View
with_workers o n = record { number = o.number; spent = o.spent; count = o.count; workers = n; share = o.share; given = o.given; back = o.back }

-- before it gives the first view out, the owner says how many takers there will be
say : (o : View) (items : List ℕ) (n : ℕ) → 1 < n → o.workers ≡ 1 → HoldsAt items o [] → HoldsAt items (with_workers o n) []
say o items n less one k =
    let none : k.waiting ≡ 0 = let all = k.all in omega (arith, all, one) in
    let alone : Reached o.count 1 items (o.share ∷ shares_by o.back [] 0) = subst (λ m. Reached o.count 1 items (o.share ∷ shares_by o.back [] m)) none (subst (λ m. Reached o.count m items (o.share ∷ shares_by o.back [] k.waiting)) one k.reached) in
    let size : (n - 1) + 1 ≡ n = omega (arith, less) in
    record {
      first = k.first;
      live = k.live;
      given = k.given;
      back = k.back;
      waiting = n - 1;
      all = omega (arith, less);
      reached = subst (λ m. Reached o.count m items (o.share ∷ replicate (n - 1) [])) size (reached_padded o.count 1 (n - 1) items (o.share ∷ []) alone);
      seated = λ j t there _. absurd (some-ne-none t (sym there));
    }

fork_any : (o : View) (ts : List View) (items : List ℕ) (n : ℕ) → suc o.given < n → o.workers ≡ line_size n o.given → HoldsAt items o ts
    → HoldsAt items (owner_view o.count n o.share (o.given + 1) o.back) (ts ++ stealer_view (o.given + 1) o.count n [] ∷ [])
fork_any o [] items n less size k =
    let g : o.given ≡ 0 = k.given in
    let one : o.workers ≡ 1 = size ∙ ap (line_size n) g in
    fork (with_workers o n) [] items (omega (arith, less, g)) (say o items n (omega (arith, less, g)) one k)
fork_any o (t ∷ ts) items n less size k =
    let g : o.given ≡ suc (length ts) = k.given in
    let same : o.workers ≡ n = size ∙ ap (line_size n) g in
    subst (λ m. HoldsAt items (owner_view o.count m o.share (o.given + 1) o.back) ((t ∷ ts) ++ stealer_view (o.given + 1) o.count m [] ∷ [])) same
    (fork o (t ∷ ts) items (let l : suc (suc (length ts)) < o.workers = omega (arith, less, g, same) in l) k)

pub forks : (port : ℕ) (v : View) (n : ℕ) → v.number ≡ 0 → v.spent ≡ false → suc v.given < n → v.workers ≡ line_size n v.given → Forks Holds port v (owner_view v.count n v.share (v.given + 1) v.back) (stealer_view (v.given + 1) v.count n [])
forks port v n first live less size items h p at = grind (arith, some-injective, fork_any)

shares_kept : (back : List (List ℕ)) (ts : List View) (n i : ℕ) (u : View) → i ≡ length back → get_elem? ts i ≡ some u → shares_by (back ++ u.share ∷ []) (set ts i spent_view) n ≡ shares_by back ts n
shares_kept back [] n i u e there = absurd (some-ne-none u (sym there))
shares_kept [] (t ∷ ts) n zero u e there = ap (λ (m : View). m.share ∷ shares_by [] ts n) (sym (some-injective t u there))
shares_kept [] (t ∷ ts) n (suc i) u e there = absurd (omega arith)
shares_kept (s ∷ back) (t ∷ ts) n zero u e there = absurd (omega arith)
shares_kept (s ∷ back) (t ∷ ts) n (suc i) u e there = ap (λ l. s ∷ l) (shares_kept back ts n i u (omega arith) there)

apart : (n i j m : ℕ) → m ≡ suc n → i ≡ n → n ≤ j → j ≢ i → m ≤ j
apart n i j m a b c d = omega arith

merge : (o : View) (ts : List View) (items : List ℕ) (i : ℕ) (u : View) → HoldsAt items o ts → get_elem? ts i ≡ some u → u.spent ≡ false → u.number ≡ suc (length o.back) → HoldsAt items (owner_view o.count o.workers o.share o.given (o.back ++ u.share ∷ [])) (set ts i spent_view)
merge o ts items i u k there fresh next = grind (arith, length-set, length-append, at_lt, shares_kept, true≢false, apart, at_set)

pub merges : (port : ℕ) (v : View) (other : ℕ) (u : View) → v.number ≡ 0 → v.spent ≡ false → u.spent ≡ false → u.number ≡ suc (length v.back) → Merges Holds port v other u (owner_view v.count v.workers v.share v.given (v.back ++ u.share ∷ [])) spent_view
merges port v other u first live fresh next items h p at two there = grind (arith, some-injective, merge)
