-- What holds of each state that the core reaches, and the states that one event more or one worker more reaches.
use Rattle.std.proofs.Common.{◌≡◌, ℕ, zero, suc, ◌+◌, ◌-◌, ◌<◌, ◌≤◌, List, [], ◌∷◌, ◌++◌, length, sym, refl, ap, ◌∙◌, subst, arith, append_assoc, length-append}
use Rattle.std.specs.Prelude.{replicate, slice_index, IsPermutation}
use Rattle.std.specs.List.{AllByRecursion, range_with_len, concat}
use Rattle.std.specs.List.Sorted.{IsStrictlyIncreasing}
use Rattle.std.proofs.lemmas.List.{append-nil, length-replicate}
use Rattle.std.proofs.lemmas.List.Elements.{All-from_recursion}
use Rattle.std.proofs.lemmas.List.FromFn.{length-range_with_len}
use Rattle.std.proofs.lemmas.List.Sorted.{IsPermutation-refl, IsPermutation-trans, IsPermutation-to_front, IsPermutation-append_left, IsPermutation-append_right}
use Rattle.sia_pool.specs.Core.{State, opening, with_part, Takes, TakeInTurn, Reached, IsDealt}

-- one more number at the end
pub range_push : (a n : ℕ) → range_with_len a n ++ (a + n) ∷ [] ≡ range_with_len a (suc n)
range_push a zero = let e : a + 0 ≡ a = omega arith in ap (λ b. b ∷ []) e
range_push a (suc n) = let e : a + suc n ≡ (a + 1) + n = omega arith in ap (λ l. a ∷ l) (ap (λ b. range_with_len (a + 1) n ++ b ∷ []) e ∙ range_push (a + 1) n)

pub replicate_push : (n : ℕ) → replicate {A = List ℕ} n [] ++ [] ∷ [] ≡ replicate (suc n) []
replicate_push zero = refl
replicate_push (suc n) = ap (λ l. [] ∷ l) (replicate_push n)

pub length-with_part : (shares : List (List ℕ)) (w x : ℕ) → length (with_part shares w x) ≡ length shares
length-with_part [] w x = refl
length-with_part (s ∷ shares) zero x = refl
length-with_part (s ∷ shares) (suc w) x = ap suc (length-with_part shares w x)

-- the shares together gain the part, and nothing else
concat-with_part : (shares : List (List ℕ)) (w x : ℕ) → w < length shares → IsPermutation (concat shares ++ x ∷ []) (concat (with_part shares w x))
concat-with_part [] w x h = absurd (omega arith)
concat-with_part (s ∷ shares) zero x h =
    let p = IsPermutation-append_right s (concat shares ++ x ∷ []) (x ∷ concat shares) (IsPermutation-to_front (concat shares) x) in
    subst (λ l. IsPermutation l ((s ++ x ∷ []) ++ concat shares)) (sym (append_assoc s (concat shares) (x ∷ [])))
    (subst (IsPermutation (s ++ (concat shares ++ x ∷ []))) (sym (append_assoc s (x ∷ []) (concat shares))) p)
concat-with_part (s ∷ shares) (suc w) x h =
    let p = IsPermutation-append_right s (concat shares ++ x ∷ []) (concat (with_part shares w x)) (concat-with_part shares w x (omega arith)) in
    subst (λ l. IsPermutation l (s ++ concat (with_part shares w x))) (sym (append_assoc s (concat shares) (x ∷ []))) p

pub each_map : {X : Type 0} (P Q : X → Type 0) (xs : List X) → ((x : X) → P x → Q x) → AllByRecursion P xs → AllByRecursion Q xs
each_map P Q [] f h = tt
each_map P Q (x ∷ xs) f h = (f x h.0, each_map P Q xs f h.1)

pub each_push : {X : Type 0} (P : X → Type 0) (xs : List X) (x : X) → AllByRecursion P xs → P x → AllByRecursion P (xs ++ x ∷ [])
each_push P [] x h p = (p, tt)
each_push P (y ∷ xs) x h p = (h.0, each_push P xs x h.1 p)

pub each_true : (s : List ℕ) → AllByRecursion (λ y. 0 ≤ y) s
each_true [] = tt
each_true (x ∷ s) = (omega arith, each_true s)

-- each number is below all later ones
abbrev pub Ascends : List ℕ → Type 0
Ascends [] = Unit {0}
Ascends (x ∷ xs) = AllByRecursion (λ y. x < y) xs × Ascends xs

ascends_push : (xs : List ℕ) (x : ℕ) → Ascends xs → AllByRecursion (λ y. y < x) xs → Ascends (xs ++ x ∷ [])
ascends_push [] x a b = (tt, tt)
ascends_push (y ∷ xs) x a b = (each_push (λ z. y < z) xs x a.0 b.0, ascends_push xs x a.1 b.1)

increasing : (xs : List ℕ) → Ascends xs → IsStrictlyIncreasing xs
increasing [] a k h = absurd (omega arith)
increasing (x ∷ []) a k h = absurd (omega arith)
increasing (x ∷ y ∷ xs) a zero h = a.0.0
increasing (x ∷ y ∷ xs) a (suc k) h =
    let e : suc (k + 1) ≡ suc k + 1 = omega arith in
    subst (λ n. slice_index (y ∷ xs) k < slice_index (x ∷ y ∷ xs) n) e (increasing (y ∷ xs) a.1 k (omega arith))

-- a share whose parts ascend, and are below c
abbrev pub Low : ℕ → List ℕ → Type 0
Low c s = Ascends s × AllByRecursion (λ y. y < c) s

low_more : (c : ℕ) (s : List ℕ) → Low c s → Low (suc c) s
low_more c s h = (h.0, each_map (λ y. y < c) (λ y. y < suc c) s (λ y p. omega arith) h.1)

low_with_part : (c : ℕ) (shares : List (List ℕ)) (w : ℕ) → AllByRecursion (Low c) shares → AllByRecursion (Low (suc c)) (with_part shares w c)
low_with_part c [] w h = tt
low_with_part c (s ∷ shares) zero h = (
  (ascends_push s c h.0.0 h.0.1, each_push (λ y. y < suc c) s c (low_more c s h.0).1 (omega arith)),
  each_map (Low c) (Low (suc c)) shares (low_more c) h.1,
)
low_with_part c (s ∷ shares) (suc w) h = (low_more c s h.0, low_with_part c shares w h.1)

low_none : (n : ℕ) → AllByRecursion (Low 0) (replicate n [])
low_none zero = tt
low_none (suc n) = ((tt, tt), low_none n)

concat-none : (n : ℕ) → concat (replicate n []) ≡ []
concat-none zero = refl
concat-none (suc n) = concat-none n

-- what holds after c takes, in the form that an induction can carry
pub record Dealt (count workers c : ℕ) (s : State) : Type 0 where
  pub total : c + length s.left ≡ count
  pub rest : s.left ≡ range_with_len c (length s.left)
  pub long : length s.shares ≡ workers
  pub low : AllByRecursion (Low c) s.shares
  pub once : IsPermutation (range_with_len 0 c) (concat s.shares)

dealt_take : (count workers c w : ℕ) (s t : State) → Takes w s t → Dealt count workers c s → Dealt count workers (suc c) t
dealt_take count workers c w s t k g =
    let long : length s.left ≡ suc (length t.left) = ap length k.front in
    let row : k.part ∷ t.left ≡ c ∷ range_with_len (c + 1) (length t.left) = sym k.front ∙ g.rest ∙ ap (range_with_len c) long in
    let part : k.part ≡ c = cc row in
    let rest : t.left ≡ range_with_len (c + 1) (length t.left) = cc row in
    let one : c + 1 ≡ suc c = omega arith in
    let more : t.shares ≡ with_part s.shares w c = k.end ∙ ap (with_part s.shares w) part in
    let grown = IsPermutation-append_left (c ∷ []) (range_with_len 0 c) (concat s.shares) g.once in
    let pushed : range_with_len 0 c ++ c ∷ [] ≡ range_with_len 0 (suc c) = let z : 0 + c ≡ c = omega arith in subst (λ n. range_with_len 0 c ++ n ∷ [] ≡ range_with_len 0 (suc c)) z (range_push 0 c) in
    let first : IsPermutation (range_with_len 0 (suc c)) (concat s.shares ++ c ∷ []) = subst (λ l. IsPermutation l (concat s.shares ++ c ∷ [])) pushed grown in
    let once = IsPermutation-trans (range_with_len 0 (suc c)) (concat s.shares ++ c ∷ []) (concat (with_part s.shares w c)) first (concat-with_part s.shares w c k.is_worker) in
    record {
      total = omega (arith, g.total, long);
      rest = rest ∙ ap (λ a. range_with_len a (length t.left)) one;
      long = ap length more ∙ length-with_part s.shares w c ∙ g.long;
      low = subst (AllByRecursion (Low (suc c))) (sym more) (low_with_part c s.shares w g.low);
      once = subst (λ l. IsPermutation (range_with_len 0 (suc c)) (concat l)) (sym more) once;
    }

dealt_turn : (count workers c : ℕ) (ws : List ℕ) (s t : State) → TakeInTurn ws s t → Dealt count workers c s → Dealt count workers (c + length ws) t
dealt_turn count workers c [] s t e g = let z : c ≡ c + 0 = omega arith in subst (λ n. Dealt count workers n t) z (subst (Dealt count workers c) e g)
dealt_turn count workers c (w ∷ ws) s t r g =
    let z : suc c + length ws ≡ c + suc (length ws) = omega arith in
    subst (λ n. Dealt count workers n t) z (dealt_turn count workers (suc c) ws r.0 t r.2 (dealt_take count workers c w s r.0 r.1 g))

dealt_opening : (count workers : ℕ) → Dealt count workers 0 (opening count workers)
dealt_opening count workers = record {
  total = omega (arith, length-range_with_len 0 count);
  rest = ap (range_with_len 0) (sym (length-range_with_len 0 count));
  long = length-replicate workers [];
  low = low_none workers;
  once = subst (IsPermutation []) (sym (concat-none workers)) (IsPermutation-refl []);
}

-- each state that is reached is what its takes dealt
pub dealt : (count workers : ℕ) (left : List ℕ) (shares : List (List ℕ)) (r : Reached count workers left shares) → Dealt count workers (length r.takers) (record { left = left; shares = shares })
dealt count workers left shares r =
    let z : 0 + length r.takers ≡ length r.takers = omega arith in
    subst (λ n. Dealt count workers n (record { left = left; shares = shares })) z (dealt_turn count workers 0 r.takers (opening count workers) (record { left = left; shares = shares }) r.in_turn (dealt_opening count workers))

pub is_dealt : (count workers : ℕ) (left : List ℕ) (shares : List (List ℕ)) (r : Reached count workers left shares) → IsDealt count workers (length r.takers) left shares
is_dealt count workers left shares r =
    let g = dealt count workers left shares r in
    let e : length left ≡ count - length r.takers = omega (arith, g.total) in
    record {
      taken = omega (arith, g.total);
      rest = g.rest ∙ ap (range_with_len (length r.takers)) e;
      each_worker = g.long;
      ascending = All-from_recursion IsStrictlyIncreasing shares (each_map (Low (length r.takers)) IsStrictlyIncreasing shares (λ s h. increasing s h.0) g.low);
      once = g.once;
    }

-- where nothing is left, all parts were taken
pub all_dealt : (count workers : ℕ) (shares : List (List ℕ)) → Reached count workers [] shares → IsDealt count workers count [] shares
all_dealt count workers shares r =
    let e : length r.takers ≡ count = let g = dealt count workers [] shares r in omega (arith, g.total) in
    subst (λ c. IsDealt count workers c [] shares) e (is_dealt count workers [] shares r)

turn_push : (ws : List ℕ) (w : ℕ) (s t u : State) → TakeInTurn ws s t → Takes w t u → TakeInTurn (ws ++ w ∷ []) s u
turn_push [] w s t u e k = (u, subst (λ x. Takes w x u) (sym e) k, refl)
turn_push (v ∷ ws) w s t u r k = (r.0, r.1, turn_push ws w r.0 t u r.2 k)

-- one take more
pub reached_take : (count workers w x : ℕ) (left : List ℕ) (shares : List (List ℕ)) → w < length shares → Reached count workers (x ∷ left) shares → Reached count workers left (with_part shares w x)
reached_take count workers w x left shares h r = record {
  takers = r.takers ++ w ∷ [];
  in_turn = turn_push r.takers w (opening count workers) (record { left = x ∷ left; shares = shares }) (record { left = left; shares = with_part shares w x }) r.in_turn
      (record { part = x; is_worker = h; front = refl; end = refl });
}

-- with nothing taken
pub reached_opening : (count workers : ℕ) → Reached count workers (range_with_len 0 count) (replicate workers [])
reached_opening count workers = record { takers = []; in_turn = refl }

abbrev with_one_more : State → State
with_one_more s = record { left = s.left; shares = s.shares ++ [] ∷ [] }

with_part_more : (shares : List (List ℕ)) (w x : ℕ) → w < length shares → with_part (shares ++ [] ∷ []) w x ≡ with_part shares w x ++ [] ∷ []
with_part_more [] w x h = absurd (omega arith)
with_part_more (s ∷ shares) zero x h = refl
with_part_more (s ∷ shares) (suc w) x h = ap (λ l. s ∷ l) (with_part_more shares w x (omega arith))

take_more : (w : ℕ) (s t : State) → Takes w s t → Takes w (with_one_more s) (with_one_more t)
take_more w s t k = record {
  part = k.part;
  is_worker = let h = k.is_worker in omega (arith, h, length-append s.shares ([] ∷ []));
  front = k.front;
  end = ap (λ l. l ++ [] ∷ []) k.end ∙ sym (with_part_more s.shares w k.part k.is_worker);
}

turn_more : (ws : List ℕ) (s t : State) → TakeInTurn ws s t → TakeInTurn ws (with_one_more s) (with_one_more t)
turn_more [] s t e = ap with_one_more e
turn_more (w ∷ ws) s t r = (with_one_more r.0, take_more w s r.0 r.1, turn_more ws r.0 t r.2)

-- one worker more, whose share is empty
reached_more : (count workers : ℕ) (left : List ℕ) (shares : List (List ℕ)) → Reached count workers left shares → Reached count (suc workers) left (shares ++ [] ∷ [])
reached_more count workers left shares r = grind (arith, replicate_push, turn_more)

-- some workers more
pub reached_padded : (count workers n : ℕ) (left : List ℕ) (shares : List (List ℕ)) → Reached count workers left shares → Reached count (n + workers) left (shares ++ replicate n [])
reached_padded count workers zero left shares r =
    let z : workers ≡ 0 + workers = omega arith in
    subst (λ m. Reached count m left (shares ++ [])) z (subst (Reached count workers left) (sym (append-nil shares)) r)
reached_padded count workers (suc n) left shares r =
    let z : suc (n + workers) ≡ suc n + workers = omega arith in
    let e : (shares ++ replicate n []) ++ [] ∷ [] ≡ shares ++ replicate (suc n) [] = append_assoc shares (replicate n []) ([] ∷ []) ∙ ap (λ l. shares ++ l) (replicate_push n) in
    subst (λ m. Reached count m left (shares ++ replicate (suc n) [])) z (subst (Reached count (suc (n + workers)) left) e (reached_more count (n + workers) left (shares ++ replicate n []) (reached_padded count workers n left shares r)))
