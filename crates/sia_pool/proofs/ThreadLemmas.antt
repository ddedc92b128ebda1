-- Views and answers that are put together.
use Rattle.std.proofs.Common.{◌≡◌, ℕ, suc, ◌+◌, ◌<◌, List, [], ◌∷◌, ◌++◌, length, sym, refl, ap, ◌∙◌, subst, arith, append_assoc, length-append}
use Rattle.std.specs.Prelude.{Result, Ok, IfOk}
use Rattle.std.specs.List.{AllByRecursion, concat}
use Rattle.std.proofs.lemmas.List.{append-nil}
use Rattle.std.proofs.lemmas.List.Folds.{concat-append}
use Rattle.std.proofs.lemmas.List.Sorted.{IsPermutation-refl, IsPermutation-append}
use Rattle.atomic_blocks.specs.Lent.{RowsId}
use Rattle.std.specs.Global.{Global, Vec}
use Rattle.sia_pool.specs.declared.rule.View.{View}
use Rattle.sia_pool.specs.declared.taker.Taker.{Taker}
use Rattle.sia_pool.specs.View.{stealer_view}
use Rattle.sia_pool.specs.Taker.{taker_view, taker_deque}
use Rattle.sia_pool.specs.Line.{IsLine}
use Rattle.sia_pool.specs.Answers.{lists_of, parts_of, Owed}
use Rattle.sia_pool.specs.Work.{HasWorked}
use Rattle.sia_pool.specs.Threads.{with_back, IsNext, IsReady, count_of, IsDone, AllDone}

pub length-lists_of : (vs : List (Vec ℕ)) → length (lists_of vs) ≡ length vs
length-lists_of [] = refl
length-lists_of (v ∷ vs) = ap suc (length-lists_of vs)

-- one more share at the end
concat_push : (s : List ℕ) (back : List (List ℕ)) (t : List ℕ) → concat (s ∷ (back ++ t ∷ [])) ≡ concat (s ∷ back) ++ t
concat_push s back t = ap (λ l. s ++ l) (concat-append back (t ∷ []) ∙ ap (λ l. concat back ++ l) (append-nil t)) ∙ sym (append_assoc s (concat back) t)

pub each-append : {X : Type 0} (P : X → Type 0) (xs ys : List X) → AllByRecursion P xs → AllByRecursion P ys → AllByRecursion P (xs ++ ys)
each-append P [] ys a b = b
each-append P (x ∷ xs) ys a b = (a.0, each-append P xs ys a.1 b)

module _ {Out : Type 0} where
  pub parts-append : (xs ys : List (ℕ × Out)) → parts_of (xs ++ ys) ≡ parts_of xs ++ parts_of ys
  parts-append [] ys = refl
  parts-append (x ∷ xs) ys = ap (λ l. x.0 ∷ l) (parts-append xs ys)

  done_more : (owes : ℕ → Out → Type 0) (d : RowsId × Global) (v : View) (n : ℕ) (t p : Taker) (s : List ℕ) (xs ys zs : List (ℕ × Out))
      → IsDone owes d v n t xs → taker_deque p ≡ taker_deque t → taker_view p ≡ with_back (taker_view t) (s ∷ []) → s ≡ parts_of ys → Owed owes ys → zs ≡ xs ++ ys → IsDone owes d v (suc n) p zs
  done_more owes d v n t p s xs ys zs f same seen parts owed all = grind (arith, length-append, parts-append, IsPermutation-append, IsPermutation-refl, concat_push, each-append)

line_last : (d : RowsId × Global) (c n j : ℕ) (ts : List Taker) (t : Taker) → IsLine d c n j (ts ++ t ∷ []) → IsLine d c n j ts × (taker_deque t ≡ d) × (taker_view t ≡ stealer_view (j + length ts) c n [])
line_last d c n j [] t h = let z : j ≡ j + 0 = omega arith in (tt, h.0, h.1 ∙ ap (λ i. stealer_view i c n []) z)
line_last d c n j (u ∷ ts) t h = let z : suc j + length ts ≡ j + suc (length ts) = omega arith in let r = line_last d c n (suc j) ts t h.2 in ((h.0, h.1, r.0), r.1, r.2 ∙ ap (λ i. stealer_view i c n []) z)

pub ready_front : (ts : List Taker) (t : Taker) → 0 < length ts → IsReady (ts ++ t ∷ []) → IsReady ts
ready_front ts t l h = grind (arith, line_last)

pub front_count : (ts : List Taker) (t : Taker) → 0 < length ts → count_of ts ≡ count_of (ts ++ t ∷ [])
front_count ts t l = grind (arith)

pub last_count : (ts : List Taker) (t : Taker) → IsReady (ts ++ t ∷ []) → (taker_view t).count ≡ count_of (ts ++ t ∷ [])
last_count [] t h = refl
last_count (u ∷ ts) t h = ap (λ (m : View). m.count) (line_last (taker_deque u) (taker_view u).count (taker_view u).workers 1 ts t h.1).2

-- the owner, and the stealer whose view it takes back next
pub record ComesBack (o t : Taker) : Type 0 where
  pub owner : (taker_view o).number ≡ 0
  pub deque : taker_deque t ≡ taker_deque o
  pub next : IsNext (taker_view o) (taker_view t)

module _ {Out : Type 0} (owes : ℕ → Out → Type 0) where
  crew_step : (ts : List Taker) (t w r : Taker) (ys xs : List (ℕ × Out)) → IsReady (ts ++ t ∷ []) → HasWorked owes (taker_deque t) (taker_view t) [] w ys → AllDone owes ts r xs → ComesBack r w
  crew_step ts t w r ys xs h f d = grind (arith, line_last)

  crew_end : (ts : List Taker) (t w r p : Taker) (ys xs zs : List (ℕ × Out)) → IsReady (ts ++ t ∷ []) → HasWorked owes (taker_deque t) (taker_view t) [] w ys → AllDone owes ts r xs
      → taker_deque p ≡ taker_deque r → taker_view p ≡ with_back (taker_view r) ((taker_view w).share ∷ []) → zs ≡ xs ++ ys → AllDone owes (ts ++ t ∷ []) p zs
  crew_end [] t w r p ys xs zs h f d same seen all = absurd d
  crew_end (u ∷ ts) t w r p ys xs zs h f d same seen all =
      let l = line_last (taker_deque u) (taker_view u).count (taker_view u).workers 1 ts t h.1 in
      let n : suc (length ts) ≡ length (ts ++ t ∷ []) = omega (arith, length-append ts (t ∷ [])) in
      let took : (taker_view w).share ≡ parts_of ys = ap (λ (m : View). m.share) f.view ∙ ap (λ (m : View). m.share ++ f.more) l.2 ∙ sym f.parts in
      subst (λ k. IsDone owes (taker_deque u) (taker_view u) k p zs) n (done_more owes (taker_deque u) (taker_view u) (length ts) r p (taker_view w).share xs ys zs d same seen took f.owed all)

  module _ (all ts : List Taker) (t : Taker) (is : all ≡ ts ++ t ∷ []) (ready : IsReady all) where
    pub last_back : (w r : Taker) (ys xs : List (ℕ × Out)) → HasWorked owes (taker_deque t) (taker_view t) [] w ys → AllDone owes ts r xs → ComesBack r w
    last_back w r ys xs f d = crew_step ts t w r ys xs (subst IsReady is ready) f d

    pub all_ended : (w r p : Taker) (ys xs zs : List (ℕ × Out)) → HasWorked owes (taker_deque t) (taker_view t) [] w ys → AllDone owes ts r xs
        → taker_deque p ≡ taker_deque r → taker_view p ≡ with_back (taker_view r) ((taker_view w).share ∷ []) → zs ≡ xs ++ ys → AllDone owes all p zs
    all_ended w r p ys xs zs f d same seen more = subst (λ l. AllDone owes l p zs) (sym is) (crew_end ts t w r p ys xs zs (subst IsReady is ready) f d same seen more)

-- what holds of an answer that is there
pub ok_there : {A E : Type 0} (P : A → Type 0) (a : Result A E) (x : A) → a ≡ Ok x → IfOk a P → P x
ok_there P a x is p = subst (λ r. IfOk r P) is p
