-- The last pop, and what it shows.
use Rattle.std.proofs.Common.{◌≡◌, ℕ, suc, List, [], ◌∷◌, ◌++◌, length, sym, ap, ◌∙◌, subst, arith, append_assoc}
use Rattle.std.specs.Prelude.{All, IsPermutation}
use Rattle.std.specs.List.{range_with_len, concat}
use Rattle.std.specs.List.Sorted.{IsStrictlyIncreasing}
use Rattle.std.proofs.lemmas.List.Sorted.{IsPermutation-refl, IsPermutation-trans, IsPermutation-append, IsPermutation-append_comm}
use Rattle.atomic_blocks.specs.Lent.{RowsId}
use Rattle.std.specs.Global.{Global, Vec}
use Rattle.sia_pool.specs.declared.rule.View.{View}
use Rattle.sia_pool.specs.declared.taker.Taker.{Taker}
use Rattle.sia_pool.specs.Core.{Reached}
use Rattle.sia_pool.specs.Taker.{taker_view}
use Rattle.sia_pool.specs.Line.{LinedUp}
use Rattle.sia_pool.specs.Answers.{lists_of, parts_of, Owed, AnswersEach}
use Rattle.sia_pool.specs.Work.{WorkedOff}
use Rattle.sia_pool.specs.Threads.{AllDone, IsInOrder}
use Rattle.sia_pool.proofs.CoreLemmas.{all_dealt}
use Rattle.sia_pool.proofs.OrderLemmas.{in_order, owed_each}
use Rattle.sia_pool.proofs.ThreadLemmas.{length-lists_of}

-- what joined the first list may as well stand last
more_last : (s more back : List ℕ) → IsPermutation ((s ++ more) ++ back) ((s ++ back) ++ more)
more_last s more back = grind (arith, IsPermutation-append, IsPermutation-refl, IsPermutation-append_comm, append_assoc)

-- all takers have ended, and the owner has their views back
pub record HaveRun {Out : Type 0} (owes : ℕ → Out → Type 0) (count workers : ℕ) (o : Taker) (answers : List (ℕ × Out)) : Type 0 where
  pub number : (taker_view o).number ≡ 0
  pub counted : (taker_view o).count ≡ count
  pub sized : (taker_view o).workers ≡ workers
  pub back : suc (length (taker_view o).back) ≡ workers
  pub parts : IsPermutation (concat ((taker_view o).share ∷ (taker_view o).back)) (parts_of answers)
  pub owed : Owed owes answers

pub have_run : {Out : Type 0} (owes : ℕ → Out → Type 0) (count workers : ℕ) (ts : List Taker) (o : Taker) (xs : List (ℕ × Out))
    → LinedUp count workers ts → AllDone owes ts o xs → HaveRun owes count workers o xs
have_run owes count workers [] o xs h d = absurd h
have_run owes count workers (t ∷ ts) o xs h d = record {
  number = d.number;
  counted = d.counted ∙ ap (λ (v : View). v.count) h.0;
  sized = d.sized ∙ ap (λ (v : View). v.workers) h.0;
  back = omega (arith, d.back, h.1);
  parts = d.parts;
  owed = d.owed;
}

pub record IsFinished {Out : Type 0} (owes : ℕ → Out → Type 0) (count workers : ℕ) (outs : List Out) (shares : List (Vec ℕ)) : Type 0 where
  pub len : length outs ≡ count
  pub owed : AnswersEach owes count outs
  pub reached : Reached count workers [] (lists_of shares)
  pub sized : length shares ≡ workers
  pub once : IsPermutation (range_with_len 0 count) (concat (lists_of shares))
  pub ascending : All IsStrictlyIncreasing (lists_of shares)

module _ {Out : Type 0} (owes : ℕ → Out → Type 0) (count workers : ℕ) (o new : Taker) (xs ys : List (ℕ × Out)) (deque : RowsId × Global) (h : HaveRun owes count workers o xs)
    (w : WorkedOff owes deque (taker_view o) xs new ys) where
  sized_as : (taker_view new).workers ≡ workers
  sized_as = ap (λ (v : View). v.workers) w.0.view ∙ h.sized

  -- all views are back
  pub all_back : suc (length (taker_view new).back) ≡ (taker_view new).workers
  all_back = grind (arith, sized_as)

  -- so the last pop shows all shares
  ends_reached : Reached count workers [] ((taker_view new).share ∷ (taker_view new).back)
  ends_reached = grind (arith, all_back, sized_as)

  -- each part has one answer
  ends_once : IsPermutation (range_with_len 0 count) (parts_of ys)
  ends_once =
      let v = taker_view o in
      let m = taker_view new in
      let once = (all_dealt count workers (m.share ∷ m.back) ends_reached).once in
      let held : concat (m.share ∷ m.back) ≡ (v.share ++ w.0.more) ++ concat v.back = ap (λ (u : View). u.share ++ concat u.back) w.0.view in
      let moved = more_last v.share w.0.more (concat v.back) in
      let grown = IsPermutation-append (v.share ++ concat v.back) (parts_of xs) w.0.more w.0.more h.parts (IsPermutation-refl w.0.more) in
      let all = IsPermutation-trans ((v.share ++ w.0.more) ++ concat v.back) ((v.share ++ concat v.back) ++ w.0.more) (parts_of xs ++ w.0.more) moved grown in
      IsPermutation-trans (range_with_len 0 count) (concat (m.share ∷ m.back)) (parts_of ys) once (subst (λ l. IsPermutation l (parts_of ys)) (sym held) (subst (IsPermutation ((v.share ++ w.0.more) ++ concat v.back)) (sym w.0.parts) all))

  -- the answers and the shares are what the call promises
  pub finished : (outs : List Out) (shares : List (Vec ℕ)) → IsInOrder ys outs → lists_of shares ≡ (taker_view new).share ∷ (taker_view new).back → IsFinished owes count workers outs shares
  finished outs shares i e =
      let answered = in_order owes count ys i.0 outs w.0.owed ends_once i.1 i.2 i.3 in
      let reached : Reached count workers [] (lists_of shares) = subst (Reached count workers []) (sym e) ends_reached in
      let dealt = all_dealt count workers (lists_of shares) reached in
      record {
        len = answered.0;
        owed = owed_each owes count outs answered.0 answered.1;
        reached = reached;
        sized = sym (length-lists_of shares) ∙ dealt.each_worker;
        once = dealt.once;
        ascending = dealt.ascending;
      }
