-- What a replay one event at a time tells is said of the serial history.
use Rattle.std.proofs.Common.{◌≡◌, inl, inr, ℕ, ◌+◌, ◌<◌, List, [], ◌∷◌, ◌++◌, length, get_or, drop, slice_get, Option, Some, None, ap, sym, ◌∙◌, refl, subst, arith, append_assoc, append-nil, MatchOption}
use Rattle.std.proofs.lemmas.Bool.{cases_lt}
use Rattle.std.proofs.lemmas.List.{take_at, drop_more, length-append}
use Rattle.std.proofs.lemmas.Option.{same_Some, slice_get_within}
use Rattle.sia_events.specs.declared.event.Event.{Event}
use Rattle.sia_events.specs.declared.event.Event.TheVariants.{Begin, Read, Range, Write, Commit, Abort}
use Rattle.sia_events.specs.Replay.{MayFollow, found_at, events_of, serial, IsRightAt, IsRightBelow, Replays, IsFirstMismatch}
use Rattle.sia_graph.specs.declared.serial_replay.Mismatch.{Mismatch}
use Rattle.sia_graph.specs.Replaying.{AllRight, IsFirstWrong, IsRight, Tells, after}
use Rattle.sia_graph.proofs.Shared.LastWriter.{last_from, last_from-append, found_is_last}
use Rattle.sia_graph.proofs.Shared.Positions.{get_right}

-- what is found after these events
abbrev last_in : List (ℕ × Event) → ℕ → ℕ
last_in pre k = last_from k 0 pre

module _ (h : List Event) (events : List (ℕ × Event)) (i : ℕ) (found : ℕ → ℕ) (same : (k : ℕ) → found k ≡ found_at events i k) where
  to_place : (e : Event) (k : ℕ) → IsRight h found e k → IsRightAt h events i e k
  to_place (Write t key) k r = λ e. subst (λ x. MayFollow h k x t) (same k) (r e)
  to_place (Begin t start) k r = λ v s. r v s ∙ same k
  to_place (Read t key saw) k r = λ v s. r v s ∙ same k
  to_place (Range t lo hi listed) k r = λ v s. r v s ∙ same k
  to_place (Commit t) k r = λ v s. r v s ∙ same k
  to_place (Abort t) k r = λ v s. r v s ∙ same k

  from_place : (e : Event) (k : ℕ) → IsRightAt h events i e k → IsRight h found e k
  from_place (Write t key) k r = λ e. subst (λ x. MayFollow h k x t) (sym (same k)) (r e)
  from_place (Begin t start) k r = λ v s. r v s ∙ sym (same k)
  from_place (Read t key saw) k r = λ v s. r v s ∙ sym (same k)
  from_place (Range t lo hi listed) k r = λ v s. r v s ∙ sym (same k)
  from_place (Commit t) k r = λ v s. r v s ∙ sym (same k)
  from_place (Abort t) k r = λ v s. r v s ∙ sym (same k)

last_at : (pre xs : List (ℕ × Event)) (k : ℕ) → last_in pre k ≡ found_at (pre ++ xs) (length pre) k
last_at pre xs k = sym (found_is_last (pre ++ xs) (length pre) k ∙ ap (last_from k 0) (take_at pre xs (length pre) refl))

last_more : (pre : List (ℕ × Event)) (x : ℕ × Event) → after (last_in pre) x.1 ≡ last_in (pre ++ x ∷ [])
last_more pre x = λ i k. sym (last_from-append k 0 pre (x ∷ [])) i

one_on : (pre xs : List (ℕ × Event)) (x : ℕ × Event) → (pre ++ x ∷ []) ++ xs ≡ pre ++ x ∷ xs
one_on pre xs x = append_assoc pre (x ∷ []) xs

longer : (pre : List (ℕ × Event)) (x : ℕ × Event) → length (pre ++ x ∷ []) ≡ length pre + 1
longer pre x = length-append pre (x ∷ [])

module _ (h : List Event) where
  -- one event more is right
  below_more : (pre xs : List (ℕ × Event)) (x : ℕ × Event) → IsRightBelow h (pre ++ x ∷ xs) (length pre) → ((k : ℕ) → IsRight h (last_in pre) x.1 k) → IsRightBelow h (pre ++ x ∷ xs) (length pre + 1)
  below_more pre xs x below right i place e k l at = elim (cases_lt i (length pre)) [
    | inl less ↦ below i place e k less at
    | inr more ↦
        let same : i ≡ length pre + 0 = omega arith in
        let f : x ≡ (place, e) = same_Some x (place, e) (sym (get_right pre (x ∷ xs) 0 x refl) ∙ ap (slice_get (pre ++ x ∷ xs)) (sym same) ∙ at) in
        let z : length pre ≡ i = omega arith in
        subst (λ n. IsRightAt h (pre ++ x ∷ xs) n e k) z
        (to_place h (pre ++ x ∷ xs) (length pre) (last_in pre) (last_at pre (x ∷ xs)) e k (subst (λ (y : ℕ × Event). IsRight h (last_in pre) y.1 k) f (right k)))
  ]

  moved_on : (pre xs : List (ℕ × Event)) (x : ℕ × Event) → IsRightBelow h (pre ++ x ∷ xs) (length pre + 1) → IsRightBelow h ((pre ++ x ∷ []) ++ xs) (length (pre ++ x ∷ []))
  moved_on pre xs x below = subst (λ n. IsRightBelow h ((pre ++ x ∷ []) ++ xs) n) (sym (longer pre x)) (subst (λ (l : List (ℕ × Event)). IsRightBelow h l (length pre + 1)) (sym (one_on pre xs x)) below)

  all_below : (pre xs : List (ℕ × Event)) → IsRightBelow h (pre ++ xs) (length pre) → AllRight h (last_in pre) xs → (n : ℕ) → IsRightBelow h (pre ++ xs) n
  all_below pre [] below all n = λ i place e k l at.
      below i place e k (omega (arith, slice_get_within (pre ++ []) i (place, e) at, ap (length {A = ℕ × Event}) (append-nil pre))) at
  all_below pre (x ∷ xs) below all n =
      subst (λ (l : List (ℕ × Event)). IsRightBelow h l n) (one_on pre xs x)
      (all_below (pre ++ x ∷ []) xs (moved_on pre xs x (below_more pre xs x below all.0)) (subst (λ (f : ℕ → ℕ). AllRight h f xs) (last_more pre x) all.1) n)

  abbrev Mismatched : List (ℕ × Event) → Mismatch → Type 0
  Mismatched events m = (i : ℕ) × (e : Event) × (slice_get events i ≡ Some (m.place, e)) × IsRightBelow h events i × ¬ IsRightAt h events i e m.key
      × ((k : ℕ) → k < m.key → IsRightAt h events i e k) × (m.found ≡ found_at events i m.key)

  first_mismatch : (pre xs : List (ℕ × Event)) (m : Mismatch) → IsRightBelow h (pre ++ xs) (length pre) → IsFirstWrong h (last_in pre) xs m → Mismatched (pre ++ xs) m
  first_mismatch pre [] m below wrong = absurd wrong
  first_mismatch pre (x ∷ xs) m below (inl w) =
      let wrong = w.1 in
      let here : slice_get (pre ++ x ∷ xs) (length pre) ≡ Some (m.place, x.1) =
      (let z : length pre ≡ length pre + 0 = omega arith in ap (slice_get (pre ++ x ∷ xs)) z) ∙ get_right pre (x ∷ xs) 0 x refl ∙ (λ i. Some (w.0 i, x.1)) in
      let same = last_at pre (x ∷ xs) in (
        length pre,
        x.1,
        here,
        below,
        λ r. wrong.0 (from_place h (pre ++ x ∷ xs) (length pre) (last_in pre) same x.1 m.key r),
        λ k l. to_place h (pre ++ x ∷ xs) (length pre) (last_in pre) same x.1 k (wrong.1 k l),
        wrong.2 ∙ same m.key,
      )
  first_mismatch pre (x ∷ xs) m below (inr w) =
      subst (λ (l : List (ℕ × Event)). Mismatched l m) (one_on pre xs x)
      (first_mismatch (pre ++ x ∷ []) xs m (moved_on pre xs x (below_more pre xs x below w.0)) (subst (λ (f : ℕ → ℕ). IsFirstWrong h f xs m) (last_more pre x) w.1))

  pub told_serial : (order : List ℕ) (r : Option Mismatch) → Tells h (λ _. 0) (serial h order) r → MatchOption r (Replays h order) (λ m. IsFirstMismatch h order m.place m.key m.found)
  told_serial order None all = all_below [] (serial h order) (λ i place e k l at. absurd (omega arith)) all
  told_serial order (Some m) wrong = first_mismatch [] (serial h order) m (λ i place e k l at. absurd (omega arith)) wrong

-- the events of an order from one transaction on
pub serial_at : (h : List Event) (order : List ℕ) (i : ℕ) (d : ℕ) → i < length order → serial h (drop i order) ≡ events_of h (get_or order i d) ++ serial h (drop (i + 1) order)
serial_at h order i d l = ap (serial h) (drop_more order i d l)
