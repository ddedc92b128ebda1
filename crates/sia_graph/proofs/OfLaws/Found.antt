-- What a replay finds at an event: its own transaction's version after an own write, and else that of the last writer among
-- the transactions before it in the order. A replay said by the order's places, with no list of events.
use Rattle.std.proofs.Common.{◌≡◌, ◌⊎◌, inl, inr, ℕ, zero, suc, ◌+◌, ◌<◌, List, [], ◌∷◌, ◌++◌, take, flat_map, slice_get, Option, Some, None, refl, ap, sym, subst, ◌∙◌, arith, append-nil}
use Rattle.std.proofs.lemmas.Bool.{cases_lt}
use Rattle.std.proofs.lemmas.Option.{same_Some, slice_get_within, get_or_from_slice_get}
use Rattle.std.proofs.lemmas.List.Concat.{flat_map-append}
use Rattle.sia_events.specs.declared.event.Event.{Event}
use Rattle.sia_events.specs.declared.event.Event.TheVariants.{Write}
use Rattle.sia_events.specs.Places.{at_place}
use Rattle.sia_events.specs.Events.{actor, Saw}
use Rattle.sia_events.specs.Transactions.{Wrote, WroteBefore}
use Rattle.sia_events.specs.Replay.{events_of, serial, found_at, MayFollow, IsRightAt, Replays}
use Rattle.sia_graph.proofs.Shared.LastWriter.{last_from, last_from-append, found_is_last, events_from, Writes, IsLastOwn, last_own}
use Rattle.sia_graph.proofs.OfLaws.Serial.{split_place, joined_place, split_event, own_event}
use Rattle.std.proofs.Math.Seq.{take-suc}

-- f is the last writer of k among the first j of the order, or 0 where none is
abbrev pub IsLastWriter : List Event → List ℕ → ℕ → ℕ → ℕ → Type 0
IsLastWriter h order j k f = (((m u : ℕ) → m < j → slice_get order m ≡ Some u → ¬ Wrote h u k) × (f ≡ 0))
    ⊎ ((m : ℕ) × (m < j) × (slice_get order m ≡ Some f) × Wrote h f k × ((n u : ℕ) → m < n → n < j → slice_get order n ≡ Some u → ¬ Wrote h u k))

-- f is what t, at place j of the order, finds of k at its event at place p
abbrev pub IsFound : List Event → List ℕ → ℕ → ℕ → ℕ → ℕ → ℕ → Type 0
IsFound h order j t p k f = (WroteBefore h t k p × (f ≡ t)) ⊎ (¬ WroteBefore h t k p × IsLastWriter h order j k f)

-- where f is found the event is right at k
abbrev pub IsRight : List Event → ℕ → Event → ℕ → Type 0
IsRight h f (Write t key) k = k ≡ key → MayFollow h k f t
IsRight h f e k = (v : ℕ) → Saw e k v → v ≡ f

right_from : (h : List Event) (events : List (ℕ × Event)) (i : ℕ) (e : Event) (k : ℕ) → IsRightAt h events i e k → IsRight h (found_at events i k) e k
right_from h events i e k p = grind arith

right_to : (h : List Event) (events : List (ℕ × Event)) (i : ℕ) (e : Event) (k : ℕ) → IsRight h (found_at events i k) e k → IsRightAt h events i e k
right_to h events i e k p = grind arith

take_next : (xs : List ℕ) (j t : ℕ) → slice_get xs j ≡ Some t → take (suc j) xs ≡ take j xs ++ t ∷ []
take_next xs j t e = take-suc xs j t (slice_get_within xs j t e) ∙ ap (λ x. take j xs ++ x ∷ []) (get_or_from_slice_get xs j t t e)

take_past : (xs : List ℕ) (j : ℕ) → slice_get xs j ≡ None → take (suc j) xs ≡ take j xs
take_past [] zero e = refl
take_past [] (suc j) e = refl
take_past (x ∷ xs) zero e = cc
take_past (x ∷ xs) (suc j) e = ap (λ l. x ∷ l) (take_past xs j e)

slice_taken : (h : List Event) (i j : ℕ) (e : Event) → slice_get (take i h) j ≡ Some e → (j < i) × (slice_get h j ≡ Some e)
slice_taken h zero j e at = cc
slice_taken [] (suc i) j e at = cc
slice_taken (f ∷ h) (suc i) zero e at = (omega arith, at)
slice_taken (f ∷ h) (suc i) (suc j) e at = let w = slice_taken h i j e at in let l = w.0 in (omega arith, w.1)

taken_slice : (h : List Event) (i j : ℕ) (e : Event) → j < i → slice_get h j ≡ Some e → slice_get (take i h) j ≡ Some e
taken_slice h zero j e l at = absurd (omega arith)
taken_slice [] (suc i) j e l at = cc
taken_slice (f ∷ h) (suc i) zero e l at = at
taken_slice (f ∷ h) (suc i) (suc j) e l at = taken_slice h i j e (omega arith) at

module _ (h : List Event) where
  before_writes : (t k i q : ℕ) → q < suc i → at_place h q ≡ Some (Write t k) → Writes (take i h) t k
  before_writes t k i zero l at = cc
  before_writes t k i (suc j) l at = (j, taken_slice h i j (Write t k) (omega arith) at)

  -- the last writer of k among the first j of the order
  writer_before : List ℕ → ℕ → ℕ → ℕ
  writer_before order k j = last_from k 0 (flat_map (events_of h) (take j order))

  writer_next : (order : List ℕ) (k j t : ℕ) → slice_get order j ≡ Some t → IsLastOwn h t k (writer_before order k j) (writer_before order k (suc j))
  unfolding writer_before
  writer_next order k j t at =
      subst (λ f. IsLastOwn h t k (last_from k 0 (flat_map (events_of h) (take j order))) f)
      (sym (ap (λ l. last_from k 0 (flat_map (events_of h) l)) (take_next order j t at)
      ∙ ap (last_from k 0) (flat_map-append (events_of h) (take j order) (t ∷ []))
      ∙ last_from-append k 0 (flat_map (events_of h) (take j order)) (events_of h t ++ [])
      ∙ ap (last_from k (last_from k 0 (flat_map (events_of h) (take j order)))) (append-nil (events_of h t))))
      (last_own k (last_from k 0 (flat_map (events_of h) (take j order))) t 1 h)

  writer_past : (order : List ℕ) (k j : ℕ) → slice_get order j ≡ None → writer_before order k (suc j) ≡ writer_before order k j
  unfolding writer_before
  writer_past order k j e = ap (λ l. last_from k 0 (flat_map (events_of h) l)) (take_past order j e)

  module _ (order : List ℕ) (k : ℕ) where
    -- nothing at place j writes k
    quiet : (j f : ℕ) → ((u : ℕ) → slice_get order j ≡ Some u → ¬ Wrote h u k) → IsLastWriter h order j k f → IsLastWriter h order (suc j) k f
    quiet j f none (inl w) = inl (
      grind (arith, cases_lt),
      w.1,
    )
    quiet j f none (inr w) =
        inr (
          w.0,
          omega arith,
          w.2,
          w.3,
          grind (arith, cases_lt),
        )

    one_more : (j t f g : ℕ) → slice_get order j ≡ Some t → IsLastOwn h t k f g → IsLastWriter h order j k f → IsLastWriter h order (suc j) k g
    one_more j t f g at (inl own) last =
        inr (j, omega arith, at ∙ ap Some (sym own.1), subst (λ x. Wrote h x k) (sym own.1) (suc own.0.0, own.0.1), λ n u a b c. absurd (omega arith))
    one_more j t f g at (inr other) last =
        subst (λ x. IsLastWriter h order (suc j) k x) (sym other.1)
        (quiet j f (λ u c w. other.0 (subst (λ x. Writes h x k) (same_Some u t (sym c ∙ at)) (grind arith))) last)

    last_writer : (j : ℕ) → IsLastWriter h order j k (writer_before order k j)
    unfolding writer_before
    last_writer zero = inl (λ m u l. absurd (omega arith), refl)
    last_writer (suc j) = by_option (slice_get order j) refl (last_writer j)
      where
        by_option : (o : Option ℕ) → slice_get order j ≡ o → IsLastWriter h order j k (writer_before order k j) → IsLastWriter h order (suc j) k (writer_before order k (suc j))
        by_option (Some t) at last = one_more j t (writer_before order k j) (writer_before order k (suc j)) at (writer_next order k j t at) last
        by_option None past last =
            subst (λ x. IsLastWriter h order (suc j) k x) (sym (writer_past order k j past))
            (quiet j (writer_before order k j) (λ u c. absurd (let e = sym past ∙ c in cc)) last)

    -- what is found in the serial history
    found_there : (j t i n : ℕ) → take n (serial h order) ≡ flat_map (events_of h) (take j order) ++ events_from 1 (take i h) t → IsFound h order j t (suc i) k (found_at (serial h order) n k)
    unfolding writer_before
    found_there j t i n before =
        let is : found_at (serial h order) n k ≡ last_from k (writer_before order k j) (events_from 1 (take i h) t) =
        found_is_last (serial h order) n k ∙ ap (last_from k 0) before ∙ last_from-append k 0 (flat_map (events_of h) (take j order)) (events_from 1 (take i h) t) in
        by_own is (last_own k (writer_before order k j) t 1 (take i h))
      where
        by_own : found_at (serial h order) n k ≡ last_from k (writer_before order k j) (events_from 1 (take i h) t)
            → IsLastOwn (take i h) t k (writer_before order k j) (last_from k (writer_before order k j) (events_from 1 (take i h) t))
            → IsFound h order j t (suc i) k (found_at (serial h order) n k)
        by_own is (inl own) = inl (let s = slice_taken h i own.0.0 (Write t k) own.0.1 in let l = s.0 in (suc own.0.0, omega arith, s.1), is ∙ own.1)
        by_own is (inr other) = inr (λ w. other.0 (before_writes t k i w.0 w.1 w.2), subst (λ x. IsLastWriter h order j k x) (sym (is ∙ other.1)) (last_writer j))

  -- in a replay each event is right with what it finds
  pub replay_right : (order : List ℕ) → Replays h order → (j t p : ℕ) (e : Event) (k : ℕ) → slice_get order j ≡ Some t → at_place h p ≡ Some e → actor e ≡ t
      → (f : ℕ) × IsFound h order j t p k f × IsRight h f e k
  replay_right order replays j t zero e k there at acts = cc
  replay_right order replays j t (suc i) e k there at acts =
      let own = own_event t 1 h i e at acts in
      let joined = joined_place (events_of h) order j t own.0 (1 + i, e) there own.1 in
      let n = joined.0 in (
        found_at (serial h order) n k,
        found_there order k j t i n (joined.2 ∙ ap (λ l. flat_map (events_of h) (take j order) ++ l) own.2),
        right_from h (serial h order) n e k (replays (suc n) n (1 + i) e k (omega arith) joined.1),
      )

  pub right_replay : (order : List ℕ) → ((j t p : ℕ) (e : Event) (k f : ℕ) → slice_get order j ≡ Some t → at_place h p ≡ Some e → actor e ≡ t → IsFound h order j t p k f → IsRight h f e k)
      → Replays h order
  right_replay order right n i p e k l at =
      let place = split_place (events_of h) order i (p, e) at in
      let j = place.0 in
      let t = place.1 in
      let own = split_event t 1 h place.2 p e place.4 in
      right_to h (serial h order) i e k
      (right j t (suc own.0) e k (found_at (serial h order) i k) place.3 own.2 own.3
      (found_there order k j t own.0 i (place.5 ∙ ap (λ x. flat_map (events_of h) (take j order) ++ x) own.4)))
