-- An order replays a well-formed history exactly where it keeps every edge and no read is unexplained.
use Rattle.std.proofs.Common.{◌≡◌, ◌≢◌, ◌⊎◌, inl, inr, ℕ, zero, suc, ◌<◌, List, slice_get, Some, refl, ap, sym, subst, ◌∙◌, arith}
use Rattle.std.proofs.lemmas.Bool.{cases_eq, cases_order}
use Rattle.std.proofs.lemmas.Option.{same_Some, slice_get_within, slice_get-get_or, get_or_from_slice_get}
use Rattle.sia_events.specs.declared.event.Event.{Event}
use Rattle.sia_events.specs.declared.event.Event.TheVariants.{Begin, Read, Range, Write, Commit, Abort}
use Rattle.sia_events.specs.Places.{at_place}
use Rattle.sia_events.specs.Events.{actor, Saw}
use Rattle.sia_events.specs.Refusals.{IsWellFormed}
use Rattle.sia_events.specs.Transactions.{IsCommitted, Wrote, WroteBefore, CommitsBefore}
use Rattle.sia_events.specs.Reads.{SawAt}
use Rattle.sia_events.specs.Isolation.{NoneUnexplained}
use Rattle.sia_events.specs.Dependencies.{IsVersionBefore, WwEdge, WrEdge, RwEdge, HasEdge}
use Rattle.sia_events.specs.Replay.{IsOrder, StandsBefore, Keeps, Replays, MayFollow}
use Rattle.sia_events.specs.Laws.{ReplayLaw}
use Rattle.sia_events.proofs.Writing.WellFormed.{seen_was_written}
use Rattle.sia_events.proofs.Shared.Decisions.{first_below}
use Rattle.sia_events.proofs.Shared.TransactionDecisions.{committed_or_not}
use Rattle.sia_events.proofs.OfLaws.Versions.{commits_not_before_itself, commits_before_both}
use Rattle.sia_graph.proofs.Shared.Deciding.{inside_decided, is_write}
use Rattle.sia_graph.proofs.Shared.Facts.{committed_positive, writer_positive, commit_cases}
use Rattle.sia_graph.proofs.OfLaws.Found.{IsLastWriter, IsFound, IsRight, replay_right, right_replay}

module _ (h : List Event) (wf : IsWellFormed h) (order : List ℕ) (is_order : IsOrder h order) where
  -- a transaction stands at one place
  one_place : (i j t u : ℕ) → t ≡ u → slice_get order i ≡ Some t → slice_get order j ≡ Some u → i ≡ j
  one_place i j t u same a b = grind (arith, cases_order, slice_get_within, get_or_from_slice_get)

  place_of : (t : ℕ) → IsCommitted h t → (i : ℕ) × (slice_get order i ≡ Some t)
  place_of t c =
      let w = (is_order.each t).1 c in
      (w.0, slice_get-get_or order w.0 t w.1 ∙ ap Some w.2)

  committed_at : (t i : ℕ) → slice_get order i ≡ Some t → IsCommitted h t
  committed_at t i at = (is_order.each t).0 (i, slice_get_within order i t at, get_or_from_slice_get order i t t at)

  -- a transaction that stands before another doesn't stand after it
  in_turn : (t u i j : ℕ) → StandsBefore order t u → slice_get order i ≡ Some t → slice_get order j ≡ Some u → i < j
  in_turn t u i j before a b = grind (arith, one_place)

  seen_written : (p t k v : ℕ) → SawAt h p t k v → v ≢ 0 → WroteBefore h v k p
  seen_written p t k v saw other = seen_was_written h wf p k v saw.0 saw.1 saw.3 other

  wrote_from : (t k p : ℕ) → WroteBefore h t k p → Wrote h t k
  wrote_from t k p w = (w.0, w.2)

  -- from edges kept to a replay
  module _ (kept : Keeps (HasEdge h) order) (explained : NoneUnexplained h) where
    -- of two writers at different places the first commits first
    writers_in_turn : (k t u i j : ℕ) → slice_get order i ≡ Some t → slice_get order j ≡ Some u → Wrote h t k → Wrote h u k → i < j → CommitsBefore h t u
    writers_in_turn k t u i j a b wrote_t wrote_u less = elim (commit_cases h wf t u (committed_at t i a) (committed_at u j b)) [
      | inl same ↦ absurd (let e = one_place i j t u same a b in omega arith)
      | inr (inl before) ↦ before
      | inr (inr after) ↦ absurd (let l = in_turn u t j i (kept u t (k, inl (wrote_u, wrote_t, after))) b a in omega arith)
    ]

    write_right : (j t k f : ℕ) → slice_get order j ≡ Some t → Wrote h t k → IsLastWriter h order j k f → MayFollow h k f t
    write_right j t k f at wrote (inl none) = inl none.1
    write_right j t k f at wrote (inr w) = inr (inr (inr (w.3, wrote, writers_in_turn k f t w.0 j w.2 at w.3 wrote w.1)))

    -- a reader's place after the one whose version it saw
    read_place : (j t p k v : ℕ) → slice_get order j ≡ Some t → SawAt h p t k v → v ≢ t → IsCommitted h v → (m : ℕ) × (m < j) × (slice_get order m ≡ Some v) × Wrote h v k
    read_place j t p k v at saw other c =
        let wrote : Wrote h v k = wrote_from v k p (seen_written p t k v saw (λ e. let l = committed_positive h wf v c in omega arith)) in
        let place = place_of v c in
        (place.0, in_turn v t place.0 j (kept v t (k, inr (inl (other, (wrote, c), committed_at t j at, p, v, saw, c, other, inl refl)))) place.1 at, place.1, wrote)

    -- no writer before the reader has a later version than the one that it saw
    no_later : (j t p k v f m : ℕ) → slice_get order j ≡ Some t → SawAt h p t k v → v ≢ t → (v ≡ 0) ⊎ IsCommitted h v → m < j → slice_get order m ≡ Some f → Wrote h f k → ¬ IsVersionBefore h k v f
    no_later j t p k v f m at saw other known less there wrote later =
        let edge : HasEdge h t f = (k, inr (inr (λ e. let q = one_place j m t f e at there in omega arith, committed_at t j at, (wrote, committed_at f m there), p, v, saw, known, other, later))) in
        omega (arith, in_turn t f j m (kept t f edge) at there)

    read_right : (j t p k v f : ℕ) → slice_get order j ≡ Some t → SawAt h p t k v → v ≢ t → (v ≡ 0) ⊎ IsCommitted h v → IsLastWriter h order j k f → v ≡ f
    read_right j t p k v f at saw other (inl unwritten) (inl none) = unwritten ∙ sym none.1
    read_right j t p k v f at saw other (inl unwritten) (inr w) =
        absurd (no_later j t p k v f w.0 at saw other (inl unwritten) w.1 w.2 w.3 (inl (unwritten, (w.3, committed_at f w.0 w.2))))
    read_right j t p k v f at saw other (inr c) (inl none) =
        let r = read_place j t p k v at saw other c in
        absurd (none.0 r.0 v r.1 r.2 r.3)
    read_right j t p k v f at saw other (inr c) (inr w) =
        let r = read_place j t p k v at saw other c in
        elim (cases_order r.0 w.0) [
          | inl same ↦ same_Some v f (sym r.2 ∙ ap (slice_get order) same ∙ w.2)
          | inr (inl less) ↦ absurd (no_later j t p k v f w.0 at saw other (inr c) w.1 w.2 w.3 (inr (r.3, w.3, writers_in_turn k v f r.0 w.0 r.2 w.2 r.3 w.3 less)))
          | inr (inr more) ↦ absurd (w.4 r.0 v more r.1 r.2 r.3)
        ]

    saw_right : (j t p k v f : ℕ) → slice_get order j ≡ Some t → SawAt h p t k v → IsFound h order j t p k f → v ≡ f
    saw_right j t p k v f at saw (inl own) = elim (cases_eq v t) [
      | inl same ↦ same ∙ sym own.1
      | inr other ↦ absurd (explained p t k v (committed_at t j at, saw, inl (own.0, other)))
    ]
    saw_right j t p k v f at saw (inr before) =
        let other : v ≢ t = λ e. before.0 (subst (λ x. WroteBefore h x k p) e (seen_written p t k v saw (λ z. omega (arith, committed_positive h wf t (committed_at t j at))))) in
        elim (cases_eq v 0) [
          | inl unwritten ↦ read_right j t p k v f at saw other (inl unwritten) before.1
          | inr some_version ↦ elim (committed_or_not h v) [
            | inl c ↦ read_right j t p k v f at saw other (inr c) before.1
            | inr open_version ↦ absurd (explained p t k v (committed_at t j at, saw, inr (some_version, other, open_version)))
          ]
        ]

    event_right : (j t p : ℕ) (e : Event) (k f : ℕ) → slice_get order j ≡ Some t → at_place h p ≡ Some e → actor e ≡ t → IsFound h order j t p k f → IsRight h f e k
    event_right j t p (Write u key) k f there at acts found = λ same.
        elim found [
          | inl own ↦ inr (inl (own.1 ∙ sym acts))
          | inr before ↦
              let wrote : Wrote h u k = (p, at ∙ ap (λ x. Some (Write u x)) (sym same)) in
              subst (λ x. MayFollow h k f x) (sym acts) (write_right j t k f there (subst (λ x. Wrote h x k) acts wrote) before.1)
        ]
    event_right j t p (Begin u start) k f there at acts found = λ v s. absurd s
    event_right j t p (Read u key saw) k f there at acts found = λ v s. saw_right j t p k v f there (Read u key saw, at, acts, s) found
    event_right j t p (Range u lo hi listed) k f there at acts found = λ v s. saw_right j t p k v f there (Range u lo hi listed, at, acts, s) found
    event_right j t p (Commit u) k f there at acts found = λ v s. absurd s
    event_right j t p (Abort u) k f there at acts found = λ v s. absurd s

    pub keeps_replays : Replays h order
    keeps_replays = right_replay h order event_right

  -- from a replay to edges kept
  module _ (replays : Replays h order) where
    -- what was seen is what the replay finds
    saw_found : (j t p k v : ℕ) → slice_get order j ≡ Some t → SawAt h p t k v → IsFound h order j t p k v
    saw_found j t p k v at saw =
        let r = replay_right h order replays j t p saw.0 k at saw.1 saw.2 in
        subst (λ x. IsFound h order j t p k x) (sym (by_event saw.0 saw.3 r.0 r.2)) r.1
      where
        by_event : (e : Event) → Saw e k v → (f : ℕ) → IsRight h f e k → v ≡ f
        by_event (Begin u start) s f right = absurd s
        by_event (Read u key seen) s f right = right v s
        by_event (Range u lo hi listed) s f right = right v s
        by_event (Write u key) s f right = absurd s
        by_event (Commit u) s f right = absurd s
        by_event (Abort u) s f right = absurd s

    pub replays_explain : NoneUnexplained h
    replays_explain p t k v bad =
        let place = place_of t bad.0 in
        by_found (saw_found place.0 t p k v place.1 bad.1) bad.2
      where
        by_found : {j : ℕ} → IsFound h order j t p k v → ¬ ((WroteBefore h t k p × (v ≢ t)) ⊎ ((v ≢ 0) × (v ≢ t) × ¬ IsCommitted h v))
        by_found (inl own) (inl missed) = missed.1 own.1
        by_found (inl own) (inr unknown) = unknown.1 own.1
        by_found (inr before) (inl missed) = before.0 missed.0
        by_found (inr before) (inr unknown) = elim (before.1) [
          | inl none ↦ unknown.0 none.1
          | inr w ↦ unknown.2 (committed_at v w.0 w.2)
        ]

    -- a writer's first write of a key
    first_write : (u k : ℕ) → Wrote h u k → (p : ℕ) × (at_place h p ≡ Some (Write u k)) × ¬ WroteBefore h u k p
    first_write u k wrote = elim (first_below (λ p. (e : Event) × (at_place h p ≡ Some e) × (e ≡ Write u k)) (λ p. inside_decided (λ e. e ≡ Write u k) (is_write u k) (at_place h p)) (suc wrote.0)) [
      | inl w ↦ (w.0, w.2.1 ∙ ap Some w.2.2, λ before. let l = w.3 before.0 (Write u k, before.2, refl) in let m = before.1 in omega arith)
      | inr none ↦ absurd (none wrote.0 (omega arith) (Write u k, wrote.1, refl))
    ]

    -- the last writer before u's place, whose version u's first write found, commits before u
    found_before : (k u j f m : ℕ) → m < j → slice_get order m ≡ Some f → slice_get order j ≡ Some u → Wrote h f k → MayFollow h k f u → CommitsBefore h f u
    found_before k u j f m less there at wrote follows = elim follows [
      | inl unwritten ↦ absurd (let l = writer_positive h wf f k wrote in omega arith)
      | inr (inl same) ↦ absurd (let e = one_place m j f u same there at in omega arith)
      | inr (inr (inl first)) ↦ absurd (let l = writer_positive h wf f k wrote in let z = first.0 in omega arith)
      | inr (inr (inr both)) ↦ both.2
    ]

    -- writers of a key stand in the order as they commit
    commit_in_turn : (n k t u i j : ℕ) → j < n → slice_get order i ≡ Some t → slice_get order j ≡ Some u → Wrote h t k → Wrote h u k → i < j → CommitsBefore h t u
    commit_in_turn zero k t u i j below a b wrote_t wrote_u less = absurd (omega arith)
    commit_in_turn (suc n) k t u i j below a b wrote_t wrote_u less =
        let first = first_write u k wrote_u in
        let r = replay_right h order replays j u first.0 (Write u k) k b first.1 refl in
        by_found r.0 first.0 first.2 r.1 (r.2 refl) (λ f m l there wrote. commit_in_turn n k t f i m (omega arith) a there wrote_t wrote)
      where
        by_found : (f p : ℕ) → ¬ WroteBefore h u k p → IsFound h order j u p k f → MayFollow h k f u
            → ((f m : ℕ) → m < j → slice_get order m ≡ Some f → Wrote h f k → i < m → CommitsBefore h t f) → CommitsBefore h t u
        by_found f p first (inl own) follows rest = absurd (first own.0)
        by_found f p first (inr (before, inl none)) follows rest = absurd (none.0 i t less a wrote_t)
        by_found f p first (inr (before, inr w)) follows rest =
            let last = found_before k u j f w.0 w.1 w.2 b w.3 follows in
            elim (cases_order i w.0) [
              | inl same ↦ subst (λ x. CommitsBefore h x u) (same_Some f t (sym w.2 ∙ ap (slice_get order) (sym same) ∙ a)) last
              | inr (inl fewer) ↦ commits_before_both h wf t f u (rest f w.0 w.1 w.2 w.3 fewer) last
              | inr (inr more) ↦ absurd (w.4 i t more less a wrote_t)
            ]

    ww_kept : (k t u : ℕ) → WwEdge h t u k → StandsBefore order t u
    ww_kept k t u e =
        let before = e.2 in
        let a = place_of t (before.0, before.2) in
        let b = place_of u (before.1, before.3) in
        elim (cases_order a.0 b.0) [
          | inl same ↦
              absurd (commits_not_before_itself h wf u (subst (λ x. CommitsBefore h x u) (same_Some t u (sym a.1 ∙ ap (slice_get order) same ∙ b.1)) before))
          | inr (inl less) ↦ (a.0, b.0, less, a.1, b.1)
          | inr (inr more) ↦
              let after = commit_in_turn (suc a.0) k u t b.0 a.0 (omega arith) b.1 a.1 e.1 e.0 more in
              absurd (commits_not_before_itself h wf t (commits_before_both h wf t u t before after))
        ]

    wr_kept : (k t u : ℕ) → WrEdge h t u k → StandsBefore order t u
    wr_kept k t u e =
        let b = place_of u e.2 in
        by_found b.0 b.1 (saw_found b.0 u e.3 k e.4 b.1 e.5) e.8
      where
        by_found : (j : ℕ) → slice_get order j ≡ Some u → IsFound h order j u e.3 k e.4 → (t ≡ e.4) ⊎ IsVersionBefore h k t e.4 → StandsBefore order t u
        by_found j at (inl own) version = absurd (e.7 own.1)
        by_found j at (inr (before, inl none)) version = absurd (let l = committed_positive h wf e.4 e.6 in let z = none.1 in omega arith)
        by_found j at (inr (before, inr w)) (inl same) = (w.0, j, w.1, w.2 ∙ ap Some (sym same), at)
        by_found j at (inr (before, inr w)) (inr (inl first)) = absurd (let l = committed_positive h wf t e.1.1 in let z = first.0 in omega arith)
        by_found j at (inr (before, inr w)) (inr (inr both)) =
            let a = place_of t e.1.1 in
            (a.0, j, omega (arith, in_turn t e.4 a.0 w.0 (ww_kept k t e.4 both) a.1 w.2), a.1, at)

    rw_kept : (k t u : ℕ) → RwEdge h t u k → StandsBefore order t u
    rw_kept k t u e =
        let a = place_of t e.1 in
        let b = place_of u e.2.1 in
        elim (cases_order a.0 b.0) [
          | inl same ↦ absurd (e.0 (same_Some t u (sym a.1 ∙ ap (slice_get order) same ∙ b.1)))
          | inr (inl less) ↦ (a.0, b.0, less, a.1, b.1)
          | inr (inr more) ↦ absurd (by_found a.0 b.0 more b.1 (saw_found a.0 t e.3 k e.4 a.1 e.5) e.8)
        ]
      where
        by_found : (i j : ℕ) → j < i → slice_get order j ≡ Some u → IsFound h order i t e.3 k e.4 → ¬ IsVersionBefore h k e.4 u
        by_found i j less at (inl own) version = e.7 own.1
        by_found i j less at (inr (before, inl none)) version = none.0 j u less at e.2.0
        by_found i j less at (inr (before, inr w)) (inl first) = let l = writer_positive h wf e.4 k w.3 in let z = first.0 in omega arith
        by_found i j less at (inr (before, inr w)) (inr both) = w.4 j u (in_turn e.4 u w.0 j (ww_kept k e.4 u both) w.2 at) less at e.2.0

    pub replays_keeps : Keeps (HasEdge h) order
    replays_keeps t u e = elim (e.1) [ inl ww ↦ ww_kept e.0 t u ww | inr (inl wr) ↦ wr_kept e.0 t u wr | inr (inr rw') ↦ rw_kept e.0 t u rw' ]

pub replay_holds : (h : List Event) → IsWellFormed h → ReplayLaw h
replay_holds h wf order is_order = (
  λ replays. (replays_keeps h wf order is_order replays, replays_explain h wf order is_order replays),
  λ both. keeps_replays h wf order is_order both.0 both.1,
)
