-- Which edges a well-formed history has can be told.
use Rattle.std.proofs.Common.{◌≡◌, ◌≢◌, inl, inr, ℕ, ◌≤◌, List, Some, refl, ap, subst, ◌∙◌, arith, rules}
use Rattle.std.specs.Prelude.{Contains, ⊤}
use Rattle.std.proofs.lemmas.Bool.{cases_eq}
use Rattle.std.proofs.lemmas.Option.{slice_get_within, slice_get-get_or, get_or_from_slice_get}
use Rattle.sia_events.specs.declared.event.Event.{Event}
use Rattle.sia_events.specs.declared.event.Event.TheVariants.{Begin, Read, Range, Write, Commit, Abort}
use Rattle.sia_events.specs.Places.{at_place}
use Rattle.sia_events.specs.Events.{actor, Saw}
use Rattle.sia_events.specs.Refusals.{IsWellFormed}
use Rattle.sia_events.specs.Transactions.{IsCommitted, Wrote, CommitsBefore}
use Rattle.sia_events.specs.Reads.{SawAt}
use Rattle.sia_events.specs.Dependencies.{IsCommittedWriter, IsVersionBefore, WwEdge, WrEdge, RwEdge}
use Rattle.sia_events.proofs.Shared.Decisions.{Decided, both, decided_alike}
use Rattle.sia_events.proofs.Shared.TransactionDecisions.{committed_or_not, wrote_or_not}
use Rattle.sia_parts.specs.declared.finding.Kind.{Kind}
use Rattle.sia_parts.specs.declared.finding.Kind.TheVariants.{Ww, Wr, Rw}
use Rattle.sia_parts.specs.Entries.{EdgeOfKind}
use Rattle.sia_graph.proofs.Shared.Deciding.{three_decided, either_decided, not_decided, le_decided, element_decided, event_decided}
use Rattle.sia_graph.proofs.Shared.Facts.{commits_before_decided}

module _ (Good : ℕ → Type 0) (decide : (v : ℕ) → Decided (Good v)) (k : ℕ) where
  -- k is listed at a good version
  listed_decided : (listed : List (ℕ × ℕ)) → Decided ((v : ℕ) × Contains listed (k, v) × Good v)
  listed_decided listed = elim (element_decided (λ p. (p.0 ≡ k) × Good p.1) (λ p. both (p.0 ≡ k) (Good p.1) (cases_eq p.0 k) (decide p.1)) listed) [
    | inl w ↦
        let p = w.1 in
        let whole : ◌≡◌ {A = ℕ × ℕ} p (k, p.1) = λ i. (w.3.0 i, p.1) in
        inl (p.1, (w.0, slice_get_within listed w.0 p w.2, get_or_from_slice_get listed w.0 p (k, p.1) w.2 ∙ whole), w.3.1)
    | inr none ↦ inr (λ c. none (c.1.0, (k, c.0), slice_get-get_or listed c.1.0 (k, c.0) c.1.1 ∙ ap Some c.1.2, (refl, c.2)))
  ]

  range_decided : (t lo hi : ℕ) (listed : List (ℕ × ℕ)) → Decided ((v : ℕ) × Contains listed (k, v) × Good v) → Decided ((v : ℕ) × Contains listed (k, v) × ⊤) → Decided (Good 0) → Decided (lo ≤ k) → Decided (k ≤ hi)
      → Decided ((v : ℕ) × Saw (Range t lo hi listed) k v × Good v)
  range_decided t lo hi listed good any first (inr n) above = inr (λ w. n w.1.0)
  range_decided t lo hi listed good any first (inl low) (inr n) = inr (λ w. n w.1.1)
  range_decided t lo hi listed (inl g) any first (inl low) (inl high) = inl (g.0, (low, high, inl g.1), g.2)
  range_decided t lo hi listed (inr n) (inl a) first (inl low) (inl high) = inr (λ w. elim (w.1.2) [ inl c ↦ n (w.0, c, w.2) | inr z ↦ z.0 a.0 a.1 ])
  range_decided t lo hi listed (inr n) (inr none) (inl g) (inl low) (inl high) = inl (0, (low, high, inr (λ u c. none (u, c, tt), refl)), g)
  range_decided t lo hi listed (inr n) (inr none) (inr bad) (inl low) (inl high) = inr (λ w. elim (w.1.2) [ inl c ↦ n (w.0, c, w.2) | inr z ↦ bad (subst Good z.1 w.2) ])

module _ (Good : ℕ → Type 0) (decide : (v : ℕ) → Decided (Good v)) (k : ℕ) where
  -- the event saw k at a good version
  saw_decided : (e : Event) → Decided ((v : ℕ) × Saw e k v × Good v)
  saw_decided (Begin t start) = inr (λ w. w.1)
  saw_decided (Write t key) = inr (λ w. w.1)
  saw_decided (Commit t) = inr (λ w. w.1)
  saw_decided (Abort t) = inr (λ w. w.1)
  saw_decided (Read t key saw) = elim (both (k ≡ key) (Good saw) (cases_eq k key) (decide saw)) [
    | inl w ↦ inl (saw, (w.0, refl), w.1)
    | inr fails ↦ inr (λ w. fails (w.1.0, subst Good w.1.1 w.2))
  ]
  saw_decided (Range t lo hi listed) =
      range_decided Good decide k t lo hi listed (listed_decided Good decide k listed) (listed_decided (λ v. ⊤) (λ v. inl tt) k listed) (decide 0) (le_decided lo k) (le_decided k hi)

module _ (h : List Event) (N P Q : Type 0) (X Y Z : ℕ → Type 0) (t k : ℕ) where
  -- the event is t's, and saw such a version of k
  abbrev SawSome : Event → Type 0
  SawSome e = (actor e ≡ t) × ((v : ℕ) × Saw e k v × (X v × Y v × Z v))

  -- three statements hold, and three of a version of k that t saw
  seen_decided : Decided N → Decided P → Decided Q → ((v : ℕ) → Decided (X v)) → ((v : ℕ) → Decided (Y v)) → ((v : ℕ) → Decided (Z v))
      → Decided (N × P × Q × (p : ℕ) × (v : ℕ) × SawAt h p t k v × X v × Y v × Z v)
  seen_decided n p q x y z =
      decided_alike ((N × P × Q) × ((p : ℕ) × (e : Event) × (at_place h p ≡ Some e) × SawSome e)) (N × P × Q × (p : ℕ) × (v : ℕ) × SawAt h p t k v × X v × Y v × Z v)
      (λ w. let s = w.1 in let saw = s.3.1 in (w.0.0, w.0.1, w.0.2, s.0, saw.0, (s.1, s.2, s.3.0, saw.1), saw.2.0, saw.2.1, saw.2.2))
      (λ e. let at = e.5 in ((e.0, e.1, e.2), (e.3, at.0, at.1, (at.2, (e.4, at.3, (e.6, e.7, e.8))))))
      (both (N × P × Q) ((p : ℕ) × (e : Event) × (at_place h p ≡ Some e) × SawSome e) (three_decided N P Q n p q)
      (event_decided SawSome (λ e. both (actor e ≡ t) ((v : ℕ) × Saw e k v × (X v × Y v × Z v)) (cases_eq (actor e) t)
      (saw_decided (λ v. X v × Y v × Z v) (λ v. three_decided (X v) (Y v) (Z v) (x v) (y v) (z v)) k e)) h))

module _ (h : List Event) (wf : IsWellFormed h) where
  ww_decided : (t u k : ℕ) → Decided (WwEdge h t u k)
  ww_decided t u k = three_decided (Wrote h t k) (Wrote h u k) (CommitsBefore h t u) (wrote_or_not h t k) (wrote_or_not h u k) (commits_before_decided h wf t u)

  writer_decided : (k t : ℕ) → Decided (IsCommittedWriter h k t)
  writer_decided k t = both (Wrote h t k) (IsCommitted h t) (wrote_or_not h t k) (committed_or_not h t)

  version_before_decided : (k v w : ℕ) → Decided (IsVersionBefore h k v w)
  version_before_decided k v w = search (rules, arith, either_decided, both, cases_eq, writer_decided, ww_decided)

  differ_or_not : (t u : ℕ) → Decided (t ≢ u)
  differ_or_not t u = not_decided (t ≡ u) (cases_eq t u)

  wr_decided : (t u k : ℕ) → Decided (WrEdge h t u k)
  wr_decided t u k = search (rules, arith, seen_decided, differ_or_not, writer_decided, committed_or_not, either_decided, cases_eq, version_before_decided)

  rw_at_decided : (t u k : ℕ) → Decided (RwEdge h t u k)
  rw_at_decided t u k = search (rules, arith, seen_decided, differ_or_not, committed_or_not, writer_decided, either_decided, cases_eq, version_before_decided)

  pub edge_decided : (kind : Kind) (t u k : ℕ) → Decided (EdgeOfKind h kind t u k)
  edge_decided Ww t u k = ww_decided t u k
  edge_decided Wr t u k = wr_decided t u k
  edge_decided Rw t u k = rw_at_decided t u k

  -- an rw edge at any key
  module _ (t u : ℕ) where
    at_write_decided : (e : Event) → Decided ((k : ℕ) × (e ≡ Write u k) × RwEdge h t u k)
    at_write_decided (Write w k) = elim (both (w ≡ u) (RwEdge h t u k) (cases_eq w u) (rw_at_decided t u k)) [
      | inl found ↦ inl (k, ap (λ x. Write x k) found.0, found.1)
      | inr fails ↦ inr (λ c. let e = c.1 in let a : w ≡ u = cc in let b : c.0 ≡ k = cc in fails (a, subst (RwEdge h t u) b c.2))
    ]
    at_write_decided e = inr (λ c. let p = c.1 in cc)

    pub rw_decided : Decided ((k : ℕ) × RwEdge h t u k)
    rw_decided =
        decided_alike ((p : ℕ) × (e : Event) × (at_place h p ≡ Some e) × ((k : ℕ) × (e ≡ Write u k) × RwEdge h t u k)) ((k : ℕ) × RwEdge h t u k)
        (λ w. (w.3.0, w.3.2))
        (λ r. let wrote = r.1.2.0 in (wrote.0, Write u r.0, wrote.1, (r.0, refl, r.1)))
        (event_decided (λ e. (k : ℕ) × (e ≡ Write u k) × RwEdge h t u k) at_write_decided h)
