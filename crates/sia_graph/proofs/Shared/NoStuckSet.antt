-- Where isolation is kept, an edge goes to a transaction that sees the first one's commit, or else it is a vulnerable one. So
-- where no dangerous structure's last transaction commits first, some order keeps every edge.
use Rattle.std.proofs.Common.{◌≡◌, ◌⊎◌, inl, inr, ℕ, ◌<◌, ◌≤◌, List, [], ◌∷◌, refl, sym, subst, arith}
use Rattle.std.proofs.lemmas.Bool.{cases_lt}
use Rattle.sia_events.specs.declared.event.Event.{Event}
use Rattle.sia_events.specs.Refusals.{IsWellFormed}
use Rattle.sia_events.specs.Transactions.{StartsAt, CommitsAt, IsCommitted, Sees, StartsBeforeCommit, CommitsBefore, Overlap}
use Rattle.sia_events.specs.Reads.{IsDue}
use Rattle.sia_events.specs.Isolation.{IsolationKept}
use Rattle.sia_events.specs.Dependencies.{WwEdge, WrEdge, RwEdge, HasEdge}
use Rattle.sia_events.specs.DangerousStructures.{IsVulnerable, NoFirst}
use Rattle.sia_events.specs.Replay.{IsOrder, Keeps}
use Rattle.sia_events.proofs.Writing.WellFormed.{one_commit}
use Rattle.sia_events.proofs.Shared.Decisions.{Decided, both, decided_alike}
use Rattle.sia_events.proofs.Shared.Starts.{one_start}
use Rattle.sia_events.proofs.Shared.TransactionDecisions.{committed_or_not}
use Rattle.sia_graph.proofs.Shared.Deciding.{either_decided, le_decided}
use Rattle.sia_graph.proofs.Shared.Facts.{same_committer, committed_positive, Lifetime, lifetime_of, sees_le, commits_lt}
use Rattle.sia_graph.proofs.Shared.Due.{saw_due}
use Rattle.sia_graph.proofs.Shared.EdgesDecided.{rw_decided}
use Rattle.sia_graph.proofs.Shared.ReadyOrders.{In, IsFed}
use Rattle.sia_graph.proofs.Shared.PartedLists.{order_exists}

module _ (h : List Event) (wf : IsWellFormed h) where
  pub starts_lt : (t u s c : ℕ) → StartsAt h t s → CommitsAt h u c → StartsBeforeCommit h t u → s < c
  starts_lt t u s c starts commits before =
      let a : before.0 ≡ s = one_start h t before.0 s before.2 starts in
      let b : before.1 ≡ c = one_commit h wf u before.1 c before.3 commits in
      omega arith

  sees_decided : (t u : ℕ) → Lifetime h t → Lifetime h u → Decided (Sees h t u)
  sees_decided t u a b = elim (le_decided b.commit a.start) [
    | inl l ↦ inl (a.start, b.commit, a.starts, b.commits, l)
    | inr more ↦ inr (λ sees. more (sees_le h wf t u a.start b.commit a.starts b.commits sees))
  ]

  starts_before_decided : (t u : ℕ) → Lifetime h t → Lifetime h u → Decided (StartsBeforeCommit h t u)
  starts_before_decided t u a b = elim (cases_lt a.start b.commit) [
    | inl l ↦ inl (a.start, b.commit, a.starts, b.commits, l)
    | inr more ↦ inr (λ before. let l = starts_lt t u a.start b.commit a.starts b.commits before in omega arith)
  ]

  pub overlap_decided : (t u : ℕ) → Decided (Overlap h t u)
  overlap_decided t u = elim (committed_or_not h t) [
    | inr fails ↦ inr (λ o. fails (o.1.1, o.1.3))
    | inl c ↦ elim (committed_or_not h u) [
      | inr fails ↦ inr (λ o. fails (o.0.1, o.0.3))
      | inl d ↦
          let a = lifetime_of h wf t c in
          let b = lifetime_of h wf u d in
          both (StartsBeforeCommit h t u) (StartsBeforeCommit h u t) (starts_before_decided t u a b) (starts_before_decided u t b a)
    ]
  ]

  pub vulnerable_decided : (t u : ℕ) → Decided (IsVulnerable h t u)
  vulnerable_decided t u =
      decided_alike (Overlap h t u × ((k : ℕ) × RwEdge h t u k)) (IsVulnerable h t u) (λ w. (w.0, w.1.0, w.1.1)) (λ v. (v.0, (v.1, v.2)))
      (both (Overlap h t u) ((k : ℕ) × RwEdge h t u k) (overlap_decided t u) (rw_decided h wf t u))

  -- u sees t's commit, or t has an rw edge to u and they overlap
  abbrev Follows : ℕ → ℕ → Type 0
  Follows t u = IsCommitted h t × IsCommitted h u × (Sees h u t ⊎ IsVulnerable h t u)

  follows_decided : (t u : ℕ) → Decided (Follows t u)
  follows_decided t u = by_parts (committed_or_not h t) (committed_or_not h u)
    where
      by_parts : Decided (IsCommitted h t) → Decided (IsCommitted h u) → Decided (Follows t u)
      by_parts (inr fails) d = inr (λ f. fails f.0)
      by_parts (inl c) (inr fails) = inr (λ f. fails f.1)
      by_parts (inl c) (inl d) =
          let a = lifetime_of h wf t c in
          let b = lifetime_of h wf u d in
          elim (either_decided (Sees h u t) (IsVulnerable h t u) (sees_decided u t b a) (vulnerable_decided t u)) [
            | inl w ↦ inl (c, d, w)
            | inr fails ↦ inr (λ f. fails f.2)
          ]

  -- of committed transactions, the one that commits first
  pub earliest : (x : ℕ) (xs : List ℕ) → ((t : ℕ) → In t (x ∷ xs) → IsCommitted h t)
      → (m : ℕ) × (c : ℕ) × In m (x ∷ xs) × CommitsAt h m c × ((t d : ℕ) → In t (x ∷ xs) → CommitsAt h t d → c ≤ d)
  earliest x [] all =
      let c = all x (inl refl) in (
        x,
        c.0,
        inl refl,
        c.1,
        grind (arith, one_commit, cases_lt),
      )
  earliest x (y ∷ xs) all =
      let c = all x (inl refl) in
      let rest = earliest y xs (λ t i. all t (inr i)) in
      elim (cases_lt c.0 rest.1) [
        | inl less ↦ (
          x,
          c.0,
          inl refl,
          c.1,
          λ t d i at. elim i [
            | inl e ↦ let same : d ≡ c.0 = one_commit h wf t d c.0 at (subst (λ y. CommitsAt h y c.0) e c.1) in omega arith
            | inr j ↦ let l = rest.4 t d j at in omega arith
          ],
        )
        | inr more ↦ (
          rest.0,
          rest.1,
          inr rest.2,
          rest.3,
          λ t d i at. elim i [
            | inl e ↦ let same : d ≡ c.0 = one_commit h wf t d c.0 at (subst (λ y. CommitsAt h y c.0) e c.1) in omega arith
            | inr j ↦ rest.4 t d j at
          ],
        )
      ]

  -- the first to commit of a fed set is the last transaction of a dangerous structure
  none_fed : NoFirst h → (x : ℕ) (xs : List ℕ) → ((t : ℕ) → In t (x ∷ xs) → IsCommitted h t) → ¬ IsFed Follows (x ∷ xs)
  none_fed none x xs all fed =
      let least = earliest x xs all in
      let out_to = least.0 in
      let out = lifetime_of h wf out_to (all out_to least.2) in
      let same_out : out.commit ≡ least.1 = one_commit h wf out_to out.commit least.1 out.commits least.3 in
      let middle = fed out_to least.2 in
      let t = middle.0 in
      let mid = lifetime_of h wf t middle.2.0 in
      let mid_later : least.1 ≤ mid.commit = least.4 t mid.commit middle.1 mid.commits in
      let out_vulnerable : IsVulnerable h t out_to = elim (middle.2.2) [
        | inl sees ↦ let l = sees_le h wf out_to t out.start mid.commit out.starts mid.commits sees in let o = out.ordered in absurd (omega arith)
        | inr v ↦ v
      ] in
      let start_before : mid.start < out.commit = starts_lt t out_to mid.start out.commit mid.starts out.commits out_vulnerable.0.0 in
      let inner = fed t middle.1 in
      let in_from = inner.0 in
      let start = lifetime_of h wf in_from inner.2.0 in
      let in_later : least.1 ≤ start.commit = least.4 in_from start.commit inner.1 start.commits in
      let in_vulnerable : IsVulnerable h in_from t = elim (inner.2.2) [
        | inl sees ↦ let l = sees_le h wf t in_from mid.start start.commit mid.starts start.commits sees in absurd (omega arith)
        | inr v ↦ v
      ] in
      let before : (w : ℕ) (s : Lifetime h w) → least.1 ≤ s.commit → (out_to ≡ w) ⊎ CommitsBefore h out_to w = λ w s l. elim (cases_lt out.commit s.commit) [
        | inl less ↦ inr (out.commit, s.commit, out.commits, s.commits, less)
        | inr more ↦ inl (same_committer h out_to w out.commit s.commit (omega arith) out.commits s.commits)
      ] in
      let first : CommitsBefore h out_to t = elim (before t mid mid_later) [ inl same ↦ absurd (out_vulnerable.2.0 (sym same)) | inr b ↦ b ] in
      none t out_to (out_vulnerable, first, in_from, in_vulnerable, before in_from start in_later)

  module _ (kept : IsolationKept h) where
    -- u sees each transaction that commits before one whose commit it sees
    sees_earlier : (t v u : ℕ) → Sees h u v → CommitsBefore h t v → Sees h u t
    sees_earlier t v u sees before =
        (sees.0, before.0, sees.2, before.2, omega (arith, commits_lt h wf t v before.0 sees.1 before.2 sees.3 before))

    pub ww_sees : (t u k : ℕ) → WwEdge h t u k → Sees h u t
    ww_sees t u k e =
        let before = e.2 in
        let c = before.0 in
        let b = lifetime_of h wf u (before.1, before.3) in
        elim (cases_lt b.start c) [
          | inl less ↦ absurd (kept.writes k t u (e.0, e.1, (b.start, c, b.starts, before.2, less), before))
          | inr more ↦ (b.start, c, b.starts, before.2, more)
        ]

    -- a version that was seen and isn't the reader's own is the newest visible one, or 0
    pub wr_sees : (t u k : ℕ) → WrEdge h t u k → Sees h u t
    wr_sees t u k e = by_due (saw_due h wf kept e.3 u k e.4 e.5)
      where
        sees_written : Sees h u e.4 → Sees h u t
        sees_written sees = elim (e.8) [
          | inl same ↦ subst (λ x. Sees h u x) (sym same) sees
          | inr (inl zero_first) ↦ absurd (let l = committed_positive h wf t e.1.1 in let z = zero_first.0 in omega arith)
          | inr (inr both) ↦ sees_earlier t e.4 u sees both.2
        ]

        by_due : IsDue h u e.3 k e.4 → Sees h u t
        by_due (inl own) = absurd (e.7 own.1)
        by_due (inr other) = elim (other.1) [
          | inl newest ↦ sees_written newest.0.1
          | inr none ↦ absurd (let l = committed_positive h wf e.4 e.6 in let z = none.1 in omega arith)
        ]

    -- a reader of an earlier version doesn't see the writer's commit
    pub rw_unseen : (t u k : ℕ) → RwEdge h t u k → ¬ Sees h t u
    rw_unseen t u k e sees = by_due (saw_due h wf kept e.3 t k e.4 e.5)
      where
        by_due : ¬ IsDue h t e.3 k e.4
        by_due (inl own) = e.7 own.1
        by_due (inr other) = elim (other.1) [
          | inr none ↦ none.0 u (e.2.0, sees)
          | inl newest ↦
              let seen = newest.0.1 in
              let l = newest.1 u sees.1 seen.1 (e.2.0, sees) sees.3 seen.3 in
              elim (e.8) [
                | inl zero_first ↦ let m = committed_positive h wf e.4 (seen.1, seen.3) in let z = zero_first.0 in omega arith
                | inr later ↦ let m = commits_lt h wf e.4 u seen.1 sees.1 seen.3 sees.3 later.2 in omega arith
              ]
        ]

    pub rw_sees_or_vulnerable : (t u k : ℕ) → RwEdge h t u k → Sees h u t ⊎ IsVulnerable h t u
    rw_sees_or_vulnerable t u k e =
        let a = lifetime_of h wf t e.1 in
        let b = lifetime_of h wf u e.2.1 in
        elim (cases_lt a.start b.commit) [
          | inr more ↦ absurd (rw_unseen t u k e (a.start, b.commit, a.starts, b.commits, more))
          | inl before ↦ elim (cases_lt b.start a.commit) [
            | inr more ↦ inl (b.start, a.commit, b.starts, a.commits, more)
            | inl after ↦ inr (((a.start, b.commit, a.starts, b.commits, before), (b.start, a.commit, b.starts, a.commits, after)), k, e)
          ]
        ]

    edge_follows : (t u : ℕ) → HasEdge h t u → Follows t u
    edge_follows t u e = elim (e.1) [
      | inl ww ↦ ((ww.2.0, ww.2.2), (ww.2.1, ww.2.3), inl (ww_sees t u e.0 ww))
      | inr (inl wr) ↦ (wr.1.1, wr.2, inl (wr_sees t u e.0 wr))
      | inr (inr rw') ↦ (rw'.1, rw'.2.1, rw_sees_or_vulnerable t u e.0 rw')
    ]

    -- so some order keeps every edge
    pub keeping_order : NoFirst h → (order : List ℕ) × IsOrder h order × Keeps (HasEdge h) order
    keeping_order none =
        let made = order_exists h Follows follows_decided (none_fed none) in
        (made.0, made.1, λ t u e. let f = edge_follows t u e in made.2 t u f.0 f.1 f)
