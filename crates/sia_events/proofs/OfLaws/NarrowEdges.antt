-- Narrow edges are edges, and lead to all edges in steps.
use Rattle.std.proofs.Common.{◌≡◌, ◌≢◌, ◌⊎◌, inl, inr, ℕ, zero, suc, ◌+◌, ◌<◌, ◌≤◌, List, refl, sym, subst, arith}
use Rattle.std.proofs.lemmas.Bool.{cases_lt, cases_eq}
use Rattle.sia_events.specs.declared.event.Event.{Event}
use Rattle.sia_events.specs.Refusals.{IsWellFormed}
use Rattle.sia_events.specs.Transactions.{IsCommitted, CommitsAt, Wrote}
use Rattle.sia_events.specs.Dependencies.{IsVersionBefore, WwEdge, WrEdge, RwEdge, HasEdge}
use Rattle.sia_events.specs.NarrowDependencies.{Looked, CommitsVersion, IsNextVersion, NarrowWwEdge, NarrowWrEdge, NarrowRwEdge, HasNarrowEdge}
use Rattle.sia_events.specs.Closures.{LeadsInSteps, HaveSameClosure}
use Rattle.sia_events.specs.Closures.LeadsInSteps.{step, steps}
use Rattle.sia_events.specs.Laws.{NarrowLaw}
use Rattle.sia_events.proofs.Shared.Decisions.{Decided, both, first_below}
use Rattle.sia_events.proofs.OfLaws.Endings.{one_committer}
use Rattle.sia_events.proofs.Writing.WellFormed.{one_commit}
use Rattle.sia_events.proofs.OfLaws.Versions.{writer_not_zero}
use Rattle.sia_events.proofs.OfLaws.Due.{WriterCommits, writer_or_not}
use Rattle.sia_events.proofs.OfLaws.Closures.{leads_both, closure_between}
use Rattle.sia_events.proofs.OfLaws.Looks.{commits_above, oldest_look, newest_look, looked_version, looked_saw}

module _ (h : List Event) (wf : IsWellFormed h) (k : ℕ) where
  -- at one place one version is committed
  one_version : (t u c d : ℕ) → c ≡ d → CommitsVersion h k t c → CommitsVersion h k u d → t ≡ u
  one_version t u c d same a b = one_committer h t u d (subst (CommitsAt h t) same a.1) b.1

  wr_edge : (t u : ℕ) → NarrowWrEdge h t u k → WrEdge h t u k
  wr_edge t u n = grind (arith, looked_saw)

  rw_edge : (t u : ℕ) → NarrowRwEdge h t u k → RwEdge h t u k
  rw_edge t u n = (n.0, look.0, (next.1.0, (next.0, next.1.1)), look.1, look.2, look.3, is.0, look.4, is.1)
    where
      look : Looked h t k n.1
      look = n.2

      next : IsNextVersion h k n.1 u
      next = n.4

      is : ((look.2 ≡ 0) ⊎ IsCommitted h look.2) × IsVersionBefore h k look.2 u
      is = elim look.5 [
        | inl none ↦ (inl none.0, inl (none.0, (next.1.0, (next.0, next.1.1))))
        | inr at ↦
            let made = looked_version h t k wf n.1 (commits_above h look.2 n.1 at) look in
            let same : made.0 ≡ look.2 = one_committer h made.0 look.2 n.1 made.1.1 at in
            (inr (n.1, at), inr (subst (λ v. Wrote h v k) same made.1.0, next.1.0, (n.1, next.0, at, next.1.1, next.2)))
      ]

  narrow_edge : (t u : ℕ) → NarrowWwEdge h t u k ⊎ NarrowWrEdge h t u k ⊎ NarrowRwEdge h t u k → WwEdge h t u k ⊎ WrEdge h t u k ⊎ RwEdge h t u k
  narrow_edge t u h = grind (arith, wr_edge, rw_edge)

  -- where a version is committed after a place, one is the next
  next_version : (c u e : ℕ) → CommitsVersion h k u e → c < e → (x : ℕ) × (next : IsNextVersion h k c x) × (next.0 ≤ e)
  next_version c u e version less = elim (first_below Later later_or_not (e + 1)) [
    | inl found ↦ (
      found.2.1.0,
      (found.0, (found.2.1.2, found.2.1.1), found.2.0, λ w d made after. found.3 d (after, (w, made.1, made.0))),
      (let below : found.0 < e + 1 = found.1 in omega arith),
    )
    | inr none ↦ absurd (none e (omega arith) (less, (u, version.1, version.0)))
  ]
    where
      Later : ℕ → Type 0
      Later d = (c < d) × WriterCommits h k d

      later_or_not : (d : ℕ) → Decided (Later d)
      later_or_not d = both (c < d) (WriterCommits h k d) (elim (cases_lt c d) [ inl after ↦ inl after | inr most ↦ inr (λ after. omega arith) ]) (writer_or_not h k d)

  -- a step to a version leads on to each later one
  lead_on : (n t x u d e : ℕ) → HasNarrowEdge h t x → CommitsVersion h k x d → CommitsVersion h k u e → d ≤ e → e ≤ d + n → LeadsInSteps (HasNarrowEdge h) t u
  lead_on zero t x u d e first made version most near = step (subst (HasNarrowEdge h t) (one_version x u d e (omega arith) made version) first)
  lead_on (suc n) t x u d e first made version most near = elim (cases_lt d e) [
    | inr least ↦ step (subst (HasNarrowEdge h t) (one_version x u d e (omega arith) made version) first)
    | inl less ↦
        let next = next_version d u e version less in
        let after : d < next.1.0 = next.1.2 in
        steps first (lead_on n x next.0 u next.1.0 e (k, inl (d, made, next.1)) next.1.1 version next.2 (omega arith))
  ]

  -- so a version leads to each later one
  versions_lead : (t u c e : ℕ) → CommitsVersion h k t c → CommitsVersion h k u e → c < e → LeadsInSteps (HasNarrowEdge h) t u
  versions_lead t u c e made version less =
      let next = next_version c u e version less in
      lead_on e t next.0 u next.1.0 e (k, inl (c, made, next.1)) next.1.1 version next.2 (omega arith)

  -- a version leads to who looked at it or at a later one
  readers_follow : (t u c d : ℕ) → CommitsVersion h k t c → Looked h u k d → c ≤ d → LeadsInSteps (HasNarrowEdge h) t u
  readers_follow t u c d made look most =
      let newest = newest_look h u k d look in
      let above : 0 < c = commits_above h t c made.1 in
      let later : d ≤ newest.0 = newest.2 d look in
      let seen = looked_version h u k wf newest.0 (omega arith) newest.1 in
      let last : HasNarrowEdge h seen.0 u = (k, inr (inl (newest.0, seen.1, newest.1, newest.2))) in
      elim (cases_lt c newest.0) [
        | inl less ↦ leads_both (versions_lead t seen.0 c newest.0 made seen.1 less) (step last)
        | inr least ↦ step (subst (λ x. HasNarrowEdge h x u) (one_version seen.0 t newest.0 c (omega arith) seen.1 made) last)
      ]

  -- who looked at a version leads to each later one
  readers_lead : (t u c e : ℕ) → t ≢ u → Looked h t k c → CommitsVersion h k u e → c < e → LeadsInSteps (HasNarrowEdge h) t u
  readers_lead t u c e other look version less = of_next (next_version oldest.0 u e version (let least : oldest.0 ≤ c = oldest.2 c look in omega arith))
    where
      oldest : (o : ℕ) × Looked h t k o × ((d : ℕ) → Looked h t k d → o ≤ d)
      oldest = oldest_look h t k c look

      of_next : (x : ℕ) × (next : IsNextVersion h k oldest.0 x) × (next.0 ≤ e) → LeadsInSteps (HasNarrowEdge h) t u
      of_next next = elim (cases_eq next.0 t) [
        | inr differ ↦
            lead_on e t next.0 u next.1.0 e (k, inr (inr ((λ same. differ (sym same)), oldest.0, oldest.1, oldest.2, next.1))) next.1.1 version next.2 (omega arith)
        | inl own ↦ grind (arith, versions_lead, one_version)
      ]

  wr_leads : (t u : ℕ) → WrEdge h t u k → LeadsInSteps (HasNarrowEdge h) t u
  wr_leads t u e = readers_follow t u c d (e.1.0, e.1.1.1) (e.2, e.3, e.4, e.5, e.7, inr e.6.1) (most e.8)
    where
      c : ℕ
      c = e.1.1.0

      d : ℕ
      d = e.6.0

      most : (t ≡ e.4) ⊎ IsVersionBefore h k t e.4 → c ≤ d
      most (inl same) = let one : c ≡ d = one_commit h wf e.4 c d (subst (λ x. CommitsAt h x c) same e.1.1.1) e.6.1 in omega arith
      most (inr (inl none)) = absurd (writer_not_zero h wf t k e.1.0 none.0)
      most (inr (inr before)) =
          let x : c ≡ before.2.0 = one_commit h wf t c before.2.0 e.1.1.1 before.2.2 in
          let y : d ≡ before.2.1 = one_commit h wf e.4 d before.2.1 e.6.1 before.2.3 in
          let less : before.2.0 < before.2.1 = before.2.4 in
          omega arith

  rw_leads : (t u : ℕ) → RwEdge h t u k → LeadsInSteps (HasNarrowEdge h) t u
  rw_leads t u e = elim e.8 [
    | inl none ↦ readers_lead t u 0 c e.0 (e.1, e.3, e.4, e.5, e.7, inl (none.0, refl)) (e.2.0, e.2.1.1) (commits_above h u c e.2.1.1)
    | inr before ↦ readers_lead t u before.2.0 before.2.1 e.0 (e.1, e.3, e.4, e.5, e.7, inr before.2.2) (e.2.0, before.2.3) before.2.4
  ]
    where
      c : ℕ
      c = e.2.1.0

  edge_leads : (t u : ℕ) → WwEdge h t u k ⊎ WrEdge h t u k ⊎ RwEdge h t u k → LeadsInSteps (HasNarrowEdge h) t u
  edge_leads t u (inl e) = versions_lead t u e.2.0 e.2.1 (e.0, e.2.2) (e.1, e.2.3) e.2.4
  edge_leads t u (inr (inl e)) = wr_leads t u e
  edge_leads t u (inr (inr e)) = rw_leads t u e

module _ (h : List Event) (wf : IsWellFormed h) where
  pub narrow_is_edge : (t u : ℕ) → HasNarrowEdge h t u → HasEdge h t u
  narrow_is_edge t u n = (n.0, narrow_edge h wf n.0 t u n.1)

  pub edge_leads_narrowly : (t u : ℕ) → HasEdge h t u → LeadsInSteps (HasNarrowEdge h) t u
  edge_leads_narrowly t u e = edge_leads h wf e.0 t u e.1

  -- what has each narrow edge, and edges alone, has the closure of all edges
  pub narrow_closure : {R : ℕ → ℕ → Type 0} → ((t u : ℕ) → HasNarrowEdge h t u → R t u) → ((t u : ℕ) → R t u → HasEdge h t u)
      → HaveSameClosure R (HasEdge h)
  narrow_closure has alone = closure_between has alone edge_leads_narrowly

pub narrow_edges_suffice : (h : List Event) → IsWellFormed h → NarrowLaw h
narrow_edges_suffice h wf = record {
  edges = narrow_is_edge h wf;
  closure = narrow_closure h wf (λ t u n. n) (narrow_is_edge h wf);
  between = λ pairs has alone. narrow_closure h wf has alone;
}
