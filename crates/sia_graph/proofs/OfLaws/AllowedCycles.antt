-- Where isolation is kept, every cycle of edges has two rw edges between overlapping transactions that follow one another: the
-- two that lead to the first of its transactions to commit.
use Rattle.std.proofs.Common.{◌≡◌, ◌⊎◌, ◌↔◌, inl, inr, ℕ, zero, suc, ◌+◌, ◌-◌, ◌<◌, ◌≤◌, List, [], ◌∷◌, length, map, slice_get, Some, refl, sym, subst, arith, get_or, ap, ◌∙◌}
use Rattle.std.proofs.lemmas.Bool.{cases_lt}
use Rattle.std.proofs.lemmas.Option.{get_or_from_slice_get, same_Some, slice_get-get_or, slice_get_within}
use Rattle.sia_events.specs.declared.event.Event.{Event}
use Rattle.sia_events.specs.Isolation.{IsolationKept}
use Rattle.sia_events.specs.Refusals.{IsWellFormed}
use Rattle.sia_events.specs.Transactions.{CommitsAt, IsCommitted, Overlap, Sees}
use Rattle.sia_events.proofs.Writing.WellFormed.{one_commit}
use Rattle.sia_parts.specs.declared.finding.Edge.{Edge}
use Rattle.sia_parts.specs.declared.finding.Kind.{Kind}
use Rattle.sia_parts.specs.declared.finding.Kind.TheVariants.{Ww, Wr, Rw}
use Rattle.sia_parts.specs.Entries.{EdgeOfKind, IsEdge}
use Rattle.sia_graph.specs.Allowed.{IsAllowed, IsAllowedAt, IsFollowedAt, IsRwOverlap, LeadRound}
use Rattle.sia_graph.proofs.Shared.Facts.{lifetime_of, sees_le}
use Rattle.sia_graph.proofs.Shared.NoStuckSet.{earliest, rw_sees_or_vulnerable, starts_lt, wr_sees, ww_sees}
use Rattle.sia_graph.proofs.Shared.ReadyOrders.{In}

-- where the edges start
abbrev starts : List Edge → List ℕ
starts edges = map (λ e. e.src) edges

start_there : (edges : List Edge) (i : ℕ) (e : Edge) → slice_get edges i ≡ Some e → In e.src (starts edges)
start_there [] i e at = cc
start_there (f ∷ edges) zero e at = inl (ap (λ (x : Edge). x.src) (same_Some f e at))
start_there (f ∷ edges) (suc i) e at = inr (start_there edges i e at)

start_of : (edges : List Edge) (t : ℕ) → In t (starts edges) → (i : ℕ) × (e : Edge) × (slice_get edges i ≡ Some e) × (e.src ≡ t)
start_of [] t none = absurd none
start_of (e ∷ edges) t (inl same) = (0, e, refl, same)
start_of (e ∷ edges) t (inr later) = let w = start_of edges t later in (suc w.0, w.1, w.2, w.3)

-- each of them follows one
before_it : (edges : List Edge) (j : ℕ) (e : Edge) → slice_get edges j ≡ Some e → (i : ℕ) × (d : Edge) × IsFollowedAt edges i d e
before_it edges zero e at =
    let inside : 0 < length edges = slice_get_within edges 0 e at in
    let last = length edges - 1 in
    (last, get_or edges last e, (0, slice_get-get_or edges last e (omega arith), at, inr (omega arith, refl)))
before_it edges (suc i) e at =
    let inside : suc i < length edges = slice_get_within edges (suc i) e at in
    (i, get_or edges i e, (suc i, slice_get-get_or edges i e (omega arith), at, inl (omega arith)))

module _ (h : List Event) (wf : IsWellFormed h) (kept : IsolationKept h) where
  -- an edge goes to who sees the commit of where it starts, or is an rw edge between overlapping transactions
  leads : (kind : Kind) (t u k : ℕ) → EdgeOfKind h kind t u k → IsCommitted h t × IsCommitted h u × (Sees h u t ⊎ ((kind ≡ Rw) × Overlap h t u))
  leads Ww t u k e = ((e.2.0, e.2.2), (e.2.1, e.2.3), inl (ww_sees h wf kept t u k e))
  leads Wr t u k e = (e.1.1, e.2, inl (wr_sees h wf kept t u k e))
  leads Rw t u k e = (e.1, e.2.1, elim (rw_sees_or_vulnerable h wf kept t u k e) [ inl sees ↦ inl sees | inr v ↦ inr (refl, v.0) ])

  module _ (edges : List Edge) (round : LeadRound h edges) where
    leads_at : (i : ℕ) (e : Edge) → slice_get edges i ≡ Some e → IsCommitted h e.src × IsCommitted h e.dst × (Sees h e.dst e.src ⊎ IsRwOverlap h e)
    leads_at i e at =
        let is : IsEdge h e = subst (IsEdge h) (get_or_from_slice_get edges i e e at) (round.are i e (slice_get_within edges i e at)) in
        leads e.kind e.src e.dst e.key is

    all_committed : (t : ℕ) → In t (starts edges) → IsCommitted h t
    all_committed t there = let w = start_of edges t there in subst (IsCommitted h) (w.3) (leads_at w.0 w.1 w.2).0

    -- the two edges that lead to the first to commit, of those where edges start
    by_first : (m : ℕ) (c : ℕ) → In m (starts edges) → CommitsAt h m c → ((t d : ℕ) → In t (starts edges) → CommitsAt h t d → c ≤ d) → IsAllowed h edges
    by_first m c there commits least =
        let last = start_of edges m there in
        let one = before_it edges last.0 last.1 last.2 in
        let other = before_it edges one.0 one.1 one.2.1 in
        let middle : other.1.dst ≡ one.1.src = round.round other.0 other.1 one.1 other.2 in
        let one_leads = leads_at one.0 one.1 one.2.1 in
        let other_leads = leads_at other.0 other.1 other.2.1 in
        let t2 = lifetime_of h wf one.1.src one_leads.0 in
        let t1 = lifetime_of h wf other.1.src other_leads.0 in
        let t3 = lifetime_of h wf one.1.dst one_leads.1 in
        let same : t3.commit ≡ c = one_commit h wf m t3.commit c (subst (λ t. CommitsAt h t t3.commit) (round.round one.0 one.1 last.1 one.2 ∙ last.3) t3.commits) commits in
        let later2 : c ≤ t2.commit = least one.1.src t2.commit (start_there edges one.0 one.1 one.2.1) t2.commits in
        let later1 : c ≤ t1.commit = least other.1.src t1.commit (start_there edges other.0 other.1 other.2.1) t1.commits in
        let one_is : IsRwOverlap h one.1 = elim (one_leads.2) [
          | inl sees ↦ let l = sees_le h wf one.1.dst one.1.src t3.start t2.commit t3.starts t2.commits sees in let o = t3.ordered in absurd (omega arith)
          | inr is ↦ is
        ] in
        let before : t2.start < t3.commit = starts_lt h wf one.1.src one.1.dst t2.start t3.commit t2.starts t3.commits one_is.1.0 in
        let other_is : IsRwOverlap h other.1 = elim (other_leads.2) [
          | inl sees ↦ let l = sees_le h wf one.1.src other.1.src t2.start t1.commit t2.starts t1.commits (subst (λ t. Sees h t other.1.src) middle sees) in absurd (omega arith)
          | inr is ↦ is
        ] in
        (other.0, (other.1, one.1, other.2, other_is, one_is))

  pub allowed : (edges : List Edge) → LeadRound h edges → IsAllowed h edges
  allowed [] round = let none = round.some in absurd (omega arith)
  allowed (e ∷ edges) round =
      let least = earliest h wf e.src (starts edges) (all_committed (e ∷ edges) round) in
      by_first (e ∷ edges) round least.0 least.1 least.2 least.3 least.4

-- each is followed by one
pub place_after : (edges : List Edge) (i : ℕ) → i < length edges → (j : ℕ) × (j < length edges) × ((j ≡ i + 1) ⊎ ((i + 1 ≡ length edges) × (j ≡ 0)))
place_after edges i inside = elim (cases_lt (i + 1) (length edges)) [
  | inl on ↦ (i + 1, on, inl refl)
  | inr past ↦ (0, omega arith, inr (omega arith, refl))
]

abbrev pub edge_at : List Edge → ℕ → Edge
edge_at edges i = get_or edges i (record { src = 0; dst = 0; kind = Ww; key = 0 })

-- whether two edges that follow one another are such is seen of the edge at a place and the next one
pub both_at : (h : List Event) (edges : List Edge) (i j : ℕ) → i < length edges → j < length edges → (j ≡ i + 1) ⊎ ((i + 1 ≡ length edges) × (j ≡ 0))
    → IsAllowedAt h edges i ↔ (IsRwOverlap h (edge_at edges i) × IsRwOverlap h (edge_at edges j))
both_at h edges i j inside within next = (
  (λ is. (
    subst (IsRwOverlap h) (sym (get_or_from_slice_get edges i is.0 _ is.2.1)) is.3,
    subst (IsRwOverlap h) (sym (get_or_from_slice_get edges j is.1 _ (subst (λ k. slice_get edges k ≡ Some is.1) (same_place is.2.0 (slice_get_within edges is.2.0 is.1 is.2.2) is.2.3 next) is.2.2))) is.4,
  )),
  (λ both. (edge_at edges i, edge_at edges j, (j, slice_get-get_or edges i _ inside, slice_get-get_or edges j _ within, next), both.0, both.1)),
)
  where
    same_place : (k : ℕ) → k < length edges → (k ≡ i + 1) ⊎ ((i + 1 ≡ length edges) × (k ≡ 0)) → (j ≡ i + 1) ⊎ ((i + 1 ≡ length edges) × (j ≡ 0)) → k ≡ j
    same_place k l (inl a) (inl b) = omega arith
    same_place k l (inl a) (inr b) = let c = b.0 in omega arith
    same_place k l (inr a) (inl b) = let c = a.0 in omega arith
    same_place k l (inr a) (inr b) = let c = a.1 in let d = b.1 in omega arith

pub at_it : (h : List Event) (edges : List Edge) (i : ℕ) → i < length edges → IsAllowedAt h edges i → IsRwOverlap h (edge_at edges i)
at_it h edges i inside is = let next = place_after edges i inside in ((both_at h edges i next.0 inside next.1 next.2).0 is).0
