-- A well-formed history has a list of its edges and a list of its pivots.
use Rattle.std.proofs.Common.{◌≡◌, ◌⊎◌, inl, ℕ, List, [], ◌∷◌, Some, map, flat_map, refl, ap, sym, subst, arith, rules}
use Rattle.std.specs.Prelude.{All, Contains, ⊤}
use Rattle.std.proofs.lemmas.Bool.{cases_eq}
use Rattle.std.proofs.lemmas.List.Elements.{All-nil, All-cons}
use Rattle.sia_events.specs.declared.event.Event.{Event}
use Rattle.sia_events.specs.declared.event.Event.TheVariants.{Write, Commit}
use Rattle.sia_events.specs.Places.{at_place}
use Rattle.sia_events.specs.Events.{actor}
use Rattle.sia_events.specs.Refusals.{IsWellFormed}
use Rattle.sia_events.specs.Transactions.{IsCommitted, CommitsBefore}
use Rattle.sia_events.specs.Lists.{ListsAscending}
use Rattle.sia_events.specs.DangerousStructures.{IsVulnerable, IsPivot, IsFirst}
use Rattle.sia_events.proofs.Shared.Decisions.{Decided, both, decided_alike}
use Rattle.sia_parts.specs.declared.finding.Edge.{Edge}
use Rattle.sia_parts.specs.declared.finding.Kind.{Kind}
use Rattle.sia_parts.specs.declared.finding.Kind.TheVariants.{Ww, Wr, Rw}
use Rattle.sia_parts.specs.Entries.{EdgeOfKind, IsEdge, edge_rank}
use Rattle.sia_parts.specs.Findings.{ListsEdges}
use Rattle.sia_graph.specs.declared.pivot.Pivot.{Pivot}
use Rattle.sia_graph.specs.Pivots.{ListsNeighbours, ArePivots}
use Rattle.sia_graph.specs.Listings.{ListingLaw}
use Rattle.sia_graph.proofs.Shared.Deciding.{three_decided, either_decided, event_decided}
use Rattle.sia_graph.proofs.Shared.EdgesDecided.{edge_decided}
use Rattle.sia_graph.proofs.Shared.Facts.{commits_before_decided}
use Rattle.sia_graph.proofs.OfLaws.FiniteLists.{contains_flat, list_of, list_of_txns}
pub use Rattle.sia_graph.proofs.OfLaws.FiniteLists.{event_in}
use Rattle.sia_graph.proofs.Shared.NoStuckSet.{vulnerable_decided}
use Rattle.sia_graph.proofs.OfLaws.OneVerdict.{same_kind}
use Rattle.sia_graph.proofs.OfPivots.Vulnerable.{target_committed, source_committed}

-- its rank tells an edge
edge_told : (x y : Edge) → edge_rank x ≡ edge_rank y → x ≡ y
edge_told x y e = grind (arith, same_kind)

-- the edges that there may be by a write, and an event of the other transaction
abbrev edges_by : Event → Event → List Edge
edges_by (Write t k) f = record { src = t; kind = Ww; dst = actor f; key = k } ∷ record { src = t; kind = Wr; dst = actor f; key = k } ∷ record { src = actor f; kind = Rw; dst = t; key = k } ∷ []
edges_by e f = []

abbrev may_be_edges : List Event → List Edge
may_be_edges h = flat_map (λ e. flat_map (edges_by e) h) h

module _ (h : List Event) where
  by_two : (p q : ℕ) (e f : Event) (x : Edge) → at_place h p ≡ Some e → at_place h q ≡ Some f → Contains (edges_by e f) x → Contains (may_be_edges h) x
  by_two p q e f x at there has = contains_flat (λ e. flat_map (edges_by e) h) h e x (event_in h p e at) (contains_flat (edges_by e) h f x (event_in h q f there) has)

  may_be_edge : (kind : Kind) (t u k : ℕ) → EdgeOfKind h kind t u k → Contains (may_be_edges h) (record { src = t; kind = kind; dst = u; key = k })
  may_be_edge Ww t u k e = by_two e.0.0 e.1.0 (Write t k) (Write u k) (record { src = t; kind = Ww; dst = u; key = k }) e.0.1 e.1.1 (0, omega arith, refl)
  may_be_edge Wr t u k e = by_two e.1.0.0 e.2.0 (Write t k) (Commit u) (record { src = t; kind = Wr; dst = u; key = k }) e.1.0.1 e.2.1 (1, omega arith, refl)
  may_be_edge Rw t u k e = by_two e.2.0.0 e.1.0 (Write u k) (Commit t) (record { src = t; kind = Rw; dst = u; key = k }) e.2.0.1 e.1.1 (2, omega arith, refl)

  -- some committed transaction has P, or none has
  module _ (P : ℕ → Type 0) (decide : (t : ℕ) → Decided (P t)) (committed : (t : ℕ) → P t → IsCommitted h t) where
    some_txn : Decided ((t : ℕ) × P t)
    some_txn =
        decided_alike ((p : ℕ) × (e : Event) × (at_place h p ≡ Some e) × P (actor e)) ((t : ℕ) × P t)
        (λ w. (actor w.1, w.3))
        (λ w. let c = committed w.0 w.1 in (c.0, Commit w.0, c.1, w.1))
        (event_decided (λ e. P (actor e)) (λ e. decide (actor e)) h)

module _ (h : List Event) (wf : IsWellFormed h) where
  pub edge_list_exists : (edges : List Edge) × ListsEdges h (λ _. ⊤) edges
  edge_list_exists =
      list_of edge_rank edge_told (λ e. IsEdge h e × ⊤) (λ e. both (IsEdge h e) ⊤ (edge_decided h wf e.kind e.src e.dst e.key) (inl tt)) (may_be_edges h)
      (λ e is. may_be_edge h e.kind e.src e.dst e.key is.0)

  pivot_or_not : (t : ℕ) → Decided (IsPivot h t)
  pivot_or_not t =
      both ((s : ℕ) × IsVulnerable h s t) ((u : ℕ) × IsVulnerable h t u)
      (some_txn h (λ s. IsVulnerable h s t) (λ s. vulnerable_decided h wf s t) (λ s. source_committed h s t))
      (some_txn h (λ u. IsVulnerable h t u) (vulnerable_decided h wf t) (target_committed h t))

  module _ (t u : ℕ) where
    -- an edge comes in from it, and it isn't before u
    abbrev IsNoEarlier : ℕ → Type 0
    IsNoEarlier s = IsVulnerable h s t × ((u ≡ s) ⊎ CommitsBefore h u s)

    no_earlier_or_not : (s : ℕ) → Decided (IsNoEarlier s)
    no_earlier_or_not s = search (rules, arith, both, vulnerable_decided, either_decided, cases_eq, commits_before_decided)

    first_or_not : Decided (IsFirst h t u)
    first_or_not =
        decided_alike (IsVulnerable h t u × CommitsBefore h u t × ((s : ℕ) × IsNoEarlier s)) (IsFirst h t u)
        (λ w. (w.0, w.1, w.2.0, w.2.1.0, w.2.1.1))
        (λ f. (f.0, f.1, (f.2, (f.3, f.4))))
        (three_decided (IsVulnerable h t u) (CommitsBefore h u t) ((s : ℕ) × IsNoEarlier s) (vulnerable_decided h wf t u) (commits_before_decided h wf u t)
        (some_txn h IsNoEarlier no_earlier_or_not (λ s w. source_committed h s t w.0)))

  -- an entry for each
  entries : (ts : List ℕ) → (found : List Pivot) × (map (λ p. p.txn) found ≡ ts) × All (ListsNeighbours h) found
  entries [] = ([], refl, All-nil (ListsNeighbours h))
  entries (t ∷ ts) =
      let ins = list_of_txns h (λ s. IsVulnerable h s t) (λ s. vulnerable_decided h wf s t) (λ s. source_committed h s t) in
      let outs = list_of_txns h (λ u. IsVulnerable h t u) (vulnerable_decided h wf t) (target_committed h t) in
      let firsts = list_of_txns h (λ u. IsFirst h t u) (first_or_not t) (λ u first. target_committed h t u first.0) in
      let rest = entries ts in
      let p : Pivot = record { txn = t; ins = ins.0; outs = outs.0; firsts = firsts.0 } in
      (p ∷ rest.0, ap (λ l. t ∷ l) rest.1, All-cons (ListsNeighbours h) p rest.0 (record { ins = ins.1; outs = outs.1; firsts = firsts.1 }) rest.2)

  pub pivot_list_exists : (pivots : List Pivot) × ArePivots h pivots
  pivot_list_exists =
      let ts = list_of_txns h (IsPivot h) pivot_or_not (λ t pivot. source_committed h t pivot.1.0 pivot.1.1) in
      let found = entries ts.0 in
      (found.0, record { txns = subst (ListsAscending (IsPivot h)) (sym found.1) ts.1; neighbours = found.2 })

pub listing_holds : (h : List Event) → IsWellFormed h → ListingLaw h
listing_holds h wf = (edge_list_exists h wf, pivot_list_exists h wf)
