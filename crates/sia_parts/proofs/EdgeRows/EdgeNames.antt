-- Rows that are told by positions are the edges from their source, by names.
use Rattle.std.proofs.Common.{◌≡◌, ◌≢◌, ◌⊎◌, inl, inr, ℕ, ◌+◌, ◌<◌, ◌≤◌, List, [], ◌∷◌, length, refl, ap, sym, subst, ◌∙◌, arith}
use Rattle.std.specs.Prelude.{◌↔◌, Contains, slice_index, slice_index_or}
use Rattle.std.specs.List.Sorted.{IsStrictlySortedBy}
use Rattle.std.specs.Ordering.{nat_cmp, ordering_then}
use Rattle.std.proofs.lemmas.List.{get_or-map, get_or_default, length-map}
use Rattle.std.proofs.lemmas.List.Elements.{Contains-get_or}
use Rattle.std.proofs.lemmas.Map.Keys.{Less-from_sorted}
use Rattle.sia_events.specs.declared.event.Event.{Event}
use Rattle.sia_events.specs.Lists.{ListsAscending, Precedes}
use Rattle.sia_events.specs.Refusals.{IsWellFormed}
use Rattle.sia_events.specs.Transactions.{IsCommitted, Wrote}
use Rattle.sia_index.specs.Info.{AreWrittenKeys, IsKeyAt}
use Rattle.sia_index.specs.Numbers.{IsCommittedAt}
use Rattle.sia_index.proofs.Shared.KeyChains.{key_number}
use Rattle.sia_index.proofs.Shared.Ordered.{ascends}
use Rattle.sia_parts.specs.declared.edges.EdgeTo.{EdgeTo}
use Rattle.sia_parts.specs.declared.edges.Edges.{Edges}
use Rattle.sia_parts.specs.declared.finding.Edge.{Edge}
use Rattle.sia_parts.specs.declared.finding.Kind.{Kind}
use Rattle.sia_parts.specs.declared.finding.Kind.TheVariants.{Ww, Wr, Rw}
use Rattle.sia_parts.specs.contracts.finding.KindOrd.TheImpl.{cmp-value}
use Rattle.sia_parts.specs.EdgeRows.{AreEdgesFrom, CanTell, IsMadeRow, IsMakerRow, IsMissRow, IsToldEdge, edge_of, missed_by, saw_by}
use Rattle.sia_parts.specs.Entries.{EdgeOfKind, IsEdge, edge_rank, kind_number}
use Rattle.sia_parts.specs.Parts.{IsWithin}
use Rattle.sia_parts.specs.Sights.{FromSome}
use Rattle.sia_parts.specs.declared.accesses.RangeMiss.{RangeMiss}
use Rattle.sia_parts.proofs.EdgeRows.AccessRows.{at_number, missed_within, of_number, saw_within}
use Rattle.sia_parts.proofs.Auditing.Committing.{committed_number}
use Rattle.sia_parts.proofs.Shared.Listing.{edge_before}
use Rattle.sia_parts.proofs.EdgeRows.PositionEdges.{edge_is_told, makers_apart, told_is_edge, told_within}
use Rattle.sia_parts.proofs.EdgeRows.PositionOrder.{made_of_key}

-- the row is told by positions, and its key lies within
pub record IsTold (edges : Edges) (i : ℕ) (row : EdgeTo) : Type 0 where
  pub edge : IsToldEdge edges.index.now edges.accesses.now row.kind i row.target row.key
  pub target : (u : ℕ) × IsCommittedAt edges.index.now row.target u
  pub key : (k : ℕ) × IsKeyAt edges.index.now row.key k × IsWithin edges.within k

-- the row is one of those that are made
abbrev pub IsRow : Edges → ℕ → EdgeTo → Type 0
IsRow edges i row = (IsMadeRow edges i row ⊎ FromSome (IsMakerRow edges.index.now i Rw) (saw_by edges i) row)
    ⊎ FromSome (λ (miss : RangeMiss). IsMissRow edges.index.now i miss.from miss.to) (missed_by edges i) row

-- who the edge leads to committed, and its key is written
edge_ends : (h : List Event) (kind : Kind) (t u k : ℕ) → EdgeOfKind h kind t u k → IsCommitted h u × (w : ℕ) × Wrote h w k
edge_ends h Ww t u k edge = ((edge.2.1, edge.2.3), t, edge.0)
edge_ends h Wr t u k edge = (edge.2, t, edge.1.0)
edge_ends h Rw t u k edge = (edge.2.1, u, edge.2.0)

module _ (edges : Edges) (tell : CanTell edges) (wf : IsWellFormed edges.index.now) (i t : ℕ) (src : IsCommittedAt edges.index.now i t) where
  module _ (row : EdgeTo) where
    -- an edge by positions of this kind is one of the row
    of_kind : (kind : Kind) → row.kind ≡ kind → IsToldEdge edges.index.now edges.accesses.now kind i row.target row.key → IsToldEdge edges.index.now edges.accesses.now row.kind i row.target row.key
    of_kind kind same told = subst (λ x. IsToldEdge edges.index.now edges.accesses.now x i row.target row.key) (sym same) told

    -- what was seen is within
    seen_told : (kind : Kind) → kind ≢ Ww → row.kind ≡ kind → (u : ℕ) → IsCommittedAt edges.index.now row.target u → (k : ℕ) → IsKeyAt edges.index.now row.key k
        → IsToldEdge edges.index.now edges.accesses.now kind i row.target row.key → IsTold edges i row
    seen_told kind other same u at k key told = record {
      edge = of_kind kind same told;
      target = (u, at);
      key = (k, key, told_within edges.index.now wf (IsWithin edges.within) edges.accesses.now tell.accesses i row.key row.target t k u src at key kind other told);
    }

    pub row_told : IsRow edges i row → IsTold edges i row
    row_told (inl (inl (q, m, key, inl is))) = record {
      edge = of_kind Ww is.0 (q, is.3, m, is.5, is.4);
      target = (is.5.version.txn, is.5.maker);
      key = key;
    }
    row_told (inl (inl (q, m, key, inr is))) =
        let reading = tell.readings.seen is.3 row.target is.6 in
        let look = (tell.accesses.saw row.target is.3 reading).3 in
        seen_told Wr (λ same. absurd cc) is.0 (tell.accesses.saw row.target is.3 reading).0 look.txn key.0 key.1 (is.1, q, is.3, m, reading, is.5, is.4)
    row_told (inl (inr (q, c, is))) =
        let saw = at_number edges.accesses.now.saw i (saw_within edges.index.now (IsWithin edges.within) edges.accesses.now tell.accesses i t src) q c in
        seen_told Rw (λ same. absurd cc) is.0 is.5.version.txn is.5.maker is.5.version.key is.5.key (is.1, is.3, is.5, inl (q, saw, is.2, is.4))
    row_told (inr (miss, c, is)) =
        let has = at_number edges.accesses.now.missed i (missed_within edges.index.now (IsWithin edges.within) edges.accesses.now tell.accesses i t src) miss c in
        seen_told Rw (λ same. absurd cc) is.0 is.5.version.txn is.5.maker is.5.version.key is.5.key (is.1, is.4, is.5, inr (miss, has, is.2, is.3))

    told_row : (kind : Kind) → row.kind ≡ kind → IsToldEdge edges.index.now edges.accesses.now kind i row.target row.key → (k : ℕ) × IsKeyAt edges.index.now row.key k × IsWithin edges.within k → IsRow edges i row
    told_row Ww same (q, p, m, n, less) key = inl (inl (q, m, key, inl (same, makers_apart edges.index.now wf i row.target row.key q p m n less, made_of_key edges.index.now i row.key q m, p, less, n)))
    told_row Wr same (other, q, p, m, saw, of, le) key =
        let newest = tell.readings.newest row.target p saw in
        let most = newest.1.le in
        inl (inl (q, m, key, inr (same, other, made_of_key edges.index.now i row.key q m, newest.0, omega arith, newest.1.forth row.key of, newest.2)))
    told_row Rw same (other, p, n, inl (q, saw, of, less)) key = inl (inr (q, of_number edges.accesses.now.saw i q saw, (same, other, of, p, less, n)))
    told_row Rw same (other, p, n, inr (miss, has, from, to)) key = inr (miss, of_number edges.accesses.now.missed i miss has, (same, other, from, to, p, n))

    pub row_of_told : IsTold edges i row → IsRow edges i row
    row_of_told told = told_row row.kind refl told.edge told.key

  module _ (txns keys : List ℕ) (txns_are : ListsAscending (IsCommitted edges.index.now) txns) (keys_are : AreWrittenKeys edges.index.now keys) where
    named : (n u : ℕ) → IsCommittedAt edges.index.now n u → IsCommittedAt edges.index.now n (slice_index txns n)
    named n u at = (txns, txns_are, (committed_number edges.index.now txns txns_are n u at).0, refl)

    numbered : (u : ℕ) → IsCommitted edges.index.now u → (n : ℕ) × IsCommittedAt edges.index.now n u × (slice_index txns n ≡ u)
    numbered u is =
        let c = (txns_are.each u).1 is in
        let at = get_or_default txns c.0 0 u c.1 ∙ c.2 in
        (c.0, (txns, txns_are, c.1, at), at)

    keyed : (n k : ℕ) → IsKeyAt edges.index.now n k → IsKeyAt edges.index.now n (slice_index keys n) × (slice_index keys n ≡ k)
    keyed n k at = let is = key_number edges.index.now keys keys_are n k at in ((keys, keys_are, is.0, refl), is.1)

    key_of : (k : ℕ) → (w : ℕ) × Wrote edges.index.now w k → (n : ℕ) × IsKeyAt edges.index.now n k × (slice_index keys n ≡ k)
    key_of k is =
        let c = (keys_are.each k).1 is in
        let at = get_or_default keys c.0 0 k c.1 ∙ c.2 in
        (c.0, (keys, keys_are, c.1, at), at)

    -- a told row by names is an edge
    told_named : (row : EdgeTo) → IsTold edges i row → IsEdge edges.index.now (edge_of txns keys i row) × IsWithin edges.within (slice_index keys row.key)
    told_named row told =
        let key = keyed row.key told.key.0 told.key.1 in (
          told_is_edge edges.index.now wf (IsWithin edges.within) edges.accesses.now tell.accesses i row.key row.target (slice_index txns i) (slice_index keys row.key) (slice_index txns row.target)
              (named i t src) (named row.target told.target.0 told.target.1) key.0 row.kind told.edge,
          subst (IsWithin edges.within) (sym key.1) told.key.2,
        )

    -- and each edge from the source is one
    named_told : (e : Edge) → IsEdge edges.index.now e → IsWithin edges.within e.key → e.src ≡ slice_index txns i → (row : EdgeTo) × IsTold edges i row × (edge_of txns keys i row ≡ e)
    named_told e is within same =
        let ends = edge_ends edges.index.now e.kind e.src e.dst e.key is in
        let target = numbered e.dst ends.0 in
        let key = key_of e.key (ends.1, ends.2) in
        let from = subst (IsCommittedAt edges.index.now i) (sym same) (named i t src) in
        let told = edge_is_told edges.index.now wf (IsWithin edges.within) edges.accesses.now tell.accesses i key.0 target.0 e.src e.key e.dst from target.1 key.1 tell.readings.long.0 tell.readings.long.1 within e.kind is in (
          record { target = target.0; kind = e.kind; key = key.0 },
          record { edge = told; target = (e.dst, target.1); key = (e.key, key.1, within) },
          λ x. record { src = sym same x; dst = target.2 x; kind = e.kind; key = key.2 x },
        )

    -- names go by numbers
    names_go : (n m u w : ℕ) → IsCommittedAt edges.index.now n u → IsCommittedAt edges.index.now m w → n < m → slice_index txns n < slice_index txns m
    names_go n m u w a b less = ascends (λ (x : ℕ). x) (IsCommitted edges.index.now) txns txns_are n m 0 less (committed_number edges.index.now txns txns_are m w b).0

    keys_go : (n m k l : ℕ) → IsKeyAt edges.index.now n k → IsKeyAt edges.index.now m l → n < m → slice_index keys n < slice_index keys m
    keys_go n m k l a b less = ascends (λ (x : ℕ). x) (λ k. (w : ℕ) × Wrote edges.index.now w k) keys keys_are n m 0 less (key_number edges.index.now keys keys_are m l b).0

    by_names : (x y : EdgeTo) → IsTold edges i x → IsTold edges i y → Precedes (0 ∷ x.target ∷ kind_number x.kind ∷ x.key ∷ []) (0 ∷ y.target ∷ kind_number y.kind ∷ y.key ∷ []) → Precedes (edge_rank (edge_of txns keys i x)) (edge_rank (edge_of txns keys i y))
    by_names x y a b (inl never) = absurd (omega arith)
    by_names x y a b (inr (zero, inl less)) = inr (refl, inl (names_go x.target y.target a.target.0 b.target.0 a.target.1 b.target.1 less))
    by_names x y a b (inr (zero, inr (target, inl less))) = inr (refl, inr (ap (slice_index txns) target, inl less))
    by_names x y a b (inr (zero, inr (target, inr (kind, inl less)))) = inr (refl, inr (ap (slice_index txns) target, inr (kind, inl (keys_go x.key y.key a.key.0 b.key.0 a.key.1 b.key.1 less))))
    by_names x y a b (inr (zero, inr (target, inr (kind, inr none)))) = absurd none.1

  pub rows_are : (rows : List EdgeTo) → ((row : EdgeTo) → Contains rows row ↔ IsRow edges i row)
      → IsStrictlySortedBy (λ x y. ordering_then (nat_cmp x.target y.target) (ordering_then (cmp-value.it x.kind y.kind) (nat_cmp x.key y.key))) rows → AreEdgesFrom edges.index.now (IsWithin edges.within) i rows
  rows_are rows each sorted = record {
    targets = λ row c. (told row c).target;
    keys = λ row c. (let key = (told row c).key in (key.0, key.1));
    edges = λ txns keys txns_are keys_are. record {
      ascending = λ a b d less below. (
          let inside : b < length rows = (let l = length-map rows (edge_of txns keys i) in omega arith) in
          let none : EdgeTo = record { target = 0; kind = Ww; key = 0 } in
          let x = slice_index_or rows a none in
          let y = slice_index_or rows b none in
          let first = Contains-get_or rows a none (omega arith) in
          let second = Contains-get_or rows b none inside in
          rw (get_or-map (edge_of txns keys i) rows a none d (omega arith), get_or-map (edge_of txns keys i) rows b none d inside)
          (by_names txns keys txns_are keys_are x y (told x first) (told y second)
          (edge_before (record { src = 0; dst = x.target; kind = x.kind; key = x.key }) (record { src = 0; dst = y.target; kind = y.kind; key = y.key }) (Less-from_sorted _ rows a b none sorted less inside))));
      each = λ e. (
        (λ c. (
            let none : EdgeTo = record { target = 0; kind = Ww; key = 0 } in
            let inside : c.0 < length rows = (let l = length-map rows (edge_of txns keys i) in let b = c.1 in omega arith) in
            let row = slice_index_or rows c.0 none in
            let is : edge_of txns keys i row ≡ e = sym (get_or-map (edge_of txns keys i) rows c.0 none e inside) ∙ c.2 in
            let edge = told_named txns keys txns_are keys_are row (told row (Contains-get_or rows c.0 none inside)) in
            subst (λ (x : Edge). IsEdge edges.index.now x × IsWithin edges.within x.key × (n : ℕ) × (i ≤ n) × (n < i + 1) × IsCommittedAt edges.index.now n x.src) is
            (edge.0, edge.1, i, omega arith, omega arith, named txns keys txns_are keys_are i t src))),
        (λ is. (
            let from : is.2 ≡ i = (let low = is.3 in let high = is.4 in omega arith) in
            let same : slice_index txns i ≡ e.src = (committed_number edges.index.now txns txns_are i e.src (subst (λ n. IsCommittedAt edges.index.now n e.src) from is.5)).1 in
            let row = named_told txns keys txns_are keys_are e is.0 is.1 (sym same) in
            let c = (each row.0).1 (row_of_told row.0 row.1) in
            (c.0, (let l = length-map rows (edge_of txns keys i) in let b = c.1 in omega arith), get_or-map (edge_of txns keys i) rows c.0 row.0 e c.1 ∙ ap (edge_of txns keys i) c.2 ∙ row.2))),
      );
    };
  }
    where
      told : (row : EdgeTo) → Contains rows row → IsTold edges i row
      told row c = row_told row ((each row).0 c)
