-- Lists of links in order, and those that have one number at an end.
-- Lifetimes and makers by the numbers of transactions.
-- Vulnerable edges of a well-formed history by the numbers of their ends, and the commits of their sources.
use Rattle.std.proofs.Common.{◌≡◌, ℕ, ◌<◌, List, [], ◌∷◌, ◌==◌, Bool, true, false, not, eqb, length, get_or, refl, sym, subst, ◌∙◌, arith, inl, inr, map}
use Rattle.std.specs.Prelude.{◌↔◌, Contains, IsTrue, ⊤, AllPairs, slice_index}
use Rattle.std.specs.Ordering.{nat_cmp, ordering_then}
use Rattle.std.specs.declared.cmp.Ordering.{Ordering}
use Rattle.std.specs.declared.cmp.Ordering.TheVariants.{Less}
use Rattle.std.proofs.lemmas.Bool.{eq-eqb, eqb-true, ne_eqb}
use Rattle.std.proofs.lemmas.List.Elements.{All-contains, All-contains_itself, All-filter, filter_passes, Contains-get_or}
use Rattle.std.proofs.lemmas.List.Kept.{AllPairs-filter}
use Rattle.std.proofs.lemmas.List.FromFn.{get_or-map-range_with_len, length-map-range_with_len}
use Rattle.sia_events.specs.Lists.{ListsBy, Precedes, ListsAscending}
use Rattle.sia_index.specs.Lists.{dealt, rows_of}
use Rattle.sia_index.proofs.VersionRows.StableDeal.{filter_has}
use Rattle.sia_graph.specs.declared.pivot.Link.{Link}
use Rattle.sia_graph.specs.Links.{ListsLinks, link_rank, IsVulnerableAt}
use Rattle.sia_index.proofs.Shared.Ordered.{precedes_last, precedes_then}
use Rattle.sia_events.specs.declared.event.Event.{Event}
use Rattle.sia_events.specs.Transactions.{IsCommitted, CommitsAt, Overlap}
use Rattle.sia_index.specs.declared.info.Lifetime.{Lifetime}
use Rattle.sia_index.specs.Lifetimes.{AreLifetimes, IsLifetime}
use Rattle.sia_index.specs.Numbers.{IsCommittedAt}
use Rattle.std.proofs.lemmas.List.{get_or-map, length-map}
use Rattle.sia_events.specs.Refusals.{IsWellFormed}
use Rattle.sia_events.specs.DangerousStructures.{IsPivot, IsVulnerable}
use Rattle.sia_events.proofs.Writing.WellFormed.{one_commit}
use Rattle.sia_parts.specs.declared.finding.Edge.{Edge}
use Rattle.sia_parts.specs.declared.finding.Kind.TheVariants.{Rw}
use Rattle.sia_parts.specs.Entries.{EdgeOfKind}
use Rattle.sia_parts.specs.Findings.{ListsEdges}
use Rattle.sia_parts.specs.Sights.{FromSome}
use Rattle.sia_graph.proofs.Shared.Numbered.{number_of, txn_number}
use Rattle.sia_graph.proofs.OfPivots.ListedAs.{mapped}
use Rattle.sia_parts.proofs.Shared.OneNumber.{one_committed as one_txn_at}

abbrev pub by_link : Link → Link → Ordering
by_link k l = ordering_then (nat_cmp k.at l.at) (nat_cmp k.other l.other)

pub link_before : (k l : Link) → by_link k l ≡ Less → Precedes (link_rank k) (link_rank l)
link_before k l less = precedes_then k.at l.at (nat_cmp k.other l.other) (k.other ∷ []) (l.other ∷ []) less (precedes_last k.other l.other)

-- those that have the number at this end
pub rows_listed : (by : Link → ℕ) (R : ℕ → ℕ → Type 0) (n : ℕ) (links : List Link) → ListsLinks R links → ListsBy link_rank (λ l. (by l ≡ n) × R l.at l.other) (rows_of by links n)
rows_listed by R n links l = record {
  ascending = AllPairs-filter (λ x y. Precedes (link_rank x) (link_rank y)) (λ x. eqb (by x) n) links l.ascending;
  each = λ x. (
    (λ c. (
      eqb-true (by x) n (All-contains (λ y. eqb (by y) n ≡ true) (rows_of by links n) x (filter_passes (λ y. eqb (by y) n) links) c),
      (l.each x).0 (All-contains (Contains links) (rows_of by links n) x (All-filter (λ y. eqb (by y) n) (Contains links) links (All-contains_itself links)) c),
    )),
    (λ p. filter_has (λ y. eqb (by y) n) links x (eq-eqb (by x) n p.0) ((l.each x).1 p.1)),
  );
}

-- which are what is dealt to it
pub length-dealt : (by : Link → ℕ) (count : ℕ) (links : List Link) → length (dealt by count links) ≡ count
length-dealt by count links = length-map-range_with_len (rows_of by links) 0 count

pub dealt_listed : (by : Link → ℕ) (R : ℕ → ℕ → Type 0) (count n : ℕ) (links : List Link) → n < count → ListsLinks R links → ListsBy link_rank (λ l. (by l ≡ n) × R l.at l.other) (get_or (dealt by count links) n [])
dealt_listed by R count n links below l =
    subst (ListsBy link_rank (λ l. (by l ≡ n) × R l.at l.other)) (sym (get_or-map-range_with_len (rows_of by links) 0 count n n [] below (omega arith))) (rows_listed by R n links l)

-- whether there are some
pub some_link : (links : List Link) (empty : Bool) → empty ≡ (length links == 0) → IsTrue (not empty) ↔ ((l : Link) × Contains links l)
some_link [] empty told = ((λ yes. absurd (let e = told in cc)), (λ w. absurd (let below = w.1.1 in omega arith)))
some_link (l ∷ links) empty told = ((λ yes. (l, (0, omega arith, refl))), (λ w. let no : empty ≡ false = told ∙ ne_eqb (length (l ∷ links)) 0 (λ e. absurd (omega arith)) in cc no))

-- the lifetime of a number
pub lived : (h : List Event) (lifetimes : List Lifetime) → ((txns : List ℕ) → ListsAscending (IsCommitted h) txns → AreLifetimes h txns lifetimes) → (i t : ℕ) → IsCommittedAt h i t
    → (i < length lifetimes) × ((d : Lifetime) → IsLifetime h t (get_or lifetimes i d))
lived h lifetimes are i t at =
    let all = are at.0 at.1 in
    let below = at.2 in
    (omega arith, λ d. subst (λ u. IsLifetime h u (get_or lifetimes i d)) at.3 (all.each i d below))

-- both ends of a vulnerable edge committed
pub target_committed : (h : List Event) (t u : ℕ) → IsVulnerable h t u → IsCommitted h u
target_committed h t u v = let s = v.0.0 in (s.1, s.3)

pub source_committed : (h : List Event) (t u : ℕ) → IsVulnerable h t u → IsCommitted h t
source_committed h t u v = let s = v.0.1 in (s.1, s.3)

-- the link is that of an edge of the kind rw whose ends overlap
abbrev pub IsLinkOf : List Event → Edge → Link → Type 0
IsLinkOf h e l = (e.kind ≡ Rw) × Overlap h e.src e.dst × IsCommittedAt h l.at e.src × IsCommittedAt h l.other e.dst

-- of all edges those are the vulnerable ones
pub links_of_edges : (h : List Event) (edges : List Edge) → ListsEdges h (λ _. ⊤) edges → (l : Link) → FromSome (IsLinkOf h) edges l ↔ IsVulnerableAt h l.at l.other
links_of_edges h edges all l = (
  (λ f.
      let e = f.0 in
      let is : EdgeOfKind h e.kind e.src e.dst e.key = ((all.each e).0 f.1).0 in
      (e.src, e.dst, f.2.2, f.2.3, (f.2.1, e.key, subst (λ k. EdgeOfKind h k e.src e.dst e.key) f.2.0 is))),
  (λ v.
      let e : Edge = record { src = v.0; kind = Rw; dst = v.1; key = v.4.1 } in
      (e, (all.each e).1 (v.4.2, tt), (refl, v.4.0, v.2, v.3))),
)

-- the commit of the link's source
abbrev pub CommitsIn : List Lifetime → Link → ℕ → Type 0
CommitsIn lifetimes l y = (get_or lifetimes l.at (record { start = 0; commit = 0 })).commit ≡ y

-- the names of the ends ascend, and are those that have Q
pub names_listed : (h : List Event) (txns : List ℕ) → ListsAscending (IsCommitted h) txns → (by : Link → ℕ) (links : List Link) → AllPairs (λ k l. by k < by l) links → (Q : ℕ → Type 0)
    → ((l : Link) → Contains links l → (u : ℕ) × IsCommittedAt h (by l) u × Q u) → ((u : ℕ) → Q u → (l : Link) × Contains links l × IsCommittedAt h (by l) u)
    → ListsAscending Q (map (λ l. slice_index txns (by l)) links)
names_listed h txns are by links up Q each has = record {
  ascending = λ i j d less below.
      let e : Link = record { at = 0; other = 0 } in
      let more : j < length links = omega (arith, length-map links (λ (k : Link). slice_index txns (by k))) in
      let first = get_or-map (λ (k : Link). slice_index txns (by k)) links i e d (omega arith) in
      let second = get_or-map (λ (k : Link). slice_index txns (by k)) links j e d more in
      let last = each (get_or links j e) (Contains-get_or links j e more) in
      let within = (txn_number h txns are (by (get_or links j e)) last.0 last.1).0 in
      let under = up i j e less more in
      subst (λ n. Precedes (get_or (map (λ (k : Link). slice_index txns (by k)) links) i d ∷ []) (n ∷ [])) (sym second)
      (subst (λ n. Precedes (n ∷ []) (slice_index txns (by (get_or links j e)) ∷ [])) (sym first) (are.ascending (by (get_or links i e)) (by (get_or links j e)) 0 under within));
  each = λ u. (
    (λ c.
        let w = (mapped (λ (k : Link). slice_index txns (by k)) links u).0 c in
        let q = each w.0 w.1 in
        subst Q (sym (txn_number h txns are (by w.0) q.0 q.1).1 ∙ w.2) q.2),
    (λ q.
        let w = has u q in
        (mapped (λ (k : Link). slice_index txns (by k)) links u).1 (w.0, w.1, (txn_number h txns are (by w.0) u w.2).1)),
  );
}

module _ (h : List Event) (n t : ℕ) (at : IsCommittedAt h n t) (txns : List ℕ) (are : ListsAscending (IsCommitted h) txns) where
  -- so the sources of the vulnerable edges to number n, and the targets of those from it
  pub ins_named : (ins : List Link) → ListsLinks (λ i j. (j ≡ n) × IsVulnerableAt h i j) ins → ListsAscending (λ u. IsVulnerable h u t) (map (λ l. slice_index txns l.at) ins)
  ins_named ins l = names_listed h txns are (λ k. k.at) ins
      (λ i j d less below. of_ranks (get_or ins i d) (get_or ins j d) ((l.each (get_or ins i d)).0 (Contains-get_or ins i d (omega arith))).0 ((l.each (get_or ins j d)).0 (Contains-get_or ins j d below)).0 (l.ascending i j d less below))
      (λ u. IsVulnerable h u t)
      (λ k c. let v = (l.each k).0 c in (v.1.0, v.1.2, subst (IsVulnerable h v.1.0) (one_txn_at h n v.1.1 t (subst (λ m. IsCommittedAt h m v.1.1) v.0 v.1.3) at) v.1.4))
      (λ u v. let i = number_of h txns are u (source_committed h u t v) in (record { at = i.0; other = n }, (l.each (record { at = i.0; other = n })).1 (refl, (u, t, i.1, at, v)), i.1))
    where
      of_ranks : (j k : Link) → j.other ≡ n → k.other ≡ n → Precedes (link_rank j) (link_rank k) → j.at < k.at
      of_ranks j k a b (inl less) = less
      of_ranks j k a b (inr (same, inl less)) = absurd (omega arith)
      of_ranks j k a b (inr (same, inr none)) = absurd none.1

  pub outs_named : (outs : List Link) → ListsLinks (λ i j. (i ≡ n) × IsVulnerableAt h i j) outs → ListsAscending (IsVulnerable h t) (map (λ l. slice_index txns l.other) outs)
  outs_named outs l = names_listed h txns are (λ k. k.other) outs
      (λ i j d less below. of_ranks (get_or outs i d) (get_or outs j d) ((l.each (get_or outs i d)).0 (Contains-get_or outs i d (omega arith))).0 ((l.each (get_or outs j d)).0 (Contains-get_or outs j d below)).0 (l.ascending i j d less below))
      (IsVulnerable h t)
      (λ k c. let v = (l.each k).0 c in (v.1.1, v.1.3, subst (λ u. IsVulnerable h u v.1.1) (one_txn_at h n v.1.0 t (subst (λ m. IsCommittedAt h m v.1.0) v.0 v.1.2) at) v.1.4))
      (λ u v. let j = number_of h txns are u (target_committed h t u v) in (record { at = n; other = j.0 }, (l.each (record { at = n; other = j.0 })).1 (refl, (t, u, at, j.1, v)), j.1))
    where
      of_ranks : (j k : Link) → j.at ≡ n → k.at ≡ n → Precedes (link_rank j) (link_rank k) → j.other < k.other
      of_ranks j k a b (inl less) = absurd (omega arith)
      of_ranks j k a b (inr (same, inl less)) = less
      of_ranks j k a b (inr (same, inr none)) = absurd none.1

  -- it is a pivot exactly if there are edges of both sorts
  pub is_pivot : (ins outs : List Link) → ListsLinks (λ i j. (j ≡ n) × IsVulnerableAt h i j) ins → ListsLinks (λ i j. (i ≡ n) × IsVulnerableAt h i j) outs
      → (((k : Link) × Contains ins k) × ((k : Link) × Contains outs k)) ↔ IsPivot h t
  is_pivot ins outs l m = (
    (λ w.
        let v = (l.each w.0.0).0 w.0.1 in
        let x = (m.each w.1.0).0 w.1.1 in (
          (v.1.0, subst (IsVulnerable h v.1.0) (one_txn_at h n v.1.1 t (subst (λ m. IsCommittedAt h m v.1.1) v.0 v.1.3) at) v.1.4),
          (x.1.1, subst (λ u. IsVulnerable h u x.1.1) (one_txn_at h n x.1.0 t (subst (λ m. IsCommittedAt h m x.1.0) x.0 x.1.2) at) x.1.4),
        )),
    (λ is.
        let i = number_of h txns are is.0.0 (source_committed h is.0.0 t is.0.1) in
        let j = number_of h txns are is.1.0 (target_committed h t is.1.0 is.1.1) in (
          (record { at = i.0; other = n }, (l.each (record { at = i.0; other = n })).1 (refl, (is.0.0, t, i.1, at, is.0.1))),
          (record { at = n; other = j.0 }, (m.each (record { at = n; other = j.0 })).1 (refl, (t, is.1.0, at, j.1, is.1.1))),
        )),
  )

  -- the commits of those from whom an edge leads to it
  pub ins_commit : IsWellFormed h → (lifetimes : List Lifetime) → ((i u : ℕ) → IsCommittedAt h i u → (i < length lifetimes) × ((d : Lifetime) → IsLifetime h u (get_or lifetimes i d))) → (ins : List Link)
      → ListsLinks (λ i j. (j ≡ n) × IsVulnerableAt h i j) ins → (c : ℕ) → FromSome (CommitsIn lifetimes) ins c ↔ ((s : ℕ) × IsVulnerable h s t × CommitsAt h s c)
  ins_commit wf lifetimes live ins l c = (
    (λ (k, has, is).
        let x = (l.each k).0 has in
        (x.1.0, subst (IsVulnerable h x.1.0) (one_txn_at h n x.1.1 t (subst (λ m. IsCommittedAt h m x.1.1) x.0 x.1.3) at) x.1.4, subst (CommitsAt h x.1.0) is ((live k.at x.1.0 x.1.2).1 (record { start = 0; commit = 0 })).1)),
    (λ (s, v, commits).
        let i = number_of h at.0 at.1 s (source_committed h s t v) in
        let k : Link = record { at = i.0; other = n } in
        (k, (l.each k).1 (refl, (s, t, i.1, at, v)), one_commit h wf s _ c ((live i.0 s i.1).1 (record { start = 0; commit = 0 })).1 commits)),
  )
