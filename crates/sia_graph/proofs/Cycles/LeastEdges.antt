-- The least edge from one transaction to another, in a sorted list.
use Rattle.std.proofs.Common.{◌≡◌, ◌⊎◌, inl, inr, ℕ, ◌<◌, ◌≤◌, true, false, List, [], ◌∷◌, length, get_or, ltb, eqb, ap, sym, ◌∙◌, subst, arith, Contains, AllPairs}
use Rattle.std.specs.List.Sorted.{IsPartitionPoint, IsPartitionedBy}
use Rattle.std.proofs.lemmas.Bool.{cases_lt, cases_eq, ltb-true, lt-ltb, eqb-true, eq-eqb, or_left, or_right, or_cases, and_from, and_parts}
use Rattle.std.proofs.lemmas.List.{get_or_default}
use Rattle.sia_events.specs.Lists.{Precedes}
use Rattle.sia_parts.specs.declared.finding.Edge.{Edge}
use Rattle.sia_parts.specs.Entries.{edge_rank, kind_number}
use Rattle.sia_graph.specs.Orders.{Leads}
use Rattle.sia_graph.specs.Cycles.{TakesLeastEdge, step_edge}
use Rattle.sia_graph.specs.Walks.{is_before}

abbrev IsBefore : ℕ → ℕ → Edge → Type 0
IsBefore s t e = (e.src < s) ⊎ ((e.src ≡ s) × (e.dst < t))

before_true : (s t : ℕ) (e : Edge) → IsBefore s t e → is_before s t e ≡ true
before_true s t e p = grind (arith, or_left, ltb, eqb, lt-ltb, or_right, and_from, eq-eqb)

true_before : (s t : ℕ) (e : Edge) → is_before s t e ≡ true → IsBefore s t e
true_before s t e b = grind (arith, or_cases, ltb, eqb, ltb-true, and_parts, eqb-true)

module _ (edges : List Edge) (sorted : AllPairs (λ d e. Precedes (edge_rank d) (edge_rank e)) edges) (s t : ℕ) where
  earlier : (d e : Edge) → Precedes (edge_rank d) (edge_rank e) → IsBefore s t e → IsBefore s t d
  earlier d e p q = grind arith

  pub parted : IsPartitionedBy (is_before s t) edges
  parted i j d l b later = elim (cases_eq i j) [
    | inl e ↦ ap (λ k. is_before s t (get_or edges k d)) e ∙ later
    | inr other ↦ before_true s t (get_or edges i d) (earlier (get_or edges i d) (get_or edges j d) (sorted i j d (omega arith) b) (true_before s t (get_or edges j d) later))
  ]

  module _ (i : ℕ) (point : IsPartitionPoint (λ e. is_before s t e ≡ true) (λ e. is_before s t e ≡ false) edges i) where
    -- an edge from s to t stands at the point or after it
    no_earlier : (e : Edge) → e.src ≡ s → e.dst ≡ t → (k : ℕ) → k < length edges → get_or edges k e ≡ e → i ≤ k
    no_earlier e a b k l at = grind (arith, cases_lt, true_before)

    pub point_within : Leads (Contains edges) s t → i < length edges
    point_within leads = grind (arith, no_earlier)

    not_before : (d : Edge) → i < length edges → ¬ IsBefore s t (get_or edges i d)
    not_before d l b = let f = sym (before_true s t (get_or edges i d) b) ∙ point.1 i d (omega arith) l in cc

    point_ends : Leads (Contains edges) s t → (d : Edge) → ((get_or edges i d).src ≡ s) × ((get_or edges i d).dst ≡ t)
    point_ends leads d =
        let c = leads.1 in
        let e = leads.0 in
        let k = c.0 in
        let at : get_or edges k d ≡ e = get_or_default edges k d e c.1 ∙ c.2 in
        let a : (get_or edges k d).src ≡ s = ap (λ (y : Edge). y.src) at ∙ leads.2 in
        let b : (get_or edges k d).dst ≡ t = ap (λ (y : Edge). y.dst) at ∙ leads.3 in
        elim (cases_eq i k) [
          | inl same ↦ (ap (λ m. (get_or edges m d).src) same ∙ a, ap (λ m. (get_or edges m d).dst) same ∙ b)
          | inr other ↦ ends (get_or edges i d) (get_or edges k d) (not_before d (point_within leads)) a b (sorted i k d (omega (arith, no_earlier e leads.2 leads.3 k c.1 c.2)) c.1)
        ]
      where
        ends : (x y : Edge) → ¬ IsBefore s t x → y.src ≡ s → y.dst ≡ t → Precedes (edge_rank x) (edge_rank y) → (x.src ≡ s) × (x.dst ≡ t)
        ends x y n a b (inl l) = absurd (n (inl (omega arith)))
        ends x y n a b (inr (e, inl l)) = absurd (n (inr (e ∙ a, omega arith)))
        ends x y n a b (inr (e, inr w)) = (e ∙ a, w.0 ∙ b)

    pub least_edge : Leads (Contains edges) s t → (d : Edge) → TakesLeastEdge (Contains edges) (record { txn = s; kind = (get_or edges i d).kind; key = (get_or edges i d).key }) t
    least_edge leads d =
        let in' = point_within leads in
        let x = get_or edges i d in
        let ends = point_ends leads d in
        let same : x ≡ step_edge (record { txn = s; kind = x.kind; key = x.key }) t = λ j. record { src = ends.0 j; kind = x.kind; dst = ends.1 j; key = x.key } in (
          (i, in', get_or_default edges i (step_edge (record { txn = s; kind = x.kind; key = x.key }) t) d in' ∙ same),
          λ e c a b precedes.
              let at : get_or edges c.0 d ≡ e = get_or_default edges c.0 d e c.1 ∙ c.2 in
              elim (cases_eq i c.0) [
                | inl here ↦ no_less x e (ap (λ m. get_or edges m d) here ∙ at) precedes
                | inr other ↦ no_later x e ends.0 ends.1 a b (subst (λ (y : Edge). Precedes (edge_rank x) (edge_rank y)) at (sorted i c.0 d (omega (arith, no_earlier e a b c.0 c.1 c.2)) c.1)) precedes
              ],
        )
      where
        no_less : (x e : Edge) → x ≡ e → ¬ Precedes (kind_number e.kind ∷ e.key ∷ []) (kind_number x.kind ∷ x.key ∷ [])
        no_less x e same (inl l) = let a = ap (λ (y : Edge). kind_number y.kind) same in omega arith
        no_less x e same (inr (k, inl l)) = let a = ap (λ (y : Edge). y.key) same in omega arith
        no_less x e same (inr (k, inr w)) = w.1

        no_later : (x e : Edge) → x.src ≡ s → x.dst ≡ t → e.src ≡ s → e.dst ≡ t → Precedes (edge_rank x) (edge_rank e) → ¬ Precedes (kind_number e.kind ∷ e.key ∷ []) (kind_number x.kind ∷ x.key ∷ [])
        no_later x e a b c f (inl l) p = omega arith
        no_later x e a b c f (inr (g, inl l)) p = omega arith
        no_later x e a b c f (inr (g, inr (h, inl l))) (inl p) = omega arith
        no_later x e a b c f (inr (g, inr (h, inl l))) (inr p) = let k = p.0 in omega arith
        no_later x e a b c f (inr (g, inr (h, inr (k, inl l)))) (inl p) = omega arith
        no_later x e a b c f (inr (g, inr (h, inr (k, inl l)))) (inr (m, inl p)) = omega arith
        no_later x e a b c f (inr (g, inr (h, inr (k, inl l)))) (inr (m, inr p)) = p.1
        no_later x e a b c f (inr (g, inr (h, inr (k, inr l)))) p = l.1
