-- A list of edges between ids, as a graph of the places of the ids: what is settled of the places is settled of the ids, and how
-- the least sources are found.
use Rattle.std.proofs.Common.{◌≡◌, ◌≢◌, ◌⊎◌, inl, inr, ℕ, zero, suc, ◌+◌, ◌-◌, ◌*◌, ◌<◌, ◌≤◌, Bool, List, [], length, get_or, ap, sym, ◌∙◌, subst, arith, ◌↔◌, All, AllPairs, Contains}
use Rattle.std.specs.List.Sorted.{IsNonDecreasingBy, IsStrictlyIncreasing}
use Rattle.std.proofs.lemmas.Bool.{cases_eq, cases_lt}
use Rattle.std.proofs.lemmas.List.{get_or_default, get_or_past}
use Rattle.sia_events.specs.Closures.LeadsInSteps.{step}
use Rattle.sia_events.specs.Lists.{Precedes}
use Rattle.sia_events.proofs.OfLaws.Closures.{leads_through}
use Rattle.sia_parts.specs.declared.finding.Edge.{Edge}
use Rattle.sia_parts.specs.Entries.{edge_rank}
use Rattle.sia_parts.specs.Groups.{IsGroup}
use Rattle.sia_parts.specs.Sights.{FromSome}
use Rattle.sia_parts.proofs.OfReasons.InTwoNumbers.{group_holds}
use Rattle.sia_graph.specs.Blocks.{IsWayThrough, LeadsThrough}
use Rattle.sia_graph.specs.Graphs.{IsGraphEdge, LeadsTo}
use Rattle.sia_graph.specs.ListedGraphs.{IsGraphOf, IsTargetOf}
use Rattle.sia_graph.specs.NarrowSteps.{name_of}
use Rattle.sia_graph.specs.Orders.{Leads}
use Rattle.sia_graph.specs.StandIns.{LeadsByName}
use Rattle.sia_graph.specs.Previous.{IsLeftIn}
use Rattle.sia_graph.specs.Taken.{AreTakenNodes, IsTaken, node_list}
use Rattle.sia_graph.specs.UnderWay.{times}
use Rattle.sia_graph.specs.Walks.{AreLeastSources}
use Rattle.sia_graph.specs.declared.order.Graph.{Graph}
use Rattle.sia_graph.specs.declared.order.Taken.{Taken}
use Rattle.sia_graph.proofs.Shared.AscendingIds.{ids_less}
use Rattle.sia_graph.proofs.Shared.RowLists.{AreLists}
use Rattle.sia_graph.proofs.Shared.StandIns.{StandFor}
use Rattle.sia_graph.proofs.Orders.TakenFronts.{edge_leads, in_range, leads_edge, range_in}
use Rattle.sia_graph.proofs.Orders.Told.{some_times, times_some}
use Rattle.sia_graph.proofs.OnEvidence.TakenMembers.{taken_members}

-- the row has the places to which edges lead from the id at place p
abbrev pub AreTargetsAt : List ℕ → List Edge → ℕ → List ℕ → Type 0
AreTargetsAt ids edges p row = (q : ℕ) → Contains row q ↔ ((q < length ids) × Leads (Contains edges) (get_or ids p 0) (get_or ids q 0))

-- edges in order stand by their sources
pub sources_rise : (edges : List Edge) → AllPairs (λ d e. Precedes (edge_rank d) (edge_rank e)) edges → IsNonDecreasingBy (λ e. e.src) edges
sources_rise edges sorted i j d l b = elim (cases_lt i j) [
  | inl less ↦ elim (sorted i j d less b) [ inl src ↦ omega arith | inr w ↦ (let e = w.0 in omega arith) ]
  | inr more ↦ let e : i ≡ j = omega arith in let f = ap (λ k. (get_or edges k d).src) e in omega arith
]

module _ (ids : List ℕ) (up : IsStrictlyIncreasing ids) (edges : List Edge) (g : Graph) (of : IsGraphOf ids edges g) where
  leads_at : (p q : ℕ) → LeadsTo g p q → (p < length ids) × (q < length ids) × Leads (Contains edges) (get_or ids p 0) (get_or ids q 0)
  leads_at p q (inl c) = let w = of.graph.within p q (inl c) in (w.0, w.1, ((of.at_targets p q w.0).0 c).1)
  leads_at p q (inr c) = let l = (subst (λ xs. Contains xs p) (of.no_sources q) c).1 in absurd (omega arith)

  abbrev Step : ℕ → ℕ → Type 0
  Step = Leads (IsGraphEdge g)

  abbrev By : ℕ → ℕ → Type 0
  By = LeadsByName (name_of 0 ids) (LeadsThrough (2 * 0) Step)

  is_node : (a : ℕ) → a < length ids → Contains (node_list 0 ids) a
  is_node a l = in_range (2 * 0 + length ids) a (omega arith)

  node_within : (a : ℕ) → Contains (node_list 0 ids) a → a < length ids
  node_within a c = let l = range_in (2 * 0 + length ids) a c in omega arith

  named_by : (a : ℕ) → name_of 0 ids a ≡ get_or ids a 0
  named_by a = let e : a - 2 * 0 ≡ a = omega arith in ap (λ n. get_or ids n 0) e

  step_at : (a b : ℕ) → Step a b → (a < length ids) × (b < length ids) × Leads (Contains edges) (get_or ids a 0) (get_or ids b 0)
  step_at a b s = leads_at a b (edge_leads g a b s)

  by_edge : (t u : ℕ) → By t u → Leads (Contains edges) t u
  by_edge t u by = of_way by.4.2 by.4.3
    where
      of_way : (n : ℕ) → IsWayThrough (2 * 0) Step n by.0 by.1 → Leads (Contains edges) t u
      of_way zero way =
          subst (λ x. Leads (Contains edges) t x) (sym (named_by by.1) ∙ by.3)
          (subst (λ x. Leads (Contains edges) x (get_or ids by.1 0)) (sym (named_by by.0) ∙ by.2) (step_at by.0 by.1 way).2)
      of_way (suc n) way = let l = way.2 in absurd (omega arith)

  module _ (joins : All (λ e. Contains ids e.src × Contains ids e.dst × (e.src ≢ e.dst)) edges) where
    joined : (e : Edge) → Contains edges e → Contains ids e.src × Contains ids e.dst × (e.src ≢ e.dst)
    joined e c = subst (λ (x : Edge). Contains ids x.src × Contains ids x.dst × (x.src ≢ x.dst)) c.2 (joins c.0 e c.1)

    place : (t : ℕ) → Contains ids t → (p : ℕ) × (p < length ids) × (get_or ids p 0 ≡ t)
    place t c = (c.0, c.1, get_or_default ids c.0 0 t c.1 ∙ c.2)

    edge_by : (t u : ℕ) → Leads (Contains edges) t u → By t u
    edge_by t u leads =
        let j = joined leads.0 leads.1 in
        let p = place leads.0.src j.0 in
        let q = place leads.0.dst j.1 in
        let l : Leads (Contains edges) (get_or ids p.0 0) (get_or ids q.0 0) = (leads.0, leads.1, sym p.2, sym q.2) in
        (p.0, q.0, named_by p.0 ∙ p.2 ∙ leads.2, named_by q.0 ∙ q.2 ∙ leads.3, (omega arith, omega arith, 0, leads_edge g p.0 q.0 (inl ((of.at_targets p.0 q.0 p.1).1 (q.1, l)))))

    list_stands : StandFor (Contains ids) (Contains edges) (2 * 0) (node_list 0 ids) (IsGraphEdge g) (name_of 0 ids)
    list_stands = record {
      blocks = record { joins = λ a b s. let w = step_at a b s in (is_node a w.0, is_node b w.1); ascends = λ a b s first second. absurd (omega arith) };
      ascend = λ a b m n less.
          omega (arith, named_by a, named_by b, ids_less ids up a b less (node_within b n.0));
      named = λ t. (
        (λ c. let p = place t c in (p.0, (is_node p.0 p.1, omega arith), named_by p.0 ∙ p.2)),
        (λ w. let l = node_within w.0 w.1.0 in (w.0, l, get_or_default ids w.0 t 0 l ∙ sym (named_by w.0) ∙ w.2)),
      );
      reach = λ t u. (leads_through (λ x y e. step (edge_by x y e)), leads_through (λ x y b. step (by_edge x y b)));
      into = λ t u leads. subst (Contains ids) leads.3 (joined leads.0 leads.1).1;
    }

    pub list_taken : (taken : Taken) → AreTakenNodes 0 ids g taken → IsTaken (Contains ids) (Contains edges) ids taken
    list_taken taken w = taken_members (Contains ids) (Contains edges) 0 ids g list_stands taken w

-- p is the least that is left and leads to j, of the places from i on; where there is none it is j
module _ (targets : List (List ℕ)) (left : List Bool) where
  abbrev pub IsLeastFrom : ℕ → ℕ → ℕ → Type 0
  IsLeastFrom i j p = ((p ≡ j) × ((k : ℕ) → i ≤ k → k < length left → Contains (get_or targets k []) j → ¬ IsLeftIn left k))
      ⊎ ((p < length left) × Contains (get_or targets p []) j × IsLeftIn left p × ((k : ℕ) → i ≤ k → k < length left → Contains (get_or targets k []) j → IsLeftIn left k → p ≤ k))

  abbrev pub AreLeastFrom : ℕ → List ℕ → Type 0
  AreLeastFrom i previous = (length previous ≡ length left) × ((j : ℕ) → j < length left → IsLeastFrom i j (get_or previous j 0))

  -- one place more, which leads elsewhere or isn't left
  passed : (i j p : ℕ) → (Contains (get_or targets i []) j → ¬ IsLeftIn left i) → IsLeastFrom (i + 1) j p → IsLeastFrom i j p
  passed i j p q r = grind (arith, cases_eq, cases_lt)

  pub kept_back : (i : ℕ) (previous : List ℕ) → ¬ IsLeftIn left i → AreLeastFrom (i + 1) previous → AreLeastFrom i previous
  kept_back i previous out are = (are.0, λ j l. passed i j (get_or previous j 0) (λ c. out) (are.1 j l))

  pub led_back : (i : ℕ) (previous new : List ℕ) → i < length left → IsLeftIn left i → length new ≡ length previous
      → ((t : ℕ) → Contains (get_or targets i []) t → get_or new t 0 ≡ i) → ((t : ℕ) → ¬ Contains (get_or targets i []) t → get_or new t 0 ≡ get_or previous t 0)
      → AreLeastFrom (i + 1) previous → AreLeastFrom i new
  led_back i previous new below is long led others are = (
    long ∙ are.0,
    λ j l. elim (cases_lt 0 (times j (get_or targets i []))) [
      | inl some ↦ grind (arith, cases_lt, some_times, times_some, passed)
      | inr none ↦
          let out : ¬ Contains (get_or targets i []) j = λ c. (let m = times_some j (get_or targets i []) c in omega arith) in
          subst (λ p. IsLeastFrom i j p) (sym (others j out)) (passed i j (get_or previous j 0) (λ c. absurd (out c)) (are.1 j l))
    ],
  )

  pub none_led : (previous : List ℕ) → length previous ≡ length left → ((j : ℕ) → j < length left → get_or previous j 0 ≡ j) → AreLeastFrom (length left) previous
  none_led previous long same = (long, λ j l. inl (same j l, λ k a b. absurd (omega arith)))

pub least_found : (ids : List ℕ) (edges : List Edge) (g : Graph) (of : IsGraphOf ids edges g) (left : List Bool) (same : length left ≡ length ids) (previous : List ℕ)
    → AreLeastFrom g.targets left 0 previous → AreLeastSources ids (Contains edges) (IsLeftIn left) previous
least_found ids edges g of left same previous are i l = elim (are.1 i (omega arith)) [
  | inl w ↦ inr (w.0, λ q s. w.1 q (omega arith) (let b = s.0 in omega arith) ((of.at_targets q i s.0).1 (l, s.2)) s.1)
  | inr w ↦
      let p = get_or previous i 0 in
      let inside : p < length ids = omega arith in
      inl ((inside, w.2, ((of.at_targets p i inside).0 w.1).1), λ q s. w.3 q (omega arith) (let d = s.0 in omega arith) ((of.at_targets q i s.0).1 (l, s.2)) s.1)
]

pub all_in : {A : Type 0} (P : A → Type 0) (xs : List A) (x : A) → All P xs → Contains xs x → P x
all_in P xs x all c = subst P c.2 (all c.0 x c.1)

-- the places to which the edges of one source lead
pub group_targets : (ids : List ℕ) (edges group : List Edge) (p : ℕ) (row : List ℕ) → IsGroup (λ e. e.src) edges (get_or ids p 0) group → ((q : ℕ) → Contains row q ↔ FromSome (IsTargetOf ids) group q)
    → AreTargetsAt ids edges p row
group_targets ids edges group p row is has q = (
  (λ c.
      let w = (has q).0 c in
      let e = (group_holds (λ (x : Edge). x.src) edges (get_or ids p 0) group is w.0).0 w.1 in
      (w.2.0, (w.0, e.0, e.1, sym w.2.1))),
  (λ w.
      let leads = w.1 in
      (has q).1 (leads.0, (group_holds (λ (x : Edge). x.src) edges (get_or ids p 0) group is leads.0).1 (leads.1, leads.2), (w.0, sym leads.3))),
)

-- such rows for all ids, and none of sources, are the graph
pub graph_made : (ids : List ℕ) → IsStrictlyIncreasing ids → (edges : List Edge) → All (λ e. Contains ids e.src × Contains ids e.dst × (e.src ≢ e.dst)) edges → (g : Graph)
    → AreLists (AreTargetsAt ids edges) g.targets (length ids) → AreLists (λ q row. row ≡ []) g.sources (length ids) → IsGraphOf ids edges g
graph_made ids up edges joins g targets sources = record {
  graph = record {
    targets_long = targets.0;
    sources_long = sources.0;
    within = λ p q l. elim l [ inl c ↦ (below p q c, ((targets.1 p (below p q c) q).0 c).0) | inr c ↦ absurd (no_source q p c) ];
    apart = λ p q l same. elim l [
      | inl c ↦
          let leads = ((targets.1 p (below p q c) q).0 c).1 in
          (all_in (λ e. Contains ids e.src × Contains ids e.dst × (e.src ≢ e.dst)) edges leads.0 joins leads.1).2 (leads.2 ∙ ap (λ k. get_or ids k 0) same ∙ sym leads.3)
      | inr c ↦ no_source q p c
    ];
  };
  at_targets = λ p q l. targets.1 p l q;
  no_sources = empty;
}
  where
    empty : (q : ℕ) → get_or g.sources q [] ≡ []
    empty q = elim (cases_lt q (length ids)) [ inl l ↦ sources.1 q l | inr m ↦ get_or_past g.sources q [] (let e = sources.0 in omega arith) ]

    no_source : (q p : ℕ) → ¬ Contains (get_or g.sources q []) p
    no_source q p c = let l = (subst (λ xs. Contains xs p) (empty q) c).1 in omega arith

    below : (p q : ℕ) → Contains (get_or g.targets p []) q → p < length ids
    below p q c = elim (cases_lt p (length ids)) [
      | inl l ↦ l
      | inr m ↦ let l = (subst (λ xs. Contains xs q) (get_or_past g.targets p [] (let e = targets.0 in omega arith)) c).1 in absurd (omega arith)
    ]
