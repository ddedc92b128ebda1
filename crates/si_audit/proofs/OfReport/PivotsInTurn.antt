-- The lines of all pivots are those of each number in turn.
use Rattle.std.proofs.Common.{◌≡◌, ◌≢◌, ◌⊎◌, inl, inr, ◌==◌, Bool, None, ℕ, zero, suc, ◌<◌, List, [], ◌∷◌, ◌++◌, flat_map, get_or, length, map, refl, ap, sym, subst, ◌∙◌, arith, codes, ◌+◌, ◌≤◌, Contains, filter, slice_index, All}
use Rattle.std.proofs.lemmas.Bool.{eq-eqb, eqb-true, cases_eq, cases_lt}
use Rattle.std.proofs.lemmas.List.{get_or_default}
use Rattle.std.proofs.lemmas.List.Elements.{Contains-get_or}
use Rattle.sia_events.specs.declared.event.Event.{Event}
use Rattle.sia_events.specs.DangerousStructures.{IsFirst, IsVulnerable, IsPivot}
use Rattle.sia_events.specs.Lists.{ListsAscending, ListsBy, Precedes}
use Rattle.sia_events.specs.Transactions.{IsCommitted}
use Rattle.sia_events.proofs.Worked.OneList.{one_list_by}
use Rattle.sia_index.specs.Numbers.{IsCommittedAt}
use Rattle.sia_index.proofs.Shared.Ordered.{ascends}
use Rattle.sia_index.proofs.VersionRows.DealtVersions.{contains_map, map_contains, pairs_map}
use Rattle.sia_parts.proofs.Auditing.Committing.{committed_number}
use Rattle.sia_parts.proofs.Auditing.Members.{contains_first, contains_none, contains_later, first_before, first_or_later, later_pairs}
use Rattle.sia_parts.proofs.EdgeRows.EdgeLists.{lists_both}
use Rattle.sia_parts.proofs.Shared.OneNumber.{one_committed}
use Rattle.sia_graph.specs.declared.neighbours.Neighbour.{Neighbour}
use Rattle.sia_graph.specs.declared.neighbours.Role.{Role}
use Rattle.sia_graph.specs.declared.neighbours.Role.TheVariants.{In, Out, First}
use Rattle.sia_graph.specs.Neighbours.{AreNeighbours, HasRole, IsPivotAt, neighbour_rank, role_number}
use Rattle.si_audit.specs.declared.spelled.Spelled.{Spelled}
use Rattle.si_audit.specs.PivotLines.{IsLineOf, rest_of, role_words}
use Rattle.si_audit.specs.Spelled.{AreSpelled, txn_word}
use Rattle.si_audit.proofs.OfReport.EdgesInTurn.{passing}
use Rattle.si_audit.proofs.OfReport.PivotWords.{HaveRole, last_named, named, pivot_line_is, three_runs}
use Rattle.sia_graph.specs.declared.pivot.Pivot.{Pivot}
use Rattle.sia_graph.specs.Pivots.{ArePivots, ListsNeighbours}
use Rattle.si_audit.specs.Giving.{IsTextOf}
use Rattle.si_audit.specs.Lines.{pivot_line}

-- its number tells a role
abbrev role_of : ℕ → Role
role_of zero = In
role_of (suc zero) = Out
role_of (suc (suc n)) = First

role_told : (role : Role) → role_of (role_number role) ≡ role
role_told role = grind arith

one_role : (a b : Role) → role_number a ≡ role_number b → a ≡ b
one_role a b e = sym (role_told a) ∙ ap role_of e ∙ role_told b

either_role : (role : Role) → (role ≡ In) ⊎ ((role ≡ Out) ⊎ (role ≡ First))
either_role role = grind arith

-- both ends of a vulnerable edge committed
pub ends_committed : (h : List Event) (t u : ℕ) → IsVulnerable h t u → IsCommitted h t × IsCommitted h u
ends_committed h t u v = let (source, target) = v.0 in ((target.1, target.3), (source.1, source.3))

module _ (h : List Event) (i : ℕ) where
  -- who has a role has a number
  numbered : (role : Role) (j : ℕ) → HasRole h i role j → (u : ℕ) × IsCommittedAt h j u
  numbered In j (s, t, at, here, v) = (s, at)
  numbered role j w = (w.1, w.3)

  module _ (t : ℕ) (here : IsCommittedAt h i t) where
    -- what a transaction is to t
    abbrev Plays : Role → ℕ → Type 0
    Plays In u = IsVulnerable h u t
    Plays Out u = IsVulnerable h t u
    Plays First u = IsFirst h t u

    has_plays : (role : Role) (j u : ℕ) → IsCommittedAt h j u → HasRole h i role j → Plays role u
    has_plays In j u at (s, w, from, same, v) = subst (λ x. IsVulnerable h x t) (one_committed h j s u from at) (subst (λ x. IsVulnerable h s x) (one_committed h i w t same here) v)
    has_plays Out j u at (w, s, same, to, v) = subst (λ x. IsVulnerable h t x) (one_committed h j s u to at) (subst (λ x. IsVulnerable h x s) (one_committed h i w t same here) v)
    has_plays First j u at (w, s, same, to, f) = subst (λ x. IsFirst h t x) (one_committed h j s u to at) (subst (λ x. IsFirst h x s) (one_committed h i w t same here) f)

    plays_has : (role : Role) (j u : ℕ) → IsCommittedAt h j u → Plays role u → HasRole h i role j
    plays_has In j u at v = (u, t, at, here, v)
    plays_has Out j u at v = (t, u, here, at, v)
    plays_has First j u at f = (t, u, here, at, f)

    plays_committed : (role : Role) (u : ℕ) → Plays role u → IsCommitted h u
    plays_committed In u v = (ends_committed h u t v).0
    plays_committed Out u v = (ends_committed h t u v).1
    plays_committed First u f = (ends_committed h t u f.0).1

  module _ (rows : List Neighbour) (are : AreNeighbours h i rows) where
    abbrev Is : Neighbour → Type 0
    Is n = IsPivotAt h i × HasRole h i n.role n.txn

    abbrev IsIn : Role → Neighbour → Type 0
    IsIn role n = Is n × (n.role ≡ role)

    abbrev has : Role → Neighbour → Bool
    has role n = role_number n.role == role_number role

    abbrev pub of : Role → List Neighbour
    of role = filter (has role) rows

    listed : (role : Role) → ListsBy neighbour_rank (IsIn role) (of role)
    listed role = passing neighbour_rank Is (IsIn role) (has role)
        (λ n is test. (is, one_role n.role role (eqb-true (role_number n.role) (role_number role) test)))
        (λ n is. (is.0, eq-eqb (role_number n.role) (role_number role) (ap role_number is.1)))
        rows are

    in_turn : (a b : Role) → role_number a < role_number b → (x y : Neighbour) → IsIn a x → IsIn b y → Precedes (neighbour_rank x) (neighbour_rank y)
    in_turn a b less x y p q = let e = ap role_number p.1 in let f = ap role_number q.1 in inl (omega arith)

    abbrev IsLater : Neighbour → Type 0
    IsLater n = IsIn Out n ⊎ IsIn First n

    by_roles : rows ≡ of In ++ (of Out ++ of First)
    by_roles = one_list_by neighbour_rank Is rows (of In ++ (of Out ++ of First)) are
        (lists_both neighbour_rank (IsIn In) IsLater Is
        (λ n. (
          (λ is. elim (either_role n.role) [ inl e ↦ inl (is, e) | inr (inl e) ↦ inr (inl (is, e)) | inr (inr e) ↦ inr (inr (is, e)) ]),
          (λ p. elim p [ inl q ↦ q.0 | inr (inl q) ↦ q.0 | inr (inr q) ↦ q.0 ]),
        ))
        (λ x y p q. elim q [ inl r ↦ in_turn In Out (omega arith) x y p r | inr r ↦ in_turn In First (omega arith) x y p r ])
        (of In) (of Out ++ of First) (listed In)
        (lists_both neighbour_rank (IsIn Out) (IsIn First) IsLater (λ n. ((λ p. p), (λ p. p))) (in_turn Out First (omega arith)) (of Out) (of First) (listed Out) (listed First)))

    have_role : (role : Role) → HaveRole role (of role)
    have_role role n c = (((listed role).each n).0 c).1

    module _ (txns : List ℕ) (txns_are : ListsAscending (IsCommitted h) txns) where
      abbrev name : Neighbour → ℕ
      name n = slice_index txns n.txn

      at_name : (role : Role) (n : Neighbour) → Contains (of role) n → (n.txn < length txns) × IsCommittedAt h n.txn (name n)
      at_name role n c =
          let end = numbered n.role n.txn (((listed role).each n).0 c).0.1 in
          let (below, is) = committed_number h txns txns_are n.txn end.0 end.1 in
          (below, (txns, txns_are, below, refl))

      module _ (t : ℕ) (here : IsCommittedAt h i t) (pivot : IsPivotAt h i) where
        -- their names, which ascend
        names_listed : (role : Role) → ListsAscending (Plays t here role) (map name (of role))
        names_listed role = record {
          ascending = pairs_map name (λ (x y : ℕ). Precedes (x ∷ []) (y ∷ [])) (of role) (λ a b d less below.
              let x = get_or (of role) a d in
              let y = get_or (of role) b d in
              let p = ((listed role).each x).0 (Contains-get_or (of role) a d (omega arith)) in
              let c = Contains-get_or (of role) b d below in
              let q = ((listed role).each y).0 c in
              let same = ap role_number p.1 ∙ sym (ap role_number q.1) in
              elim ((listed role).ascending a b d less below) [
                | inl fewer ↦ absurd (omega arith)
                | inr (e, inl under) ↦ inl (ascends (λ (x : ℕ). x) (IsCommitted h) txns txns_are x.txn y.txn 0 under (at_name role y c).0)
                | inr (e, inr none) ↦ absurd none.1
              ]);
          each = λ u. (
            (λ c.
                let w = map_contains name (of role) u c in
                let is = ((listed role).each w.0).0 w.1 in
                subst (Plays t here role) w.2 (has_plays t here role w.0.txn (name w.0) (at_name role w.0 w.1).1 (subst (λ r. HasRole h i r w.0.txn) is.1 is.0.1))),
            (λ plays.
                let at = (txns_are.each u).1 (plays_committed t here role u plays) in
                let is = get_or_default txns at.0 0 u at.1 ∙ at.2 in
                let n : Neighbour = record { role = role; txn = at.0 } in
                subst (Contains (map name (of role))) is
                (contains_map name (of role) n (((listed role).each n).1 ((pivot, plays_has t here role at.0 u (txns, txns_are, at.1, is) plays), refl)))),
          );
        }

        some_in : (role : Role) (u : ℕ) → Plays t here role u → of role ≢ []
        some_in role u plays none = contains_none u (subst (λ xs. Contains (map name xs) u) none (((names_listed role).each u).1 plays))

-- no rows
none_at : (h : List Event) (i : ℕ) (rows : List Neighbour) → AreNeighbours h i rows → ¬ IsPivotAt h i → rows ≡ []
none_at h i [] are lacks = refl
none_at h i (n ∷ rows) are lacks = absurd (lacks ((are.each n).0 (contains_first n rows)).0)

-- the text of all rows
pub text_of_rows : (h : List Event) (s : Spelled) → AreSpelled h s → (txns : List ℕ) → ListsAscending (IsCommitted h) txns → (i : ℕ) (rows : List Neighbour) → AreNeighbours h i rows
    → (bytes : List ℕ) → IsLineOf h i bytes → rest_of (slice_index txns i) s.txns.items None rows ≡ bytes
text_of_rows h s spelled txns are i rows found bytes (inr (lacks, is)) = ap (rest_of (slice_index txns i) s.txns.items None) (none_at h i rows found lacks) ∙ sym is
text_of_rows h s spelled txns are i rows found bytes (inl (p, here, pivot, lists, is)) =
    let (names, names_are, same) = spelled.txns in
    let words = s.txns.items in
    let spelled_same = same ∙ ap (map txn_word) (one_list_by _ _ names txns names_are are) in
    let at : IsPivotAt h i = (p.txn, here, pivot) in
    let pick : Role → List Neighbour = of h i rows found in
    let ins = one_list_by _ _ (map (λ n. slice_index txns n.txn) (pick In)) p.ins (names_listed h i rows found txns are p.txn here at In) lists.ins in
    let outs = one_list_by _ _ (map (λ n. slice_index txns n.txn) (pick Out)) p.outs (names_listed h i rows found txns are p.txn here at Out) lists.outs in
    let firsts = one_list_by _ _ (map (λ n. slice_index txns n.txn) (pick First)) p.firsts (names_listed h i rows found txns are p.txn here at First) lists.firsts in
    let below = λ (role : Role) (n : Neighbour) (c : Contains (pick role) n). (at_name h i rows found txns are role n c).0 in
    let ins_are = named words txns spelled_same (pick In) (below In) ∙ ap (flat_map txn_word) ins in
    let outs_are = named words txns spelled_same (pick Out) (below Out) ∙ ap (flat_map txn_word) outs in
    let firsts_are = last_named words txns spelled_same (pick First) p.firsts (below First) firsts in
    (λ j. rest_of ((committed_number h txns are i p.txn here).1 j) words None (by_roles h i rows found j))
    ∙ three_runs p.txn words (pick In) (pick Out) (pick First) (have_role h i rows found In) (have_role h i rows found Out) (have_role h i rows found First)
    (some_in h i rows found txns are p.txn here at In pivot.0.0 pivot.0.1) (some_in h i rows found txns are p.txn here at Out pivot.1.0 pivot.1.1)
    ∙ (λ j. role_words p.txn In ++ ins_are j ++ (codes " out" ++ outs_are j ++ firsts_are j))
    ∙ sym (pivot_line_is p) ∙ sym is

abbrev txns_of : List Pivot → List ℕ
txns_of pivots = map (λ p. p.txn) pivots

module _ (h : List Event) (txns : List ℕ) (are : ListsAscending (IsCommitted h) txns) where
  -- a pivot with this number or a later one
  abbrev IsFrom : ℕ → ℕ → Type 0
  IsFrom i t = IsPivot h t × (j : ℕ) × (i ≤ j) × IsCommittedAt h j t

  -- later numbers have greater names
  after : (i : ℕ) (t : ℕ) (is : IsFrom i t) → i < is.1 → slice_index txns i < t
  after i t is less =
      let (below, name) = committed_number h txns are is.1 t is.3 in
      let up : slice_index txns i < slice_index txns is.1 = ascends (λ (x : ℕ). x) (IsCommitted h) txns are i is.1 0 less below in
      omega arith

  -- who isn't number i is later
  not_first : (i t : ℕ) → IsFrom i t → slice_index txns i ≢ t → IsFrom (i + 1) t
  not_first i t is other = elim (cases_lt i is.1) [
    | inl less ↦ (is.0, is.1, omega arith, is.3)
    | inr most ↦
        let low = is.2 in
        let same : is.1 ≡ i = omega arith in
        absurd (other (ap (slice_index txns) (sym same) ∙ (committed_number h txns are is.1 t is.3).1))
  ]

  -- no list of later ones has it
  no_pivot : (i : ℕ) (ts : List ℕ) → ListsAscending (IsFrom i) ts → (i < length txns) → ¬ Contains ts (slice_index txns i) → ¬ IsPivotAt h i
  no_pivot i ts all below none (t, at, pivot) =
      none (subst (Contains ts) (sym (committed_number h txns are i t at).1) ((all.each t).1 (pivot, i, omega arith, at)))

  -- a list without number i is of later ones
  later_ones : (i : ℕ) (ts : List ℕ) → ListsAscending (IsFrom i) ts → ¬ Contains ts (slice_index txns i) → ListsAscending (IsFrom (i + 1)) ts
  later_ones i ts all none = record {
    ascending = all.ascending;
    each = λ t. (
      (λ c. not_first i t ((all.each t).0 c) (λ same. none (subst (Contains ts) (sym same) c))),
      (λ is. (all.each t).1 (is.0, is.1, (let low = is.2 in omega arith), is.3)),
    );
  }

  -- and so is one behind it
  behind_first : (i t : ℕ) (ts : List ℕ) → ListsAscending (IsFrom i) (t ∷ ts) → slice_index txns i ≡ t → ListsAscending (IsFrom (i + 1)) ts
  behind_first i t ts all same = record {
    ascending = later_pairs (λ x y. Precedes (x ∷ []) (y ∷ [])) t ts all.ascending;
    each = λ u. (
      (λ c. not_first i u ((all.each u).0 (contains_later t u ts c)) (λ e. elim (first_before (λ x y. Precedes (x ∷ []) (y ∷ [])) t u ts all.ascending c) [
        | inl less ↦ absurd (omega arith)
        | inr both ↦ absurd both.1
      ])),
      (λ is.
          let more = after i u (is.0, is.1, (let low = is.2 in omega arith), is.3) (let low = is.2 in omega arith) in
          elim (first_or_later t u ts ((all.each u).1 (is.0, is.1, (let low = is.2 in omega arith), is.3))) [
            | inl first ↦ absurd (omega arith)
            | inr later ↦ later
          ]),
    );
  }

  -- number i isn't in a list whose first is another
  lacks : (i t : ℕ) (ts : List ℕ) → ListsAscending (IsFrom i) (t ∷ ts) → slice_index txns i ≢ t → ¬ Contains (t ∷ ts) (slice_index txns i)
  lacks i t ts all other c = elim (first_or_later t (slice_index txns i) ts c) [
    | inl first ↦ other (sym first)
    | inr later ↦
        let is = not_first i t ((all.each t).0 (contains_first t ts)) other in
        let more = after i t (is.0, is.1, (let low = is.2 in omega arith), is.3) (let low = is.2 in omega arith) in
        elim (first_before (λ x y. Precedes (x ∷ []) (y ∷ [])) t (slice_index txns i) ts all.ascending later) [
          | inl less ↦ absurd (omega arith)
          | inr both ↦ absurd both.1
        ]
  ]

  lines_from : (n i : ℕ) (pivots : List Pivot) → i + n ≡ length txns → ListsAscending (IsFrom i) (txns_of pivots) → All (ListsNeighbours h) pivots
      → IsTextOf (IsLineOf h) i (i + n) (flat_map pivot_line pivots)
  lines_from zero i [] long all each = ([], tt, omega arith, refl)
  lines_from zero i (p ∷ pivots) long all each =
      let is = (all.each p.txn).0 (contains_first p.txn (txns_of pivots)) in
      let (below, name) = committed_number h txns are is.1 p.txn is.3 in
      let low = is.2 in
      absurd (omega arith)
  lines_from (suc n) i [] long all each =
      let none = contains_none (slice_index txns i) in
      let (texts, tell, as_long, same) = lines_from n (i + 1) [] (omega arith) (later_ones i [] all none) each in
      ([] ∷ texts, (inr (no_pivot i [] all (omega arith) none, refl), tell), omega arith, same)
  lines_from (suc n) i (p ∷ pivots) long all each = elim (cases_eq (slice_index txns i) p.txn) [
    | inl here ↦
        let rest = behind_first i p.txn (txns_of pivots) all here in
        let (texts, tell, as_long, same) = lines_from n (i + 1) pivots (omega arith) rest (λ k d less. each (suc k) d (omega arith)) in
        let is = (all.each p.txn).0 (contains_first p.txn (txns_of pivots)) in
        let at : IsCommittedAt h i p.txn = (txns, are, (omega arith), here) in
        (pivot_line p ∷ texts, (inl (p, at, is.0, each 0 p (omega arith), refl), tell), omega arith, ap (λ (l : List ℕ). pivot_line p ++ l) same)
    | inr other ↦
        let none = lacks i p.txn (txns_of pivots) all other in
        let (texts, tell, as_long, same) = lines_from n (i + 1) (p ∷ pivots) (omega arith) (later_ones i (txns_of (p ∷ pivots)) all none) each in
        ([] ∷ texts, (inr (no_pivot i (txns_of (p ∷ pivots)) all (omega arith) none, refl), tell), omega arith, same)
  ]

  -- all pivots are those of all numbers
  pub pivots_in_turn : (pivots : List Pivot) → ArePivots h pivots → IsTextOf (IsLineOf h) 0 (length txns) (flat_map pivot_line pivots)
  pivots_in_turn pivots all = subst (λ n. IsTextOf (IsLineOf h) 0 n (flat_map pivot_line pivots)) (omega arith) (lines_from (length txns) 0 pivots (omega arith) (record {
    ascending = all.txns.ascending;
    each = λ t. (
      (λ c.
          let pivot = (all.txns.each t).0 c in
          let at = (are.each t).1 (ends_committed h t pivot.1.0 pivot.1.1).0 in
          (pivot, at.0, omega arith, (txns, are, at.1, get_or_default txns at.0 0 t at.1 ∙ at.2))),
      (λ is. (all.txns.each t).1 is.0),
    );
  }) all.neighbours)
