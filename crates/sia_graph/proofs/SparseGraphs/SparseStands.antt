-- The sparse graph reaches what the edges of a history reach.
use Rattle.std.proofs.Common.{◌≡◌, ◌≢◌, ◌⊎◌, inl, inr, ℕ, zero, suc, ◌+◌, ◌-◌, ◌*◌, ◌^◌, ◌<◌, ◌≤◌, List, [], length, get_or, refl, ap, sym, subst, ◌∙◌, arith}
use Rattle.std.specs.Prelude.{⊤, Contains}
use Rattle.std.proofs.Math.Nat.{mul_assoc, mul_comm, mul-le-mul_left, mul-le-mul_right, pow-succ'}
use Rattle.std.proofs.lemmas.Bool.{cases_lt}
use Rattle.std.proofs.lemmas.List.{get_or_past}
use Rattle.sia_events.specs.declared.event.Event.{Event}
use Rattle.sia_events.specs.Closures.{HaveSameClosure}
use Rattle.sia_events.specs.Closures.LeadsInSteps.{step}
use Rattle.sia_events.specs.Dependencies.{HasEdge}
use Rattle.sia_events.specs.Lists.{ListsAscending}
use Rattle.sia_events.specs.NarrowDependencies.{CommitsVersion, HasNarrowEdge, IsNextVersion, NarrowRwEdge, NarrowWrEdge, NarrowWwEdge}
use Rattle.sia_events.specs.Refusals.{IsWellFormed}
use Rattle.sia_events.specs.Transactions.{IsCommitted, CommitsAt}
use Rattle.sia_events.proofs.OfLaws.Closures.{leads_through}
use Rattle.sia_events.proofs.OfLaws.Endings.{one_committer}
use Rattle.sia_events.proofs.OfLaws.Looks.{commits_above, looked_saw}
use Rattle.sia_events.proofs.OfLaws.NarrowEdges.{narrow_closure}
use Rattle.sia_events.proofs.Writing.WellFormed.{one_commit}
use Rattle.sia_index.specs.declared.info.KeyVersion.{KeyVersion}
use Rattle.sia_index.specs.Info.{IsKeyAt}
use Rattle.sia_index.specs.Numbers.{IsCommittedAt}
use Rattle.sia_index.specs.Positions.{AreAllVersions}
use Rattle.sia_index.proofs.Shared.KeyChains.{key_number}
use Rattle.sia_parts.specs.declared.accesses.Accesses.{Accesses}
use Rattle.sia_parts.specs.Accesses.{AreAccesses, Missed}
use Rattle.sia_parts.specs.Entries.{IsEdge}
use Rattle.sia_parts.proofs.CutKeys.StartLemmas.{increasing}
use Rattle.sia_graph.specs.declared.order.Graph.{Graph}
use Rattle.sia_graph.specs.Blocks.{IsWayThrough, LeadsThrough}
use Rattle.sia_graph.specs.Graphs.{IsGraphEdge, LeadsTo}
use Rattle.sia_graph.specs.KeyBlocks.{IsOver}
use Rattle.sia_graph.specs.Makers.{IsFirstMaker}
use Rattle.sia_graph.specs.NarrowSteps.{name_of, node_of}
use Rattle.sia_graph.specs.Orders.{Leads}
use Rattle.sia_graph.specs.Passed.{IsPassed, IsSizeFor}
use Rattle.sia_graph.specs.SparseGraphs.{HasNodes, IsBlockStep, IsFollowed, IsSparse, IsWaitedFor}
use Rattle.sia_graph.specs.StandIns.{LeadsByName}
use Rattle.sia_graph.specs.Taken.{node_list}
use Rattle.sia_graph.proofs.Shared.AscendingIds.{ids_less}
use Rattle.sia_graph.proofs.SparseGraphs.KeyBlocks.{doubled}
use Rattle.sia_graph.proofs.Shared.Numbered.{commits_at, is_committed_at, number_of, one_next, txn_number}
use Rattle.sia_graph.proofs.Shared.PositionEdges.{rw_from_look, wr_from_look}
use Rattle.sia_parts.proofs.Shared.OneNumber.{one_committed_number as one_number, one_key as one_key_at, one_committed as one_txn_at}
use Rattle.sia_parts.proofs.EdgeRows.PositionOrder.{one_version as one_at, position_of}
use Rattle.sia_graph.proofs.Orders.TakenFronts.{edge_leads, in_range, leads_edge, range_in}
use Rattle.sia_graph.proofs.OnEvidence.Judging.{has_by, leads_by}

-- a block that is over what one of its halves is over
over_half : (size b c j : ℕ) → 2 * b ≤ c → c ≤ 2 * b + 1 → IsOver size c j → IsOver size b j
over_half size b c j low high over =
    let e = over.0 in
    let p = mul-le-mul_right (2 ^ e) low in
    let q : (c + 1) * 2 ^ e ≤ (2 * (b + 1)) * 2 ^ e = mul-le-mul_right (2 ^ e) (omega arith) in
    let l : b * 2 ^ (e + 1) ≡ (2 * b) * 2 ^ e = ap (λ y. b * y) (doubled e) ∙ sym (mul_assoc b 2 (2 ^ e)) ∙ ap (λ y. y * 2 ^ e) (mul_comm b 2) in
    let h : (b + 1) * 2 ^ (e + 1) ≡ (2 * (b + 1)) * 2 ^ e = ap (λ y. (b + 1) * y) (doubled e) ∙ sym (mul_assoc (b + 1) 2 (2 ^ e)) ∙ ap (λ y. y * 2 ^ e) (mul_comm (b + 1) 2) in
    (e + 1, (let f = over.1 in omega arith), (let f = over.2 in omega arith))

-- a leaf is over its key
over_leaf : (size b j : ℕ) → b ≡ size + j → IsOver size b j
over_leaf size b j at = (0, (let z : b * 2 ^ 0 ≡ b = omega arith in omega arith), (let z : (b + 1) * 2 ^ 0 ≡ b + 1 = omega arith in omega arith))

-- each list is one of the first nodes
listed : (lists : List (List ℕ)) (n x y : ℕ) → length lists ≡ n → Contains (get_or lists x []) y → x < n
listed lists n x y long c = grind (arith, cases_lt, get_or_past)

module _ (h : List Event) (wf : IsWellFormed h) (a : Accesses) (are : AreAccesses h (λ _. ⊤) a) (txns : List ℕ) (txns_are : ListsAscending (IsCommitted h) txns) (versions : List KeyVersion) (versions_are : AreAllVersions h versions) where
  -- who follows has an edge from the one that it follows
  followed_edge : (i m : ℕ) → IsFollowed h a i m → (t : ℕ) × (u : ℕ) × IsCommittedAt h i t × IsCommittedAt h m u × HasEdge h t u
  followed_edge i m f =
      let w = are.saw i f.1 f.2 in
      let look = w.3 in
      let v = look.version in
      let next = f.3 in
      let behind : IsNextVersion h w.1 w.2 next.2 =
      subst (λ k. IsNextVersion h k w.2 next.2) v.2
      (subst (λ c. IsNextVersion h v.0.key c next.2) v.3 (subst (λ (x : KeyVersion). IsNextVersion h x.key x.commit next.2) (one_at h f.1 next.0 v.0 next.1 v.1) next.3)) in
      let other : w.0 ≢ next.2 = λ e. f.0 (one_number h m i next.2 next.4 (subst (IsCommittedAt h i) e look.txn)) in
      (w.0, next.2, look.txn, next.4, (w.1, inr (inr (rw_from_look h wf w.1 w.0 next.2 w.2 behind.0 other behind.1 w.4 behind.2))))

  -- who waits for another has an edge from it
  waited_edge : (i m : ℕ) → IsWaitedFor h a i m → (t : ℕ) × (u : ℕ) × IsCommittedAt h m t × IsCommittedAt h i u × HasEdge h t u
  waited_edge i m (other, q, inl (saw, maker)) =
      let w = are.saw i q saw in
      let look = w.3 in
      let v = look.version in
      let same = one_at h q maker.0 v.0 maker.1 v.1 in
      let made : CommitsVersion h w.1 maker.0.txn w.2 =
      subst (λ k. CommitsVersion h k maker.0.txn w.2) (ap (λ (x : KeyVersion). x.key) same ∙ v.2)
      (subst (λ c. CommitsVersion h maker.0.key maker.0.txn c) (ap (λ (x : KeyVersion). x.commit) same ∙ v.3) (commits_at h q maker.0 maker.1 maker.2)) in
      (maker.0.txn, w.0, maker.3, look.txn, (w.1, inr (inl (wr_from_look h wf w.1 maker.0.txn w.0 w.2 w.2 (looked_saw h w.0 w.1 w.2 maker.0.txn w.4 made.1).2 made w.4 (omega arith)))))
  waited_edge i m (other, q, inr (maker, before)) =
      let same = one_at h q maker.0 before.0 maker.1 before.1 in
      let next = before.5 in
      (before.2, before.0.txn, before.7, subst (λ (x : KeyVersion). IsCommittedAt h i x.txn) same maker.3, (before.0.key, inl (before.4.0, next.1.0, (before.3, next.0, before.4.1, next.1.1, next.2))))

  module _ (size : ℕ) (sized : IsSizeFor size h a) (g : Graph) (has : HasNodes h a size (2 * size + length txns) g) where
    abbrev floor : ℕ
    floor = 2 * size

    abbrev Step : ℕ → ℕ → Type 0
    Step = Leads (IsGraphEdge g)

    abbrev name : ℕ → ℕ
    name = name_of size txns

    named : (i t : ℕ) → IsCommittedAt h i t → name (node_of size i) ≡ t
    named i t at = let e : node_of size i - 2 * size ≡ i = omega arith in ap (λ n. get_or txns n 0) e ∙ (txn_number h txns txns_are i t at).1

    below_all : (i t : ℕ) → IsCommittedAt h i t → node_of size i < floor + length txns
    below_all i t at = let l = (txn_number h txns txns_are i t at).0 in omega arith

    txn_at : (i : ℕ) → i < length txns → IsCommittedAt h i (get_or txns i 0)
    txn_at i l = (txns, txns_are, l, refl)

    -- a step between transactions, by an edge
    abbrev IsMembers : ℕ → ℕ → Type 0
    IsMembers x y = (i : ℕ) × (j : ℕ) × (t : ℕ) × (u : ℕ) × IsCommittedAt h i t × IsCommittedAt h j u × HasEdge h t u × (i ≢ j) × (x ≡ node_of size i) × (y ≡ node_of size j)

    -- a step to a block that is over passed keys alone
    abbrev IsPassing : ℕ → ℕ → Type 0
    IsPassing x b = (i : ℕ) × (t : ℕ) × IsCommittedAt h i t × (x ≡ node_of size i) × (b < floor) × (0 < b) × ((j : ℕ) → j < size → IsOver size b j → IsPassed h a i j)

    -- what the steps are, by their ends
    abbrev Ends : ℕ → ℕ → Type 0
    Ends x y = IsMembers x y ⊎ (((x < floor) × IsBlockStep h size x y) ⊎ IsPassing x y)

    ends_of : (x y : ℕ) → LeadsTo g x y → Ends x y
    ends_of x y (inl c) =
        let below = listed g.targets (floor + length txns) x y has.targets_long c in
        let targets = has.targets x below in
        elim (cases_lt x floor) [
          | inl block ↦ inr (inl (block, (targets.block block y).0 c))
          | inr above ↦
              let i = x - floor in
              let at : x ≡ node_of size i = omega arith in
              let number = txn_at i (omega arith) in
              let m = targets.member i at in
              elim (cases_lt y floor) [
                | inr member ↦
                    let w = (m.members y member).0 c in
                    let e = followed_edge i w.0 w.2 in
                    inl (i, w.0, e.0, e.1, e.2, e.3, e.4, (λ same. w.2.0 (sym same)), at, w.1)
                | inl block ↦ inr (inr (i, get_or txns i 0, number, at, block, m.some y block c, (λ j l o. (m.over j l).0 (y, c, o))))
              ]
        ]
    ends_of x y (inr c) =
        let below = listed g.sources (floor + length txns) y x has.sources_long c in
        let w = (has.sources y below x).0 c in
        let e = waited_edge w.0 w.1 w.4 in
        inl (w.1, w.0, e.0, e.1, e.2, e.3, e.4, w.4.0, w.3, w.2)

    ends : (x y : ℕ) → Step x y → Ends x y
    ends x y s = ends_of x y (edge_leads g x y s)

    -- block b is over some key of which u's transaction made the first version
    abbrev IsAbove : ℕ → ℕ → Type 0
    IsAbove b u = (j : ℕ) × (j < size) × IsOver size b j × (i : ℕ) × IsFirstMaker h j i × (u ≡ node_of size i)

    -- from a block one comes down to the transactions that made the first versions of the keys below
    down : (n b u : ℕ) → b < floor → floor ≤ u → IsWayThrough floor Step n b u → IsAbove b u
    down zero b u block member last = elim (ends b u last) [
      | inl m ↦ let e = m.8 in absurd (omega arith)
      | inr o ↦ grind (arith, ends, over_leaf, over_half)
    ]
    down (suc n) b u block member way = elim (ends b way.0 way.1) [
      | inl m ↦ let e = m.8 in absurd (omega arith)
      | inr o ↦ elim o [
        | inl s ↦ elim s.1 [
          | inl half ↦
              let under = down n way.0 u way.2 member way.3 in
              let low : 2 * b ≤ way.0 = elim half.2 [ inl e ↦ omega arith | inr e ↦ omega arith ] in
              (under.0, under.1, over_half size b way.0 under.0 low (elim half.2 [ inl e ↦ omega arith | inr e ↦ omega arith ]) under.2, under.3, under.4, under.5)
          | inr leaf ↦ let e = leaf.5 in let l = way.2 in absurd (omega arith)
        ]
        | inr p ↦ let e = p.3 in absurd (omega arith)
      ]
    ]

    -- so who passed over the key has an edge to them
    passed_edge : (x b u : ℕ) → IsPassing x b → IsAbove b u → HasEdge h (name x) (name u)
    passed_edge x b u p above =
        let j = above.0 in
        let passed = p.6 j above.1 above.2 in
        let w = are.missed p.0 j passed.0 in
        let first = above.4 in
        let next : IsNextVersion h w.1 0 first.1 = subst (λ k. IsNextVersion h k 0 first.1) (one_key_at h j first.0 w.1 first.2 w.3) first.3 in
        let other : w.0 ≢ first.1 = λ same. passed.1 (subst (IsFirstMaker h j) (one_number h above.3 p.0 first.1 first.4 (subst (IsCommittedAt h p.0) same w.2)) first) in
        subst (λ x. HasEdge h x (name u)) (sym (named p.0 w.0 w.2) ∙ sym (ap name p.3))
        (subst (λ x. HasEdge h w.0 x) (sym (named above.3 first.1 first.4) ∙ sym (ap name above.5)) (w.1, inr (inr (rw_from_look h wf w.1 w.0 first.1 0 next.0 other next.1 w.4 next.2))))

    members_edge : (x y : ℕ) → IsMembers x y → HasEdge h (name x) (name y)
    members_edge x y m =
        subst (λ v. HasEdge h v (name y)) (sym (named m.0 m.2 m.4) ∙ sym (ap name m.8)) (subst (λ v. HasEdge h m.2 v) (sym (named m.1 m.3 m.5) ∙ sym (ap name m.9)) m.6)

    through_edge : (x u : ℕ) → LeadsThrough floor Step x u → HasEdge h (name x) (name u)
    through_edge x u through = by_length through.2 through.3
      where
        by_length : (n : ℕ) → IsWayThrough floor Step n x u → HasEdge h (name x) (name u)
        by_length zero last = elim (ends x u last) [
          | inl m ↦ members_edge x u m
          | inr o ↦ grind (arith, ends, members_edge, passed_edge, down)
        ]
        by_length (suc n) way = elim (ends x way.0 way.1) [
          | inl m ↦ let e = m.9 in let k = way.2 in absurd (omega arith)
          | inr o ↦ elim o [
            | inl s ↦ let l = s.0 in let k = through.0 in absurd (omega arith)
            | inr p ↦ passed_edge x way.0 u p (down n way.0 u way.2 through.1 way.3)
          ]
        ]

    -- and each narrow edge is such a way
    abbrev By : ℕ → ℕ → Type 0
    By t u = LeadsByName name (LeadsThrough floor Step) t u

    by_step : (i j t u : ℕ) → IsCommittedAt h i t → IsCommittedAt h j u → LeadsTo g (node_of size i) (node_of size j) → By t u
    by_step i j t u x y l = (node_of size i, node_of size j, named i t x, named j u y, (omega arith, omega arith, 0, leads_edge g (node_of size i) (node_of size j) l))

    by_waiting : (i m t u : ℕ) → IsCommittedAt h m t → IsCommittedAt h i u → IsWaitedFor h a i m → By t u
    by_waiting i m t u x y w = by_step m i t u x y (inr ((has.sources (node_of size i) (below_all i u y) (node_of size m)).1 (i, m, refl, refl, w)))

    apart : (i j t u : ℕ) → IsCommittedAt h i t → IsCommittedAt h j u → t ≢ u → i ≢ j
    apart i j t u x y other same = other (one_txn_at h j t u (subst (λ n. IsCommittedAt h n t) same x) y)

    narrow_ww : (k t u : ℕ) → NarrowWwEdge h t u k → By t u
    narrow_ww k t u n =
        let c = n.0 in
        let next = n.2 in
        let v : KeyVersion = record { key = k; commit = next.0; txn = u } in
        let q = position_of h versions versions_are v (inr next.1) in
        let i = number_of h txns txns_are t (c, n.1.1) in
        let j = number_of h txns txns_are u (next.0, next.1.1) in
        let other : t ≢ u = λ same. let e = one_commit h wf u c next.0 (subst (λ x. CommitsAt h x c) same n.1.1) next.1.1 in let no : ⊥ = omega arith in no in
        by_waiting j.0 i.0 t u i.1 j.1 (apart i.0 j.0 t u i.1 j.1 other, q.0, inr ((v, q.1, commits_above h u next.0 next.1.1, j.1), (v, q.1, t, c, n.1, next, next.2, i.1)))

    narrow_wr : (k t u : ℕ) → NarrowWrEdge h t u k → By t u
    narrow_wr k t u n =
        let c = n.0 in
        let some = commits_above h t c n.1.1 in
        elim (are.each u k c t n.2 n.1.0 tt) [
          | inl r ↦
              let look = r.2 in
              let v = look.version in
              let m = number_of h txns txns_are t (c, n.1.1) in
              let made = commits_at h r.1 v.0 v.1 (omega arith) in
              let same : t ≡ v.0.txn = one_committer h t v.0.txn v.0.commit (subst (CommitsAt h t) (sym v.3) n.1.1) made.1 in
              let other = apart m.0 r.0 t u m.1 look.txn (looked_saw h u k c t n.2 n.1.1).2 in
              by_waiting r.0 m.0 t u m.1 look.txn (other, r.1, inl (look.saw, (v.0, v.1, omega arith, subst (IsCommittedAt h m.0) same m.1)))
          | inr none ↦ let z = none.0 in absurd (omega arith)
        ]

    is_below : (j k i : ℕ) → IsKeyAt h j k → Missed a i j → j < size
    is_below j k i key missed = elim sized [
      | inl all ↦ let l = (key_number h all.0 all.1 j k key).0 in let e = all.2 in omega arith
      | inr none ↦ absurd (none.1 i j missed)
    ]

    half_leads : (b c : ℕ) → 0 < b → b < size → (c ≡ 2 * b) ⊎ (c ≡ 2 * b + 1) → Step b c
    half_leads b c some below which = leads_edge g b c (inl (((has.targets b (omega arith)).block (omega arith) c).1 (inl (some, below, which))))

    -- a way down from a block to who made the first version of a key below it
    way_down : (e b j u : ℕ) → 0 < b → j < size → b * 2 ^ e ≤ size + j → size + j < (b + 1) * 2 ^ e → Step (size + j) u → (n : ℕ) × IsWayThrough floor Step n b u
    way_down zero b j u some below low high leaf =
        let same : size + j ≡ b = let x : b * 2 ^ 0 ≡ b = omega arith in let y : (b + 1) * 2 ^ 0 ≡ b + 1 = omega arith in omega arith in
        (0, subst (λ x. Step x u) same leaf)
    way_down (suc e) b j u some below low high leaf =
        let r : (b + 1) * 2 ^ suc e ≡ (2 * b + 1 + 1) * 2 ^ e =
        ap (λ y. (b + 1) * y) (pow-succ' 2 e) ∙ sym (mul_assoc (b + 1) 2 (2 ^ e)) ∙ ap (λ y. y * 2 ^ e) (mul_comm (b + 1) 2 ∙ (let z : 2 * (b + 1) ≡ 2 * b + 1 + 1 = omega arith in z)) in
        let least : (2 * b) * 1 ≤ (2 * b) * 2 ^ e = mul-le-mul_left (2 * b) (omega arith) in
        elim (cases_lt (size + j) ((2 * b + 1) * 2 ^ e)) [
          | inl left ↦
              let rest = way_down e (2 * b) j u (omega arith) below (omega arith) left leaf in
              (suc rest.0, (2 * b, half_leads b (2 * b) some (omega arith) (inl refl), omega arith, rest.1))
          | inr right ↦
              let rest = way_down e (2 * b + 1) j u (omega arith) below right (omega arith) leaf in
              (suc rest.0, (2 * b + 1, half_leads b (2 * b + 1) some (omega arith) (inr refl), omega arith, rest.1))
        ]

    -- who passed over a key leads to who made its first version
    by_passing : (i j t u k : ℕ) → IsCommittedAt h i t → t ≢ u → IsKeyAt h j k → Missed a i j → IsNextVersion h k 0 u → By t u
    by_passing i j t u k at other key missed next =
        let below = is_below j k i key missed in
        let m = number_of h txns txns_are u (next.0, next.1.1) in
        let own : ¬ IsFirstMaker h j i = λ f.
        other (one_txn_at h i t u at (subst (IsCommittedAt h i) (one_next h k 0 f.1 u (subst (λ n. IsNextVersion h n 0 f.1) (one_key_at h j f.0 k f.2 key) f.3) next) f.4)) in
        let x = node_of size i in
        let targets = (has.targets x (below_all i t at)).member i refl in
        let b = (targets.over j below).1 (missed, own) in
        let up : b.0 * 1 ≤ b.0 * 2 ^ b.2.0 = mul-le-mul_left b.0 (omega arith) in
        let block : b.0 < floor = let l = b.2.1 in omega arith in
        let leaf : Step (size + j) (node_of size m.0) =
        leads_edge g (size + j) (node_of size m.0) (inl (((has.targets (size + j) (omega arith)).block (omega arith) (node_of size m.0)).1 (inr (j, m.0, refl, below, (k, u, key, next, m.1), refl)))) in
        let way = way_down b.2.0 b.0 j (node_of size m.0) (targets.some b.0 block b.1) below b.2.1 b.2.2 leaf in
        (x, node_of size m.0, named i t at, named m.0 u m.1, (omega arith, omega arith, suc way.0, (b.0, leads_edge g x b.0 (inl b.1), block, way.1)))

    narrow_rw : (k t u : ℕ) → NarrowRwEdge h t u k → By t u
    narrow_rw k t u n =
        let c = n.1 in
        let next = n.4 in
        elim (are.each t k c u n.2 next.1.0 tt) [
          | inl r ↦
              let look = r.2 in
              let v = look.version in
              let m = number_of h txns txns_are u (next.0, next.1.1) in
              let behind : IsNextVersion h v.0.key v.0.commit u = subst (λ d. IsNextVersion h v.0.key d u) (sym v.3) (subst (λ k. IsNextVersion h k c u) (sym v.2) next) in
              by_step r.0 m.0 t u look.txn m.1
              (inl ((((has.targets (node_of size r.0) (below_all r.0 t look.txn)).member r.0 refl).members (node_of size m.0) (omega arith)).1
              (m.0, refl, (apart m.0 r.0 u t m.1 look.txn (λ e. n.0 (sym e)), r.1, look.saw, (v.0, v.1, u, behind, m.1)))))
          | inr none ↦
              let p = none.2 in
              by_passing none.1 p.key.0 t u k p.txn n.0 p.key.1 p.key.2 (subst (λ d. IsNextVersion h k d u) none.0 next)
        ]

    narrow_by : (t u : ℕ) → HasNarrowEdge h t u → By t u
    narrow_by t u n = elim n.1 [ inl e ↦ narrow_ww n.0 t u e | inr (inl e) ↦ narrow_wr n.0 t u e | inr (inr e) ↦ narrow_rw n.0 t u e ]

    joined : (x y : ℕ) → Ends x y → (x < floor + length txns) × (y < floor + length txns) × (x ≢ y)
    joined x y p = grind (arith, below_all)

    ascending : (x y : ℕ) → Ends x y → x < floor → y < floor → x < y
    ascending x y p q r = grind arith

    reaches : HaveSameClosure (Leads (IsEdge h)) By
    reaches t u =
        let same = narrow_closure h wf narrow_by (λ t u b. subst (λ x. HasEdge h x u) b.2 (subst (λ x. HasEdge h (name b.0) x) b.3 (through_edge b.0 b.1 b.4))) t u in (
          (λ l. same.1 (leads_through (λ x y e. step (has_by h x y e)) l)),
          (λ l. leads_through (λ x y e. step (leads_by h x y e)) (same.0 l)),
        )

    is_node : (x : ℕ) → x < floor + length txns → Contains (node_list size txns) x
    is_node x l = in_range (2 * size + length txns) x l

    node_within : (x : ℕ) → Contains (node_list size txns) x → x < floor + length txns
    node_within x c = range_in (2 * size + length txns) x c

    pub sparse : IsSparse h size txns g
    sparse = record {
      graph = record {
        targets_long = has.targets_long;
        sources_long = has.sources_long;
        within = λ x y l. let w = joined x y (ends_of x y l) in (w.0, w.1);
        apart = λ x y l. (joined x y (ends_of x y l)).2;
      };
      stands = record {
        blocks = record { joins = λ x y s. let w = joined x y (ends x y s) in (is_node x w.0, is_node y w.1); ascends = λ x y s. ascending x y (ends x y s) };
        ascend = λ x y m n less.
            let b = node_within y n.0 in
            let c = m.1 in
            ids_less txns (increasing txns txns_are.ascending) (x - floor) (y - floor) (omega arith) (omega arith);
        named = λ t. (
          (λ c.
              let i = number_of h txns txns_are t c in
              (node_of size i.0, (is_node (node_of size i.0) (below_all i.0 t i.1), omega arith), named i.0 t i.1)),
          (λ w.
              is_committed_at h (w.0 - floor) t (txns, txns_are, omega (arith, node_within w.0 w.1.0), w.2)),
        );
        reach = reaches;
      };
    }
