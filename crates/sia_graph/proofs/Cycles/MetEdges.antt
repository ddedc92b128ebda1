-- The positions of keys follow one another by the numbers of these.
-- The edges from one transaction to another are those of the versions that one made and that the other made, saw or missed; and
-- the least of their keys has the least number.
use Rattle.std.proofs.Common.{◌≡◌, inl, inr, ℕ, ◌+◌, ◌<◌, ◌≤◌, true, false, ltb, List, ◌∷◌, length, get_or, refl, ap, subst, ◌∙◌, arith, ◌≢◌, ◌⊎◌, sym}
use Rattle.std.specs.Prelude.{◌↔◌, Contains, ⊤}
use Rattle.std.specs.List.Sorted.{IsPartitionPoint}
use Rattle.std.proofs.lemmas.Bool.{cases_lt, ltb-true, ltb-false}
use Rattle.std.proofs.lemmas.List.{get_or_default}
use Rattle.std.proofs.lemmas.List.Elements.{Contains-get_or}
use Rattle.sia_events.specs.declared.event.Event.{Event}
use Rattle.sia_events.specs.Lists.{ListsAscending}
use Rattle.sia_index.specs.Info.{AreWrittenKeys, IsKeyAt}
use Rattle.sia_index.specs.Positions.{IsAtPosition, AreAllVersions}
use Rattle.sia_index.specs.declared.info.KeyVersion.{KeyVersion}
use Rattle.sia_parts.proofs.Auditing.Passing.{number_from, key_before, has_number}
use Rattle.sia_parts.proofs.CutKeys.StartLemmas.{increasing}
use Rattle.sia_parts.specs.declared.accesses.RangeMiss.{RangeMiss}
use Rattle.sia_parts.specs.declared.finding.Kind.{Kind}
use Rattle.sia_parts.specs.declared.finding.Kind.TheVariants.{Ww, Wr, Rw}
use Rattle.sia_graph.specs.LeastEdges.{AreMade, IsKeyOf, IsMadeWithin, IsMet, IsMissMet, Meets, IsLeastEdgeBetween}
use Rattle.sia_graph.specs.Twos.{HaveOneKey, IsLeastNumber}
use Rattle.sia_graph.proofs.Shared.AscendingIds.{ids_no_less}
use Rattle.sia_graph.proofs.Shared.LeastNumbers.{least_same}
use Rattle.sia_parts.proofs.Shared.OneNumber.{one_key_number, one_key as one_key_at, one_committed_number as one_number}
use Rattle.sia_parts.proofs.EdgeRows.PositionOrder.{one_version as one_at, by_commit as commits_less}
use Rattle.sia_events.specs.Dependencies.{RwEdge, WrEdge, WwEdge}
use Rattle.sia_events.specs.Refusals.{IsWellFormed}
use Rattle.sia_events.proofs.Writing.WellFormed.{one_commit}
use Rattle.sia_index.specs.Numbers.{IsCommittedAt}
use Rattle.sia_parts.proofs.Shared.FewNumbers.{few_keys}
use Rattle.sia_parts.specs.Accesses.{AreAccesses, HasMiss, Missed, SawPosition}
use Rattle.sia_parts.specs.Entries.{EdgeOfKind, kind_number}
use Rattle.sia_parts.specs.Sights.{FromSome}
use Rattle.sia_parts.specs.declared.accesses.Accesses.{Accesses}
use Rattle.sia_graph.specs.Dangerous.{IsLeast}
use Rattle.sia_graph.proofs.Shared.PositionEdges.{MadeAt, made_commits, rw_positions, wr_positions, ww_positions, keys_rise}

-- from where to before where a version stands that makes an edge of this kind with the one at p
abbrev pub IsSpan : Kind → ℕ → ℕ → ℕ → ℕ → ℕ → Type 0
IsSpan Ww p start end from to = (from ≡ start) × (to ≡ p)
IsSpan Wr p start end from to = (from ≡ start) × (to ≡ p + 1)
IsSpan Rw p start end from to = (from ≡ p + 1) × (to ≡ end)

module _ (h : List Event) where
  pub rises : (p q i j : ℕ) → IsKeyOf h p i → IsKeyOf h q j → p ≤ q → i ≤ j
  rises p q i j a b most = elim (cases_lt p q) [
    | inl less ↦ number_from h b.2.0 b.2.1 i j a.0.key b.0.key a.2 b.2 (keys_rise h p q a.0 b.0 a.1 b.1 less)
    | inr more ↦
        let same : p ≡ q = omega arith in
        let e = one_key_number h i j b.0.key (subst (λ (v : KeyVersion). IsKeyAt h i v.key) (one_at h q a.0 b.0 (subst (λ n. IsAtPosition h n a.0) same a.1) b.1) a.2) b.2 in
        omega arith
  ]

  -- two of one key have one number, and the other way round
  pub one_key : (p q i j : ℕ) → IsKeyOf h p i → IsKeyOf h q j → i ≡ j → HaveOneKey h p q
  one_key p q i j a b same = (a.0, b.0, a.1, b.1, one_key_at h j a.0.key b.0.key (subst (λ n. IsKeyAt h n a.0.key) same a.2) b.2)

  pub its_number : (p q i j : ℕ) → IsKeyOf h p i → IsKeyOf h q j → HaveOneKey h p q → i ≡ j
  its_number p q i j a b one =
      let e = ap (λ (x : KeyVersion). x.key) (one_at h p a.0 one.0 a.1 one.2) in
      one_key_number h i j b.0.key (subst (IsKeyAt h i) (e ∙ one.4 ∙ ap (λ (x : KeyVersion). x.key) (one_at h q one.1 b.0 one.3 b.1)) a.2) b.2

  -- where the positions of the keys from one number on begin
  pub begins_at : (s j q i : ℕ) → ((q : ℕ) (v : KeyVersion) (i : ℕ) → IsAtPosition h q v → IsKeyAt h i v.key → (q < s) ↔ (i < j)) → IsKeyOf h q i → (s ≤ q) ↔ (j ≤ i)
  begins_at s j q i parts of =
      let part = parts q of.0 i of.1 of.2 in (
        (λ most. elim (cases_lt i j) [ inl less ↦ let back = part.1 less in absurd (omega arith) | inr le ↦ le ]),
        (λ most. elim (cases_lt q s) [ inl less ↦ let back = part.0 less in absurd (omega arith) | inr le ↦ le ]),
      )

  -- what a kind asks for is a stretch of positions
  pub met : (kind : Kind) (p j q i start end from to : ℕ) → IsKeyOf h p j → IsKeyOf h q i → (start ≤ q) ↔ (j ≤ i) → (end ≤ q) ↔ (j + 1 ≤ i) → IsSpan kind p start end from to
      → ((from ≤ q) × (q < to)) ↔ (HaveOneKey h q p × Meets kind q p)
  met Ww p j q i start end from to a b low high (x, y) = (
    (λ w. let l = low.0 (let m = w.0 in omega arith) in let r = rises q p i j b a (let m = w.1 in omega arith) in (one_key q p i j b a (omega arith), (let m = w.1 in omega arith))),
    (λ w. let e = its_number q p i j b a w.0 in let l = low.1 (omega arith) in let m = w.1 in (omega arith, omega arith)),
  )
  met Wr p j q i start end from to a b low high (x, y) = (
    (λ w. let l = low.0 (let m = w.0 in omega arith) in let r = rises q p i j b a (let m = w.1 in omega arith) in (one_key q p i j b a (omega arith), (let m = w.1 in omega arith))),
    (λ w. let e = its_number q p i j b a w.0 in let l = low.1 (omega arith) in let m = w.1 in (omega arith, omega arith)),
  )
  met Rw p j q i start end from to a b low high (x, y) = (
    (λ w.
        let r = rises p q j i a b (let m = w.0 in omega arith) in
        let l : i < j + 1 = elim (cases_lt i (j + 1)) [ inl less ↦ less | inr more ↦ let n = high.1 more in let m = w.1 in absurd (omega arith) ] in
        (one_key q p i j b a (omega arith), (let m = w.0 in omega arith))),
    (λ w.
        let e = its_number q p i j b a w.0 in
        let l : q < end = elim (cases_lt q end) [ inl less ↦ less | inr more ↦ let n = high.0 more in absurd (omega arith) ] in
        (omega arith, omega arith)),
  )

  -- the first of those made from one position on
  module _ (made : List ℕ) (are : AreMade h made) (from place : ℕ) (point : IsPartitionPoint (λ y. ltb y from ≡ true) (λ y. ltb y from ≡ false) made place) where
    rise : (i j : ℕ) → i ≤ j → j < length made → get_or made i 0 ≤ get_or made j 0
    rise = ids_no_less made (increasing made are.1.ascending)

    -- what stands from there on stands at the place or behind
    behind : (q : ℕ) → (c : Contains made q) → from ≤ q → place ≤ c.0
    behind q c most = grind (arith, cases_lt, ltb-true)

    pub none_there : (to : ℕ) → length made ≤ place → IsLeastNumber (IsMadeWithin h made from to) 4294967295
    none_there to all = inr (refl, λ j w. let b = behind w.0 w.1 w.2 in let l = w.1.1 in omega arith)

    -- the first from there on is no greater than any
    first_least : (q : ℕ) → Contains made q → from ≤ q → (place < length made) × (get_or made place 0 ≤ q)
    first_least q c most =
        let b = behind q c most in
        let l = c.1 in
        let r = rise place c.0 b l in
        let e = get_or_default made c.0 0 q c.1 ∙ c.2 in
        (omega arith, omega arith)

    pub none_before : (to : ℕ) → place < length made → to ≤ get_or made place 0 → IsLeastNumber (IsMadeWithin h made from to) 4294967295
    none_before to below most = inr (refl, λ j w. let f = (first_least w.0 w.1 w.2).1 in let l = w.3 in omega arith)

    pub first_is : (to j : ℕ) → place < length made → get_or made place 0 < to → IsKeyOf h (get_or made place 0) j → IsLeastNumber (IsMadeWithin h made from to) j
    first_is to j below less of =
        let low = ltb-false (get_or made place 0) from (point.1 place 0 (omega arith) below) in
        inl (
          (get_or made place 0, Contains-get_or made place 0 below, omega arith, less, of),
          λ i w. rises (get_or made place 0) w.0 j i of w.4 (first_least w.0 w.1 w.2).1,
        )

  -- what is made within a stretch of positions is what meets one of the others, or what a miss holds
  pub as_met : (kind : Kind) (made : List ℕ) (p from to r : ℕ) → ((q i : ℕ) → IsKeyOf h q i → ((from ≤ q) × (q < to)) ↔ (HaveOneKey h q p × Meets kind q p))
      → IsLeastNumber (IsMadeWithin h made from to) r → IsLeastNumber (IsMet h kind made p) r
  as_met kind made p from to r span =
      least_same (IsMadeWithin h made from to) (IsMet h kind made p) r
      (λ j w. let x = (span w.0 j w.4).0 (w.2, w.3) in (w.0, w.1, x.0, x.1, w.4))
      (λ j w. let x = (span w.0 j w.4).1 (w.2, w.3) in (w.0, w.1, x.0, x.1, w.4))

  pub as_missed : (made : List ℕ) (miss : RangeMiss) (from to r : ℕ) → ((q i : ℕ) → IsKeyOf h q i → (from ≤ q) ↔ (miss.from ≤ i)) → ((q i : ℕ) → IsKeyOf h q i → (to ≤ q) ↔ (miss.to ≤ i))
      → IsLeastNumber (IsMadeWithin h made from to) r → IsLeastNumber (IsMissMet h made miss) r
  as_missed made miss from to r first last =
      least_same (IsMadeWithin h made from to) (IsMissMet h made miss) r
      (λ j w. (w.0, w.1, (first w.0 j w.4).0 w.2, elim (cases_lt j miss.to) [ inl less ↦ less | inr more ↦ let m = (last w.0 j w.4).1 more in let l = w.3 in absurd (omega arith) ], w.4))
      (λ j w. (w.0, w.1, (first w.0 j w.4).1 w.2, elim (cases_lt w.0 to) [ inl less ↦ less | inr more ↦ let m = (last w.0 j w.4).0 more in let l = w.3 in absurd (omega arith) ], w.4))

-- the positions of the versions that t made
abbrev pub AreMadeBy : List Event → ℕ → List ℕ → Type 0
AreMadeBy h t made = ListsAscending (λ q. (v : KeyVersion) × IsAtPosition h q v × (0 < v.commit) × (v.txn ≡ t)) made

-- each number with P is that of a key of an edge, and each key of an edge has a number with P
abbrev pub AreNumbersOf : List Event → (ℕ → Type 0) → (ℕ → Type 0) → Type 0
AreNumbersOf h P E = ((j : ℕ) → P j → (k : ℕ) × IsKeyAt h j k × E k) × ((k : ℕ) → E k → (j : ℕ) × IsKeyAt h j k × P j)

module _ (h : List Event) where
  -- the least number is that of the least key
  pub least_key : (P E : ℕ → Type 0) → AreNumbersOf h P E → (r : ℕ) → IsLeastNumber P r → (r ≡ 4294967295 → (k : ℕ) × E k) → (k : ℕ) × IsKeyAt h r k × IsLeast E k
  least_key P E are r (inl has) some =
      let w = are.0 r has.0 in
      (w.0, w.1, (w.2, λ y e. let x = are.1 y e in key_before h x.1.0 x.1.1 r x.0 w.0 y w.1 x.1 (has.1 x.0 x.2)))
  least_key P E are r (inr none) some = let e = some none.0 in let x = are.1 e.0 e.1 in absurd (none.1 x.0 x.2)

  -- where the least number is none there is no edge
  pub no_key : IsWellFormed h → (P E : ℕ → Type 0) → AreNumbersOf h P E → (r : ℕ) → IsLeastNumber P r → 4294967295 ≤ r → (k : ℕ) → ¬ E k
  no_key wf P E are r (inl has) most k is = let w = are.0 r has.0 in let l = few_keys h wf r w.0 w.1 in omega arith
  no_key wf P E are r (inr none) most k is = let x = are.1 k is in none.1 x.0 x.2

module _ (h : List Event) (wf : IsWellFormed h) (versions : List KeyVersion) (all : AreAllVersions h versions) (keys : List ℕ) (written : AreWrittenKeys h keys) where
  its_key : (q t k : ℕ) → MadeAt h q t k → (j : ℕ) × IsKeyAt h j k × IsKeyOf h q j
  its_key q t k m =
      let n = has_number h keys written k t (made_commits h wf q t k m).0 in
      (n.0, n.1, (m.0, m.1, subst (IsKeyAt h n.0) (sym m.2) n.1))

  module _ (t u : ℕ) where
    pub not_same : (kind : Kind) (k : ℕ) → EdgeOfKind h kind t u k → t ≢ u
    not_same kind k p q = grind (arith, ww_positions, commits_less, one_commit, made_commits)

    pub ww_met : (by_t by_u : List ℕ) → AreMadeBy h t by_t → AreMadeBy h u by_u → AreNumbersOf h (FromSome (IsMet h Ww by_t) by_u) (WwEdge h t u)
    ww_met by_t by_u source target = (
      (λ j f.
          let w = f.2 in
          let x = (source.each w.0).0 w.1 in
          let y = (target.each f.0).0 f.1 in
          let of = w.4 in
          let a = w.2 in
          let key = ap (λ (v : KeyVersion). v.key) (one_at h f.0 y.0 a.1 y.1 a.3) ∙ sym a.4 ∙ ap (λ (v : KeyVersion). v.key) (one_at h w.0 a.0 of.0 a.2 of.1) in (
            of.0.key,
            of.2,
            (ww_positions h wf versions all t u of.0.key).1
                (w.0, f.0, (x.0, x.1, ap (λ (v : KeyVersion). v.key) (sym (one_at h w.0 of.0 x.0 of.1 x.1)), x.3, x.2), (y.0, y.1, key, y.3, y.2), w.3),
          )),
      (λ k edge.
          let w = (ww_positions h wf versions all t u k).0 edge in
          let m = w.2 in
          let n = w.3 in
          let j = its_key w.0 t k m in
          (j.0, j.1, (w.1, (target.each w.1).1 (n.0, n.1, n.4, n.3), (w.0, (source.each w.0).1 (m.0, m.1, m.4, m.3), (m.0, n.0, m.1, n.1, m.2 ∙ sym n.2), w.4, j.2)))),
    )

    module _ (a : Accesses) (are : AreAccesses h (λ _. ⊤) a) (other : t ≢ u) where
      pub wr_met : (by_t saw : List ℕ) (i : ℕ) → IsCommittedAt h i u → AreMadeBy h t by_t → ((q : ℕ) → Contains saw q ↔ SawPosition a i q) → AreNumbersOf h (FromSome (IsMet h Wr by_t) saw) (WrEdge h t u)
      wr_met by_t saw i number source sees = (
        (λ j f.
            let w = f.2 in
            let x = (source.each w.0).0 w.1 in
            let of = w.4 in
            let o = w.2 in
            let key = sym o.4 ∙ ap (λ (v : KeyVersion). v.key) (one_at h w.0 o.0 of.0 o.2 of.1) in (
              of.0.key,
              of.2,
              (wr_positions h wf versions all a are t u of.0.key).1
                  (other, w.0, f.0, (x.0, x.1, ap (λ (v : KeyVersion). v.key) (sym (one_at h w.0 of.0 x.0 of.1 x.1)), x.3, x.2), (i, (sees f.0).0 f.1, number, o.1, o.3, key), w.3),
            )),
        (λ k edge.
            let w = (wr_positions h wf versions all a are t u k).0 edge in
            let m = w.3 in
            let s = w.4 in
            let mine = one_number h s.0 i u s.2 number in
            let j = its_key w.1 t k m in
            (j.0, j.1, (w.2, (sees w.2).1 (subst (λ n. SawPosition a n w.2) mine s.1), (w.1, (source.each w.1).1 (m.0, m.1, m.4, m.3), (m.0, s.3, m.1, s.4, m.2 ∙ sym s.5), w.5, j.2)))),
      )

      pub rw_met : (by_u saw : List ℕ) (missed : List RangeMiss) (i : ℕ) → IsCommittedAt h i t → AreMadeBy h u by_u → ((q : ℕ) → Contains saw q ↔ SawPosition a i q) → ((miss : RangeMiss) → Contains missed miss ↔ HasMiss a i miss)
          → AreNumbersOf h (λ j. FromSome (IsMet h Rw by_u) saw j ⊎ FromSome (IsMissMet h by_u) missed j) (RwEdge h t u)
      rw_met by_u saw missed i number target sees misses = (
        (λ j e. elim e [
          | inl f ↦
              let w = f.2 in
              let x = (target.each w.0).0 w.1 in
              let of = w.4 in
              let o = w.2 in
              let key = sym o.4 ∙ ap (λ (v : KeyVersion). v.key) (one_at h w.0 o.0 of.0 o.2 of.1) in (
                of.0.key,
                of.2,
                (rw_positions h wf versions all a are t u of.0.key).1
                    (other, w.0, (x.0, x.1, ap (λ (v : KeyVersion). v.key) (sym (one_at h w.0 of.0 x.0 of.1 x.1)), x.3, x.2), inl (f.0, (i, (sees f.0).0 f.1, number, o.1, o.3, key), w.3)),
              )
          | inr f ↦
              let w = f.2 in
              let x = (target.each w.0).0 w.1 in
              let of = w.4 in
              let e = one_at h w.0 of.0 x.0 of.1 x.1 in (
                of.0.key,
                of.2,
                (rw_positions h wf versions all a are t u of.0.key).1
                    (other, w.0, (x.0, x.1, ap (λ (v : KeyVersion). v.key) (sym e), x.3, x.2), inr (i, record { txn = number; key = (j, of.2, (f.0, (misses f.0).0 f.1, w.2, w.3)) })),
              )
        ]),
        (λ k edge.
            let w = (rw_positions h wf versions all a are t u k).0 edge in
            let m = w.2 in
            let j = its_key w.1 u k m in (
              j.0,
              j.1,
              elim w.3 [
                | inl y ↦
                    let s = y.1 in
                    let mine = one_number h s.0 i t s.2 number in
                    inl (y.0, (sees y.0).1 (subst (λ n. SawPosition a n y.0) mine s.1), (w.1, (target.each w.1).1 (m.0, m.1, m.4, m.3), (m.0, s.3, m.1, s.4, m.2 ∙ sym s.5), y.2, j.2))
                | inr y ↦
                    let p = y.1 in
                    let miss = subst (λ n. Missed a n j.0) (one_number h y.0 i t p.txn number) (subst (Missed a y.0) (one_key_number h p.key.0 j.0 k p.key.1 j.1) p.key.2) in
                    inr (miss.0, (misses miss.0).1 miss.1, (w.1, (target.each w.1).1 (m.0, m.1, m.4, m.3), miss.2, miss.3, j.2))
              ],
            )),
      )

-- the least of a kind is the least of all where the kinds before it have none
pub least_of_kind : (h : List Event) (t u : ℕ) (kind : Kind) (k : ℕ) → IsLeast (EdgeOfKind h kind t u) k → ((other : Kind) (j : ℕ) → kind_number other < kind_number kind → ¬ EdgeOfKind h other t u j)
    → IsLeastEdgeBetween h t u kind k
least_of_kind h t u kind k least none = grind arith

-- an edge of neither of the first kinds is one of the last
pub of_last : (h : List Event) (t u k : ℕ) (kind : Kind) → EdgeOfKind h kind t u k → ((j : ℕ) → ¬ WwEdge h t u j) → ((j : ℕ) → ¬ WrEdge h t u j) → RwEdge h t u k
of_last h t u k Ww edge no_ww no_wr = absurd (no_ww k edge)
of_last h t u k Wr edge no_ww no_wr = absurd (no_wr k edge)
of_last h t u k Rw edge no_ww no_wr = edge
