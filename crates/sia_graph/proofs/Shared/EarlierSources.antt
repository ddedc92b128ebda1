-- The two least of those who made or saw a version up to a position.
-- What is at hand of those who made, saw or passed over versions, and the edges to a transaction that this tells.
use Rattle.std.proofs.Common.{◌≡◌, ◌⊎◌, inl, inr, ℕ, ◌<◌, ◌≤◌, List, Option, Some, length, get_or, set, refl, ap, sym, subst, ◌∙◌, arith, ◌≢◌, Bool, min, get_or-set_same, get_or-set_other, length-set}
use Rattle.std.specs.Prelude.{◌↔◌, MatchOption, ⊤, Contains}
use Rattle.std.proofs.lemmas.Bool.{cases_eq, cases_lt}
use Rattle.sia_events.specs.declared.event.Event.{Event}
use Rattle.sia_events.specs.NarrowDependencies.{CommitsVersion, IsNextVersion}
use Rattle.sia_events.specs.Refusals.{IsWellFormed}
use Rattle.sia_events.proofs.Writing.WellFormed.{one_commit}
use Rattle.sia_index.specs.Positions.{ArePositions, HasPosition, IsAtPosition, AreAllVersions}
use Rattle.sia_index.specs.declared.info.KeyVersion.{KeyVersion}
use Rattle.sia_graph.specs.Twos.{AreTwosOf, HaveOneKey, IsUpTo, IsWith, IsBeforeVersion, IsLeastNumber, IsLeftMaker, IsLeftReader, IsLeftSource, IsTwo}
use Rattle.sia_graph.specs.declared.twos.Two.{Two}
use Rattle.sia_graph.proofs.Shared.LeastNumbers.{two_same, two_with, least_join, least_none, least_same, other_of}
use Rattle.sia_graph.proofs.Shared.Numbered.{commits_at}
use Rattle.sia_graph.proofs.Shared.PositionEdges.{positions_most, made_commits, rw_positions, wr_positions, ww_positions}
use Rattle.sia_parts.proofs.EdgeRows.PositionOrder.{by_commit as commits_less, one_version as one_at, position_below}
use Rattle.sia_events.specs.Lists.{ListsAscending}
use Rattle.sia_index.proofs.Shared.KeyChains.{key_number}
use Rattle.sia_index.specs.Info.{IsKeyAt}
use Rattle.sia_index.specs.Numbers.{IsCommittedAt}
use Rattle.sia_parts.specs.Accesses.{AreAccesses, Missed, SawPosition}
use Rattle.sia_parts.specs.Entries.{EdgeOfKind}
use Rattle.sia_parts.specs.Sights.{FromSome}
use Rattle.sia_parts.specs.declared.accesses.Accesses.{Accesses}
use Rattle.sia_parts.specs.declared.finding.Kind.{Kind}
use Rattle.sia_parts.specs.declared.finding.Kind.TheVariants.{Ww, Wr, Rw}
use Rattle.sia_graph.specs.Passed.{IsSizeFor}
use Rattle.sia_graph.specs.Previous.{IsLeftIn}
use Rattle.sia_parts.proofs.Shared.OneNumber.{one_key_number, one_committed_number as one_number, one_committed as one_txn_at}

-- of a position the one before it of the same key, if there is one
abbrev pub IsBefore : List Event → ℕ → Option ℕ → Type 0
IsBefore h q before = (v : KeyVersion) → IsAtPosition h q v → MatchOption before (v.commit ≡ 0)
    (λ b. (w : KeyVersion) × IsAtPosition h b w × (w.key ≡ v.key) × (w.commit < v.commit) × IsNextVersion h v.key w.commit v.txn × (b < q))

pub before_less : (h : List Event) (q : ℕ) → HasPosition h q → (before : Option ℕ) → IsBefore h q before → (b : ℕ) → before ≡ Some b → b < q
before_less h q has before is b e = (subst (λ o. MatchOption o (has.0.commit ≡ 0)
    (λ p. (w : KeyVersion) × IsAtPosition h p w × (w.key ≡ has.0.key) × (w.commit < has.0.commit) × IsNextVersion h has.0.key w.commit has.0.txn × (p < q))) e (is has.0 has.1)).5

-- one number more at a place
pub put_one : (P Q : ℕ → ℕ → Type 0) (twos : List Two) (at n : ℕ) (d new : Two) → at < length twos → n < 4294967295 → IsWith (get_or twos at d) n new
    → ((q r : ℕ) → P q r → r < 4294967295) → ((q r : ℕ) → P q r → Q q r) → Q at n → ((q r : ℕ) → Q q r → P q r ⊎ ((q ≡ at) × (r ≡ n)))
    → AreTwosOf P twos → AreTwosOf Q (set twos at new)
put_one P Q twos at n d new below few with few_all to one back are q e l = grind (arith, length-set, cases_eq, get_or-set_same, two_with, get_or-set_other, two_same)

module _ (h : List Event) (wf : IsWellFormed h) where
  same_key : (p q : ℕ) (v w : KeyVersion) → IsAtPosition h p v → IsAtPosition h q w → HaveOneKey h p q → v.key ≡ w.key
  same_key p q v w at other one = ap (λ (x : KeyVersion). x.key) (one_at h p v one.0 at one.2) ∙ one.4 ∙ ap (λ (x : KeyVersion). x.key) (one_at h q one.1 w one.3 other)

  -- what stands below a position of its key stands up to the one before it
  pub below_before : (q b p : ℕ) (v : KeyVersion) → IsAtPosition h q v
      → ((w : KeyVersion) × IsAtPosition h b w × (w.key ≡ v.key) × (w.commit < v.commit) × IsNextVersion h v.key w.commit v.txn × (b < q))
      → HaveOneKey h p q → p < q → (p ≤ b) × HaveOneKey h p b
  below_before q b p v at before one less =
      let w = before.0 in
      let x = one.0 in
      let key = same_key p q x v one.2 at one in
      let same : x.key ≡ w.key = key ∙ sym before.2 in
      (positions_most h p b x w one.2 before.1 same (low x key (commits_less h p q x v one.2 at key less) before.4 one.2), (x, w, one.2, before.1, same))
    where
      low : (x : KeyVersion) → x.key ≡ v.key → x.commit < v.commit → IsNextVersion h v.key before.0.commit v.txn → IsAtPosition h p x → x.commit ≤ before.0.commit
      low x key earlier next is_at = elim (cases_lt before.0.commit x.commit) [
        | inr most ↦ most
        | inl more ↦
            let made = subst (λ k. CommitsVersion h k x.txn x.commit) key (commits_at h p x is_at (omega arith)) in
            let l = next.3 x.txn x.commit made more in
            let own = commits_at h q v at (omega arith) in
            let e : next.0 ≡ v.commit = one_commit h wf v.txn next.0 v.commit next.1.1 own.1 in
            absurd (omega arith)
      ]

  pub before_below : (q b p : ℕ) (v : KeyVersion) → IsAtPosition h q v
      → ((w : KeyVersion) × IsAtPosition h b w × (w.key ≡ v.key) × (w.commit < v.commit) × IsNextVersion h v.key w.commit v.txn × (b < q))
      → HaveOneKey h p b → p ≤ b → HaveOneKey h p q × (p < q)
  before_below q b p v at before one most =
      let w = before.0 in
      ((one.0, v, one.2, at, same_key p b one.0 w one.2 before.1 one ∙ before.2), omega arith)

  -- version 0 has nothing before it
  pub none_below : (q p : ℕ) (v : KeyVersion) → IsAtPosition h q v → v.commit ≡ 0 → HaveOneKey h p q → ¬ (p < q)
  none_below q p v at zero_ one less = let l = commits_less h p q one.0 v one.2 at (same_key p q one.0 v one.2 at one) less in omega arith

  module _ (P : ℕ → ℕ → Type 0) (q : ℕ) (v : KeyVersion) (at : IsAtPosition h q v) where
    here : (r : ℕ) → P q r → IsUpTo h P q r
    here r p = (q, omega arith, (v, v, at, at, refl), p)

    pub up_to_first : v.commit ≡ 0 → (r : ℕ) → IsUpTo h P q r ↔ P q r
    up_to_first zero_ r = (
      (λ w. elim (cases_lt w.0 q) [
        | inl less ↦ absurd (none_below q w.0 v at zero_ w.2 less)
        | inr more ↦ let l = w.1 in let e : w.0 ≡ q = omega arith in subst (λ p. P p r) e w.3
      ]),
      here r,
    )

    pub up_to_next : (b : ℕ) → ((w : KeyVersion) × IsAtPosition h b w × (w.key ≡ v.key) × (w.commit < v.commit) × IsNextVersion h v.key w.commit v.txn × (b < q))
        → (r : ℕ) → IsUpTo h P q r ↔ (P q r ⊎ IsUpTo h P b r)
    up_to_next b before r = (
      (λ w. elim (cases_lt w.0 q) [
        | inl less ↦ let x = below_before q b w.0 v at before w.2 less in inr (w.0, x.0, x.1, w.3)
        | inr more ↦ let l = w.1 in let e : w.0 ≡ q = omega arith in inl (subst (λ p. P p r) e w.3)
      ]),
      (λ w. elim w [
        | inl p ↦ here r p
        | inr x ↦ let y = before_below q b x.0 v at before x.2 x.1 in let l = y.1 in (x.0, omega arith, y.0, x.3)
      ]),
    )

-- so many positions are those of one list
pub positions_below : (h : List Event) (count q : ℕ) → ArePositions h count → HasPosition h q → q < count
positions_below h count q are has = position_below h count q has.0 are has.1

-- blocks are over a key, or nobody passed over it
pub key_within : (h : List Event) (a : Accesses) (size : ℕ) → IsSizeFor size h a → (j k : ℕ) → IsKeyAt h j k → (j < size) ⊎ ((r : ℕ) → ¬ Missed a r j)
key_within h a size (inl all) j k at = inl (let n = (key_number h all.0 all.1 j k at).0 in let e = all.2 in omega arith)
key_within h a size (inr none) j k at = inr (λ r. none.1 r j)

-- r saw the version at a position below this one of its key
abbrev pub SawBelow : List Event → Accesses → List Bool → ℕ → ℕ → Type 0
SawBelow h a left q r = (p : ℕ) × (p < q) × HaveOneKey h p q × IsLeftReader a left p r

-- another comes before the version at the position, if it is made or if it is seen
abbrev pub OfMade : List Event → Accesses → List Bool → ℕ → ℕ → ℕ → Type 0
OfMade h a left me q r = IsBeforeVersion h a left q r × (r ≢ me)

abbrev pub OfSeen : List Event → List Bool → ℕ → ℕ → ℕ → Type 0
OfSeen h left me q r = IsUpTo h (IsLeftMaker h left) q r × (r ≢ me)

abbrev pub OfEither : List Event → Accesses → List Bool → ℕ → List ℕ → List ℕ → ℕ → Type 0
OfEither h a left me made saw r = FromSome (OfMade h a left me) made r ⊎ FromSome (OfSeen h left me) saw r

module _ (h : List Event) (wf : IsWellFormed h) (a : Accesses) (left : List Bool) where
  -- those who saw a version up to the position before are those who saw one below
  pub saw_below : (q b : ℕ) (v : KeyVersion) → IsAtPosition h q v
      → ((w : KeyVersion) × IsAtPosition h b w × (w.key ≡ v.key) × (w.commit < v.commit) × IsNextVersion h v.key w.commit v.txn × (b < q))
      → (two : Two) (me r : ℕ) → (two.least ≡ me → r ≡ two.next) → (two.least ≢ me → r ≡ two.least) → IsTwo (IsUpTo h (IsLeftReader a left) b) two → IsLeastNumber (λ s. SawBelow h a left q s × (s ≢ me)) r
  saw_below q b v at before two me r own another is =
      least_same (λ s. IsUpTo h (IsLeftReader a left) b s × (s ≢ me)) (λ s. SawBelow h a left q s × (s ≢ me)) r
      (λ s u. let x = before_below h wf q b u.0.0 v at before u.0.2 u.0.1 in ((u.0.0, x.1, x.0, u.0.3), u.1))
      (λ s u. let x = below_before h wf q b u.0.0 v at before u.0.2 u.0.1 in ((u.0.0, x.0, x.1, u.0.3), u.1))
      (other_of (IsUpTo h (IsLeftReader a left) b) two me r own another is)

  pub none_saw : (q : ℕ) (v : KeyVersion) → IsAtPosition h q v → v.commit ≡ 0 → (me : ℕ) → IsLeastNumber (λ s. SawBelow h a left q s × (s ≢ me)) 4294967295
  none_saw q v at zero_ me = least_none (λ s. SawBelow h a left q s × (s ≢ me)) (λ s u. none_below h wf q u.0.0 v at zero_ u.0.2 u.0.1)

  abbrev Both : ℕ → ℕ → ℕ → ℕ → Type 0
  Both q j me r = (IsUpTo h (IsLeftMaker h left) q r × (r ≢ me)) ⊎ ((IsLeftIn left r × Missed a r j) × (r ≢ me))

  -- who made one, passed over the key or saw one is before the version
  pub before_version : (q : ℕ) (v : KeyVersion) → IsAtPosition h q v → (j : ℕ) → IsKeyAt h j v.key → (me made passed seen : ℕ) → made ≤ 4294967295 → passed ≤ 4294967295 → seen ≤ 4294967295
      → IsLeastNumber (λ r. IsUpTo h (IsLeftMaker h left) q r × (r ≢ me)) made → IsLeastNumber (λ r. (IsLeftIn left r × Missed a r j) × (r ≢ me)) passed → IsLeastNumber (λ r. SawBelow h a left q r × (r ≢ me)) seen
      → IsLeastNumber (λ r. IsBeforeVersion h a left q r × (r ≢ me)) (min (min made passed) seen)
  before_version q v at j key me made passed seen x y z first second third =
      least_join (Both q j me) (λ r. SawBelow h a left q r × (r ≢ me)) (λ r. IsBeforeVersion h a left q r × (r ≢ me)) (min made passed) seen (omega arith) z
      (λ r u. elim u [ inl m ↦ (inl m.0, m.1) | inr p ↦ (inr (inr (v, at, j, key, p.0.0, p.0.1)), p.1) ])
      (λ r u. (inr (inl u.0), u.1))
      (λ r u. elim u.0 [
        | inl m ↦ inl (inl (m, u.1))
        | inr w ↦ elim w [
          | inl s ↦ inr (s, u.1)
          | inr p ↦
              let same = one_key_number h p.2 j v.key (subst (λ (x : KeyVersion). IsKeyAt h p.2 x.key) (one_at h q p.0 v p.1 at) p.3) key in
              inl (inr ((p.4, subst (Missed a r) same p.5), u.1))
        ]
      ])
      (least_join (λ r. IsUpTo h (IsLeftMaker h left) q r × (r ≢ me)) (λ r. (IsLeftIn left r × Missed a r j) × (r ≢ me)) (Both q j me) made passed x y (λ r u. inl u) (λ r u. inr u) (λ r u. u) first second)
      third

  module _ (versions : List KeyVersion) (all : AreAllVersions h versions) (are : AreAccesses h (λ _. ⊤) a) (me u : ℕ) (number : IsCommittedAt h me u) (made saw : List ℕ)
      (lists : ListsAscending (λ q. (v : KeyVersion) × IsAtPosition h q v × (0 < v.commit) × (v.txn ≡ u)) made) (sees : (q : ℕ) → Contains saw q ↔ SawPosition a me q) where
    differs : (r t : ℕ) → IsCommittedAt h r t → r ≢ me → t ≢ u
    differs r t at other same = other (one_number h r me u (subst (IsCommittedAt h r) same at) number)

    no_own : (r t : ℕ) → IsCommittedAt h r t → t ≢ u → r ≢ me
    no_own r t at other same = other (one_txn_at h me t u (subst (λ n. IsCommittedAt h n t) same at) number)

    of_made : (q r : ℕ) → Contains made q → OfMade h a left me q r → IsLeftSource h left me r
    of_made q r c (inl m, other) =
        let v = (lists.each q).0 c in
        let x = m.3.1 in
        let key = same_key h wf m.0 q x v.0 m.3.2 v.1 m.2 in
        let less : m.0 < q = elim (cases_eq m.0 q) [
          | inl same ↦
              absurd (other (one_number h r me u (subst (IsCommittedAt h r) (ap (λ (y : KeyVersion). y.txn) (one_at h q x v.0 (subst (λ p. IsAtPosition h p x) same m.3.2) v.1) ∙ v.3) m.3.3) number))
          | inr differ ↦ let l = m.1 in omega arith
        ] in
        let edge = (ww_positions h wf versions all x.txn u v.0.key).1 (m.0, q, (x, m.3.2, key, refl, m.3.4), (v.0, v.1, refl, v.3, v.2), less) in
        (m.3.0, x.txn, u, m.3.3, number, (record { src = x.txn; kind = Ww; dst = u; key = v.0.key }, edge, refl, refl))
    of_made q r c (inr (inl s), other) =
        let v = (lists.each q).0 c in
        let w = are.saw r s.0 s.3.1 in
        let t = w.0 in
        let x = s.2.0 in
        let edge = (rw_positions h wf versions all a are t u v.0.key).1
        (differs r t w.3.txn other, q, (v.0, v.1, refl, v.3, v.2), inl (s.0, (r, s.3.1, w.3.txn, x, s.2.2, same_key h wf s.0 q x v.0 s.2.2 v.1 s.2), s.1)) in
        (s.3.0, t, u, w.3.txn, number, (record { src = t; kind = Rw; dst = u; key = v.0.key }, edge, refl, refl))
    of_made q r c (inr (inr p), other) =
        let v = (lists.each q).0 c in
        let w = are.missed r p.2 p.5 in
        let t = w.0 in
        let key : IsKeyAt h p.2 v.0.key = subst (λ (x : KeyVersion). IsKeyAt h p.2 x.key) (one_at h q p.0 v.0 p.1 v.1) p.3 in
        let edge = (rw_positions h wf versions all a are t u v.0.key).1 (differs r t w.2 other, q, (v.0, v.1, refl, v.3, v.2), inr (r, record { txn = w.2; key = (p.2, key, p.5) })) in
        (p.4, t, u, w.2, number, (record { src = t; kind = Rw; dst = u; key = v.0.key }, edge, refl, refl))

    of_seen : (q r : ℕ) → Contains saw q → OfSeen h left me q r → IsLeftSource h left me r
    of_seen q r c (m, other) =
        let y = m.2.1 in
        let x = m.3.1 in
        let key = same_key h wf m.0 q x y m.3.2 m.2.3 m.2 in
        let edge = (wr_positions h wf versions all a are x.txn u y.key).1 (differs r x.txn m.3.3 other, m.0, q, (x, m.3.2, key, refl, m.3.4), (me, (sees q).0 c, number, y, m.2.3, refl), m.1) in
        (m.3.0, x.txn, u, m.3.3, number, (record { src = x.txn; kind = Wr; dst = u; key = y.key }, edge, refl, refl))

    from_edge : (r t k : ℕ) → IsLeftIn left r → IsCommittedAt h r t → (kind : Kind) → EdgeOfKind h kind t u k → OfEither h a left me made saw r
    from_edge r t k is at Ww edge =
        let w = (ww_positions h wf versions all t u k).0 edge in
        let m = w.2 in
        let n = w.3 in
        let other : t ≢ u = grind (arith, ww_positions, commits_less, one_commit, made_commits, no_own, wr_positions, one_number, rw_positions) in
        inl (w.1, (lists.each w.1).1 (n.0, n.1, n.4, n.3), (inl (w.0, omega arith, (m.0, n.0, m.1, n.1, m.2 ∙ sym n.2), (is, m.0, m.1, subst (IsCommittedAt h r) (sym m.3) at, m.4)), no_own r t at other))
    from_edge r t k is at Wr edge =
        let w = (wr_positions h wf versions all a are t u k).0 edge in
        let m = w.3 in
        let s = w.4 in
        let mine = one_number h s.0 me u s.2 number in
        inr (w.2, (sees w.2).1 (subst (λ i. SawPosition a i w.2) mine s.1), ((w.1, w.5, (m.0, s.3, m.1, s.4, m.2 ∙ sym s.5), (is, m.0, m.1, subst (IsCommittedAt h r) (sym m.3) at, m.4)), no_own r t at w.0))
    from_edge r t k is at Rw edge =
        let w = (rw_positions h wf versions all a are t u k).0 edge in
        let n = w.2 in
        let other = no_own r t at w.0 in
        inl (
          w.1,
          (lists.each w.1).1 (n.0, n.1, n.4, n.3),
          elim w.3 [
            | inl x ↦
                let s = x.1 in
                (inr (inl (x.0, x.2, (s.3, n.0, s.4, n.1, s.5 ∙ sym n.2), (is, subst (λ i. SawPosition a i x.0) (one_number h s.0 r t s.2 at) s.1))), other)
            | inr x ↦
                let p = x.1 in
                (inr (inr (n.0, n.1, p.key.0, subst (IsKeyAt h p.key.0) (sym n.2) p.key.1, is, subst (λ i. Missed a i p.key.0) (one_number h x.0 r t p.txn at) p.key.2)), other)
          ],
        )

    pub sources_are : (r : ℕ) → IsLeastNumber (OfEither h a left me made saw) r → IsLeastNumber (IsLeftSource h left me) r
    sources_are r =
        least_same (OfEither h a left me made saw) (IsLeftSource h left me) r
        (λ s e. elim e [ inl m ↦ of_made m.0 s m.1 m.2 | inr m ↦ of_seen m.0 s m.1 m.2 ])
        (λ s is. from_source s is)
      where
        from_source : (s : ℕ) → IsLeftSource h left me s → OfEither h a left me made saw s
        from_source s (is, t, v, at, other, (e, edge, from, to)) =
            from_edge s t e.key is at e.kind (subst (λ w. EdgeOfKind h e.kind t w e.key) (to ∙ one_txn_at h me v u other number) (subst (λ w. EdgeOfKind h e.kind w e.dst e.key) from edge))
