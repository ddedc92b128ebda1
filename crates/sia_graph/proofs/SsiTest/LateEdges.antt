-- The marks before each position of a key, position by position.
-- The last marks before a position are the last commits of those with an rw edge to who made its version.
use Rattle.std.proofs.Common.{◌≡◌, ◌⊎◌, inl, inr, ℕ, ◌+◌, ◌<◌, ◌≤◌, List, ◌∷◌, length, get_or, set, refl, ap, sym, subst, ◌∙◌, arith, ◌≢◌, get_or-set_other, get_or-set_same, length-set}
use Rattle.std.specs.Prelude.{◌↔◌, ⊤}
use Rattle.std.proofs.lemmas.Bool.{cases_lt, cases_eq}
use Rattle.sia_events.specs.declared.event.Event.{Event}
use Rattle.sia_events.specs.Lists.{ListsAscending}
use Rattle.sia_index.specs.declared.info.KeyVersion.{KeyVersion}
use Rattle.sia_index.specs.Info.{IsKeyAt}
use Rattle.sia_index.specs.Positions.{ArePositions, IsAtPosition}
use Rattle.sia_graph.specs.Late.{AreLastBefore, IsMarkedBefore, IsMarkedOver, AreLate, ArePassedMarks, AreSeenMarks, EntersAt, IsLookAt, StandsAt}
use Rattle.sia_graph.proofs.Shared.Numbered.{commits_at, txn_number}
use Rattle.sia_graph.proofs.Shared.EarlierSources.{positions_below}
use Rattle.sia_parts.proofs.Shared.OneNumber.{one_key_number, one_committed_number as one_number, one_key as one_key_at, one_committed as one_txn_at}
use Rattle.sia_parts.proofs.EdgeRows.PositionOrder.{by_commit as commits_less, one_version as one_at, position_of, by_position as positions_less}
use Rattle.sia_events.specs.Dependencies.{RwEdge}
use Rattle.sia_events.specs.Isolation.{IsolationKept}
use Rattle.sia_events.specs.NarrowDependencies.{CommitsVersion, IsNextVersion, Looked}
use Rattle.sia_events.specs.Refusals.{IsWellFormed}
use Rattle.sia_events.specs.Transactions.{CommitsAt, IsCommitted}
use Rattle.sia_events.proofs.OfLaws.Endings.{one_committer}
use Rattle.sia_events.proofs.Writing.WellFormed.{one_commit}
use Rattle.sia_index.specs.Numbers.{IsCommittedAt}
use Rattle.sia_parts.specs.declared.accesses.Accesses.{Accesses}
use Rattle.sia_parts.specs.Accesses.{AreAccesses, Missed, SawPosition}
use Rattle.sia_graph.specs.Makers.{IsFirstMaker}
use Rattle.sia_graph.proofs.Shared.Facts.{lifetime_of}
use Rattle.sia_graph.proofs.SsiTest.Marks.{none_marked}
use Rattle.sia_graph.proofs.Shared.NoStuckSet.{rw_unseen}
use Rattle.sia_graph.proofs.SsiTest.Stands.{look_at}
use Rattle.sia_graph.proofs.Shared.PositionEdges.{look_of_rw, rw_from_look, keys_rise}

module _ (h : List Event) where
  -- version 0 of the key stands before a version
  pub zero_before : (q : ℕ) (w : KeyVersion) → IsAtPosition h q w → 0 < w.commit → (p : ℕ) × (p < q) × IsAtPosition h p (record { key = w.key; commit = 0; txn = 0 })
  zero_before q w at some =
      let zero : KeyVersion = record { key = w.key; commit = 0; txn = 0 } in
      let p = position_of h at.0 at.1 zero (inl ((w.txn, (commits_at h q w at some).0), refl, refl)) in
      (p.0, positions_less h p.0 q zero w p.1 at refl some, p.1)

  same_key : (q : ℕ) (v w : KeyVersion) → IsAtPosition h q v → IsAtPosition h (q + 1) w → 0 < w.commit → v.key ≡ w.key
  same_key q v w at other some =
      let p = zero_before (q + 1) w other some in
      let zero : KeyVersion = record { key = w.key; commit = 0; txn = 0 } in
      let most = keys_rise h q (q + 1) v w at other (omega arith) in
      elim (cases_lt p.0 q) [
        | inl less ↦ let least = keys_rise h p.0 q zero v p.2 at less in omega arith
        | inr last ↦
            let here : p.0 ≡ q = omega arith in
            sym (ap (λ (x : KeyVersion). x.key) (one_at h q zero v (subst (λ r. IsAtPosition h r zero) here p.2) at))
      ]

  module _ (size : ℕ) (seen most : List ℕ) where
    -- what is known at position q, where the marks before it have given way
    pub record HasLastTo (q : ℕ) (late : List ℕ) (last : ℕ) : Type 0 where
      pub long : length late ≡ length seen
      pub left : (p : ℕ) → q ≤ p → get_or late p 0 ≡ get_or seen p 0
      pub each : (p : ℕ) (v : KeyVersion) → p < q → IsAtPosition h p v → 0 < v.commit → (x : ℕ) → 0 < x → (x ≤ get_or late p 0) ↔ IsMarkedBefore h size seen most p v x
      pub here : (v : KeyVersion) → IsAtPosition h q v → 0 < v.commit → (x : ℕ) → 0 < x → (x ≤ last) ↔ IsMarkedBefore h size seen most q v x

    pub last_none : HasLastTo 0 seen 0
    last_none = record {
      long = refl;
      left = λ p from. refl;
      each = λ p v below. absurd (omega arith);
      here = λ v at some. absurd (let p = zero_before 0 v at some in let l = p.1 in omega arith);
    }

    pub last_more : (q : ℕ) (late : List ℕ) (last at_last next : ℕ) → (v : KeyVersion) → (at : IsAtPosition h q v) → q < length late → HasLastTo q late last
        → (0 < v.commit → at_last ≡ last) → (v.commit ≡ 0 → (j : ℕ) × IsKeyAt h j v.key × ((x : ℕ) → 0 < x → (x ≤ at_last) ↔ IsMarkedOver size most j x))
        → ((x : ℕ) → (x ≤ next) ↔ ((x ≤ at_last) ⊎ (x ≤ get_or late q 0))) → HasLastTo (q + 1) (set late q at_last) next
    last_more q late last at_last next v at inside has kept anew either = record {
      long = length-set late q at_last ∙ has.long;
      left = λ p from. get_or-set_other late q p at_last 0 (λ e. omega arith) ∙ has.left p (omega arith);
      each = λ p u below there some x positive. elim (cases_lt p q) [
        | inl less ↦ subst (λ n. (x ≤ n) ↔ IsMarkedBefore h size seen most p u x) (sym (get_or-set_other late q p at_last 0 (λ e. omega arith))) (has.each p u less there some x positive)
        | inr more ↦
            let same : q ≡ p = omega arith in
            let is : get_or (set late q at_last) q 0 ≡ last = get_or-set_same late q at_last 0 inside ∙ kept (of_here p u same there some) in
            subst (λ r. (x ≤ get_or (set late q at_last) r 0) ↔ IsMarkedBefore h size seen most r u x) same
            (subst (λ n. (x ≤ n) ↔ IsMarkedBefore h size seen most q u x) (sym is) (has.here u (subst (λ r. IsAtPosition h r u) (sym same) there) some x positive))
      ];
      here = λ w there some x positive. (
        (λ l. elim ((greater x).0 l) [
          | inl before ↦ from_last w there some x positive before
          | inr here ↦ inl (q, v, omega arith, at, same_key q v w at there some, here)
        ]),
        (λ m. (greater x).1 (to_last w there some x positive m)),
      );
    }
      where
        greater : (x : ℕ) → (x ≤ next) ↔ ((x ≤ at_last) ⊎ (x ≤ get_or seen q 0))
        greater x = subst (λ n. (x ≤ next) ↔ ((x ≤ at_last) ⊎ (x ≤ n))) (has.left q (omega arith)) (either x)

        of_here : (p : ℕ) (u : KeyVersion) → q ≡ p → IsAtPosition h p u → 0 < u.commit → 0 < v.commit
        of_here p u same there some = subst (λ (y : KeyVersion). 0 < y.commit) (one_at h q u v (subst (λ r. IsAtPosition h r u) (sym same) there) at) some

        from_last : (w : KeyVersion) → IsAtPosition h (q + 1) w → 0 < w.commit → (x : ℕ) → 0 < x → x ≤ at_last → IsMarkedBefore h size seen most (q + 1) w x
        from_last w there some x positive le = elim (cases_lt 0 v.commit) [
          | inl made ↦
              let e = kept made in
              elim ((has.here v at made x positive).0 (omega arith)) [
                | inl m ↦ inl (m.0, m.1, (let l = m.2 in omega arith), m.3, m.4 ∙ same_key q v w at there some, m.5)
                | inr m ↦ inr (m.0, subst (IsKeyAt h m.0) (same_key q v w at there some) m.1, m.2)
              ]
          | inr zero ↦ let n = anew (omega arith) in inr (n.0, subst (IsKeyAt h n.0) (same_key q v w at there some) n.1, (n.2 x positive).0 le)
        ]

        to_last : (w : KeyVersion) → IsAtPosition h (q + 1) w → 0 < w.commit → (x : ℕ) → 0 < x → IsMarkedBefore h size seen most (q + 1) w x → (x ≤ at_last) ⊎ (x ≤ get_or seen q 0)
        to_last w there some x positive (inl m) =
            let key = m.4 ∙ sym (same_key q v w at there some) in
            elim (cases_lt m.0 q) [
              | inl less ↦ elim (cases_lt 0 v.commit) [
                | inl made ↦ let e = kept made in let l = (has.here v at made x positive).1 (inl (m.0, m.1, less, m.3, key, m.5)) in inl (omega arith)
                | inr zero ↦ let l = commits_less h m.0 q m.1 v m.3 at key less in absurd (omega arith)
              ]
              | inr more ↦ let same : m.0 ≡ q = (let l = m.2 in omega arith) in inr (subst (λ r. x ≤ get_or seen r 0) same m.5)
            ]
        to_last w there some x positive (inr m) =
            let key : IsKeyAt h m.0 v.key = subst (IsKeyAt h m.0) (sym (same_key q v w at there some)) m.1 in
            elim (cases_lt 0 v.commit) [
              | inl made ↦ let e = kept made in let l = (has.here v at made x positive).1 (inr (m.0, key, m.2)) in inl (omega arith)
              | inr zero ↦
                  let n = anew (omega arith) in
                  inl ((n.2 x positive).1 (subst (λ j. IsMarkedOver size most j x) (one_key_number h m.0 n.0 v.key key n.1) m.2))
            ]

    pub last_all : (q : ℕ) (late : List ℕ) (last : ℕ) → ArePositions h (length seen) → length seen ≡ q → HasLastTo q late last → AreLastBefore h size seen most late
    last_all q late last positions all has = record {
      long = has.long;
      each = λ p v at. has.each p v (let l = positions_below h (length seen) p positions (v, at) in omega arith) at;
    }

module _ (h : List Event) (wf : IsWellFormed h) (kept : IsolationKept h) where
  -- who looked at a version and made a later one made the next one
  pub own_next : (t k c d : ℕ) → Looked h t k c → CommitsVersion h k t d → c < d → IsNextVersion h k c t
  own_next t k c d look made less = (
    d,
    made,
    less,
    λ u e other after. elim (cases_lt e d) [
      | inr most ↦ most
      | inl before ↦ elim (cases_eq t u) [
        | inl same ↦ let one = one_commit h wf t d e made.1 (subst (λ x. CommitsAt h x e) (sym same) other.1) in absurd (omega arith)
        | inr differ ↦
            let life = lifetime_of h wf t (d, made.1) in
            elim (cases_lt life.start e) [
              | inr sees ↦ absurd (rw_unseen h wf kept t u k (rw_from_look h wf k t u c e differ other look after) (life.start, e, life.starts, other.1, sees))
              | inl unseen ↦ absurd (kept.writes k u t (other.0, made.0, (life.start, e, life.starts, other.1, unseen), (e, d, other.1, made.1, before)))
            ]
      ]
    ],
  )

  module _ (a : Accesses) (are : AreAccesses h (λ _. ⊤) a) where
    module _ (q : ℕ) (v : KeyVersion) (at : IsAtPosition h q v) (some : 0 < v.commit) where
      made : CommitsVersion h v.key v.txn v.commit
      made = commits_at h q v at some

      -- who stands before the position has an rw edge to its maker
      stand_enters : (i r p e : ℕ) (w : KeyVersion) → IsCommittedAt h i r → IsLookAt h a i p → StandsAt h i p e → e < q → IsAtPosition h e w → w.key ≡ v.key → RwEdge h r v.txn v.key
      stand_enters i r p e w num look stands less there key = by_stand stands
        where
          u : (u : KeyVersion) × IsAtPosition h p u × Looked h r u.key u.commit
          u = look_at h a are i r p num look

          earlier : w.commit < v.commit
          earlier = commits_less h e q w v there at key less

          by_stand : StandsAt h i p e → RwEdge h r v.txn v.key
          by_stand (inl here) =
              let same : w ≡ u.0 = one_at h p w u.0 (subst (λ n. IsAtPosition h n w) here.0 there) u.1 in
              let ukey : u.0.key ≡ v.key = sym (ap (λ (x : KeyVersion). x.key) same) ∙ key in
              let less : u.0.commit < v.commit = let early = earlier in omega (arith, ap (λ (x : KeyVersion). x.commit) same) in
              let seen : Looked h r v.key u.0.commit = subst (λ k. Looked h r k u.0.commit) ukey u.2 in
              let other : r ≢ v.txn = λ own.
              let next = own_next r v.key u.0.commit v.commit seen (subst (λ t. CommitsVersion h v.key t v.commit) (sym own) made) less in
              here.1 (u.0, u.1, r, subst (λ k. IsNextVersion h k u.0.commit r) (sym ukey) next, num) in
              rw_from_look h wf v.key r v.txn u.0.commit v.commit other made seen less
          by_stand (inr own) =
              let first = one_at h p own.0 u.0 own.2 u.1 in
              let second = one_at h e own.1 w own.3 there in
              let next : IsNextVersion h u.0.key u.0.commit w.txn = subst (λ (x : KeyVersion). IsNextVersion h u.0.key u.0.commit x.txn) second (subst (λ (x : KeyVersion). IsNextVersion h x.key x.commit own.1.txn) first own.6) in
              let ukey : u.0.key ≡ v.key = sym (ap (λ (x : KeyVersion). x.key) first) ∙ sym own.4 ∙ ap (λ (x : KeyVersion). x.key) second ∙ key in
              let makes = commits_at h e w there (subst (λ (x : KeyVersion). 0 < x.commit) second own.5) in
              let c = one_commit h wf w.txn next.0 w.commit next.1.1 makes.1 in
              let is : r ≡ w.txn = one_txn_at h i r w.txn num (subst (λ (x : KeyVersion). IsCommittedAt h i x.txn) second own.7) in
              let other : r ≢ v.txn = λ same. let early = earlier in let z = one_commit h wf v.txn w.commit v.commit (subst (λ t. CommitsAt h t w.commit) (sym is ∙ same) makes.1) made.1 in let no : ⊥ = omega arith in no in
              rw_from_look h wf v.key r v.txn u.0.commit v.commit other made (subst (λ k. Looked h r k u.0.commit) ukey u.2) (let early = earlier in omega arith)

      -- and who has one stands before the position
      stands_before : (i r p e : ℕ) (u : KeyVersion) → IsCommittedAt h i r → r ≢ v.txn → IsAtPosition h p u → u.key ≡ v.key → u.commit < v.commit → StandsAt h i p e → (w : KeyVersion) × (e < q) × IsAtPosition h e w × (w.key ≡ v.key)
      stands_before i r p e u num other there key less (inl here) =
          (u, subst (λ n. n < q) (sym here.0) (positions_less h p q u v there at key less), subst (λ n. IsAtPosition h n u) (sym here.0) there, key)
      stands_before i r p e u num other there key less (inr own) =
          let first = one_at h p own.0 u own.2 there in
          let next = subst (λ (x : KeyVersion). IsNextVersion h x.key x.commit own.1.txn) first own.6 in
          let wkey : own.1.key ≡ v.key = own.4 ∙ ap (λ (x : KeyVersion). x.key) first ∙ key in
          let c = one_commit h wf own.1.txn next.0 own.1.commit next.1.1 (commits_at h e own.1 own.3 own.5).1 in
          let most = next.3 v.txn v.commit (subst (λ k. CommitsVersion h k v.txn v.commit) (sym key) made) less in
          let is : r ≡ own.1.txn = one_txn_at h i r own.1.txn num own.7 in
          let before : own.1.commit < v.commit = grind (arith, positions_less, one_at, commits_at, one_commit, made, one_txn_at, cases_lt, one_committer) in
          (own.1, positions_less h e q own.1 v own.3 at wkey before, own.3, wkey)

    module _ (txns : List ℕ) (txns_are : ListsAscending (IsCommitted h) txns) (size : ℕ) (keys : (j k : ℕ) → IsKeyAt h j k → (size ≡ 0) ⊎ (j < size)) (sized : (i j : ℕ) → size ≡ 0 → ¬ Missed a i j) (values seen most late : List ℕ)
        (seen_are : AreSeenMarks h a values (length txns) seen) (most_are : ArePassedMarks h a values size (length txns) most) (last : AreLastBefore h size seen most late) where
      enters : (q : ℕ) (v : KeyVersion) → IsAtPosition h q v → 0 < v.commit → (x : ℕ) → 0 < x → IsMarkedBefore h size seen most q v x → (y : ℕ) × EntersAt h values v.txn v.key y × (x ≤ y)
      enters q v at some x positive (inl m) =
          let s = seen_are.sound m.0 x positive m.5 in
          (get_or values s.0 0, (s.0, s.1, s.3, stand_enters q v at some s.0 s.1 s.2 m.0 m.1 s.3 s.4 s.5 m.2 m.3 m.4, refl), s.6)
      enters q v at some x positive (inr m) = elim (keys m.0 v.key m.1) [
        | inl none ↦ absurd (let l = (none_marked size m.0 most (let e = most_are.long in omega arith) x positive).1 m.2 in omega arith)
        | inr below ↦
            let s = (most_are.each m.0 x below positive).0 m.2 in
            let w = are.missed s.0 m.0 s.4.0 in
            let k = one_key_at h m.0 w.1 v.key w.3 m.1 in
            let look : Looked h s.1 v.key 0 = subst (λ t. Looked h t v.key 0) (one_txn_at h s.0 w.0 s.1 w.2 s.3) (subst (λ k. Looked h w.0 k 0) k w.4) in
            let by = commits_at h q v at some in
            let other : s.1 ≢ v.txn = λ own.
            let next = own_next s.1 v.key 0 v.commit look (subst (λ t. CommitsVersion h v.key t v.commit) (sym own) by) some in
            s.4.1 (v.key, s.1, m.1, next, s.3) in
            (get_or values s.0 0, (s.0, s.1, s.3, rw_from_look h wf v.key s.1 v.txn 0 v.commit other by look some, refl), s.5)
      ]

      marked : (q : ℕ) (v : KeyVersion) → IsAtPosition h q v → 0 < v.commit → (x i r : ℕ) → 0 < x → IsCommittedAt h i r → RwEdge h r v.txn v.key → x ≤ get_or values i 0 → x ≤ get_or late q 0
      marked q v at some x i r positive num edge le =
          let look = look_of_rw h wf v.key r v.txn edge in
          let by = commits_at h q v at some in
          let d = one_commit h wf v.txn look.1 v.commit look.2.1 by.1 in
          let number = (txn_number h txns txns_are i r num).0 in
          let by_stand = λ (p : ℕ) (u : KeyVersion) (there : IsAtPosition h p u) (key : u.key ≡ v.key) (early : u.commit < v.commit) (l : IsLookAt h a i p).
          let e = seen_are.has i r p number num l in
          let w = stands_before q v at some i r p e.0 u num edge.0 there key early e.1 in
          (last.each q v at some x positive).1 (inl (e.0, w.0, w.1, w.2, w.3, (let t : x ≤ get_or seen e.0 0 = omega arith in t))) in
          elim (are.each r v.key look.0 v.txn look.3 by.0 tt) [
            | inl s ↦
                let l = s.2 in
                let u = l.version in
                by_stand s.1 u.0 u.1 u.2 (omega arith) (inl (subst (λ n. SawPosition a n s.1) (one_number h s.0 i r l.txn num) l.saw))
            | inr p ↦
                let j = p.2.key.0 in
                let missed = subst (λ n. Missed a n j) (one_number h p.1 i r p.2.txn num) p.2.key.2 in
                elim (cases_lt (get_or late q 0) x) [
                  | inr done ↦ done
                  | inl under ↦
                      let zero = zero_before h q v at some in
                      let none : KeyVersion = record { key = v.key; commit = 0; txn = 0 } in
                      let own : ¬ IsFirstMaker h j i = λ first.
                      let no : ⊥ = omega (arith, by_stand zero.0 none zero.2 refl some (inr (j, none, (missed, first), zero.2, p.2.key.1, refl))) in
                      no in
                      elim (keys j v.key p.2.key.1) [
                        | inl none ↦ absurd (sized i j none missed)
                        | inr below ↦ (last.each q v at some x positive).1 (inr (j, p.2.key.1, (most_are.each j x below positive).1 (i, r, number, num, (missed, own), le)))
                      ]
                ]
          ]

      pub lates : AreLate h values late
      lates = record {
        long = subst (ArePositions h) (sym last.long) seen_are.long;
        each = λ q v at some x positive. (
          (λ l. enters q v at some x positive ((last.each q v at some x positive).0 l)),
          (λ w. marked q v at some x w.1.0 w.1.1 positive w.1.2 w.1.3 (let e = w.1.4 in let l = w.2 in omega arith)),
        );
      }
