-- Edges as positions tell them.
use Rattle.std.proofs.Common.{◌≡◌, ◌≢◌, ◌⊎◌, inl, inr, ℕ, ◌<◌, ◌≤◌, List, refl, ap, sym, subst, ◌∙◌, arith}
use Rattle.std.proofs.lemmas.Bool.{cases_lt}
use Rattle.sia_events.specs.declared.event.Event.{Event}
use Rattle.sia_events.specs.declared.event.Event.TheVariants.{Commit}
use Rattle.sia_events.specs.NarrowDependencies.{CommitsVersion, Looked}
use Rattle.sia_events.specs.Refusals.{IsWellFormed}
use Rattle.sia_events.specs.Transactions.{CommitsAt, Wrote}
use Rattle.sia_events.proofs.Shared.TransactionDecisions.{place_within}
use Rattle.sia_events.proofs.Writing.WellFormed.{one_commit}
use Rattle.sia_index.specs.declared.info.KeyVersion.{KeyVersion}
use Rattle.sia_index.specs.Info.{IsKeyAt}
use Rattle.sia_index.specs.Numbers.{IsCommittedAt}
use Rattle.sia_index.specs.Positions.{AreAllVersions, IsAtPosition}
use Rattle.sia_parts.specs.declared.accesses.Accesses.{Accesses}
use Rattle.sia_parts.specs.declared.finding.Kind.{Kind}
use Rattle.sia_parts.specs.declared.finding.Kind.TheVariants.{Ww, Wr, Rw}
use Rattle.sia_parts.specs.Accesses.{AreAccesses, Missed, SawPosition}
use Rattle.sia_parts.specs.EdgeRows.{IsMadeAt, IsOfKey, IsToldEdge}
use Rattle.sia_parts.specs.Entries.{EdgeOfKind}
use Rattle.sia_parts.proofs.Shared.OneNumber.{one_committed, one_committed_number, one_key, one_key_number}
use Rattle.sia_parts.proofs.EdgeRows.PositionOrder.{by_commit, by_commit_from, by_position, is_version, one_version, position_of}
use Rattle.sia_parts.proofs.EdgeRows.Sources.{look_of_rw, look_of_wr, rw_from_look, wr_from_look}

module _ (h : List Event) (wf : IsWellFormed h) where
  -- a version that was made is its maker's
  pub made_version : (v : KeyVersion) (q : ℕ) → IsAtPosition h q v → 0 < v.commit → CommitsVersion h v.key v.txn v.commit
  made_version v q at above = elim (is_version h q v at) [ inl none ↦ absurd (let zero = none.1 in omega arith) | inr made ↦ made ]

  -- who made a version at a position of number i and the key of number j
  pub of_made : (i j q t k : ℕ) → IsCommittedAt h i t → IsKeyAt h j k → (m : IsMadeAt h i j q) → CommitsVersion h k t m.version.commit × (m.version.key ≡ k)
  of_made i j q t k txn key m =
      let same = one_key h j m.version.key k m.key key in
      let own = one_committed h i m.version.txn t m.maker txn in
      (subst (λ x. CommitsVersion h x t m.version.commit) same (subst (λ x. CommitsVersion h m.version.key x m.version.commit) own (made_version m.version q m.at m.made)), same)

  -- two versions of a key have two makers
  pub makers_apart : (i u j q p : ℕ) → IsMadeAt h i j q → IsMadeAt h u j p → q < p → u ≢ i
  makers_apart i u j q p m n less same =
      let first = of_made i j q m.version.txn m.version.key m.maker m.key m in
      let second = of_made u j p m.version.txn m.version.key (subst (λ x. IsCommittedAt h x m.version.txn) (sym same) m.maker) m.key n in
      let one = one_commit h wf m.version.txn m.version.commit n.version.commit first.0.1 second.0.1 in
      let more = by_commit h q p m.version n.version m.at n.at (sym second.1) less in
      omega arith

  -- each version that was made has a position
  pub made_at : (versions : List KeyVersion) → AreAllVersions h versions → (i j t k c : ℕ) → IsCommittedAt h i t → IsKeyAt h j k → CommitsVersion h k t c → (q : ℕ) × (m : IsMadeAt h i j q) × (m.version ≡ record { key = k; commit = c; txn = t })
  made_at versions are i j t k c txn key made =
      let v : KeyVersion = record { key = k; commit = c; txn = t } in
      let place = position_of h versions are v (inr made) in
      (place.0, record { version = v; at = place.1; key = key; made = (place_within h c (Commit t) made.1).0; maker = txn }, refl)

  module _ (Within : ℕ → Type 0) (a : Accesses) (are : AreAccesses h Within a) where
    -- who saw a position looked at its version
    pub look_at : (u p j t k : ℕ) → IsCommittedAt h u t → IsKeyAt h j k → SawPosition a u p → (of : IsOfKey h j p) → Looked h t k of.version.commit × Within k × (of.version.key ≡ k)
    look_at u p j t k txn key saw of =
        let is = are.saw u p saw in
        let own = one_committed h u is.0 t is.3.txn txn in
        let version = one_version h p is.3.version.0 of.version is.3.version.1 of.at in
        let same = one_key h j of.version.key k of.key key in
        let here : is.1 ≡ k = sym is.3.version.2 ∙ ap (λ (v : KeyVersion). v.key) version ∙ same in
        let then : is.2 ≡ of.version.commit = sym is.3.version.3 ∙ ap (λ (v : KeyVersion). v.commit) version in (
          subst (Looked h t k) then (subst (λ x. Looked h t x is.2) here (subst (λ x. Looked h x is.1 is.2) own is.4)),
          subst Within here is.5,
          same,
        )

    -- who looked at a version saw its position, or passed over the key
    pub saw_at : (i j t k c u : ℕ) → IsCommittedAt h i t → IsKeyAt h j k → Looked h t k c → Wrote h u k → Within k
        → ((p : ℕ) × SawPosition a i p × (of : IsOfKey h j p) × (of.version.commit ≡ c)) ⊎ ((c ≡ 0) × Missed a i j)
    saw_at i j t k c u txn key look wrote within = elim (are.each t k c u look wrote within) [
      | inl is ↦
          let number = one_committed_number h is.0 i t is.2.txn txn in
          let v = is.2.version in
          inl (is.1, subst (λ n. SawPosition a n is.1) number is.2.saw, record { version = v.0; at = v.1; key = subst (IsKeyAt h j) (sym v.2) key }, v.3)
      | inr is ↦
          let number = one_committed_number h is.1 i t is.2.txn txn in
          let own = one_key_number h is.2.key.0 j k is.2.key.1 key in
          inr (is.0, subst (λ n. Missed a n j) number (subst (Missed a is.1) own is.2.key.2))
    ]

    module _ (i j u t k x : ℕ) (src : IsCommittedAt h i t) (dst : IsCommittedAt h u x) (key : IsKeyAt h j k) where
      apart : u ≢ i → t ≢ x
      apart other same = other (one_committed_number h u i x dst (subst (IsCommittedAt h i) same src))

      -- what is told is an edge
      pub told_is_edge : (kind : Kind) → IsToldEdge h a kind i u j → EdgeOfKind h kind t x k
      told_is_edge Ww (q, p, m, n, less) =
          let first = of_made i j q t k src key m in
          let second = of_made u j p x k dst key n in
          (first.0.0, second.0.0, (m.version.commit, n.version.commit, first.0.1, second.0.1, by_commit h q p m.version n.version m.at n.at (first.1 ∙ sym second.1) less))
      told_is_edge Wr (other, q, p, m, saw, of, most) =
          let first = of_made i j q t k src key m in
          let look = look_at u p j x k dst key saw of in
          wr_from_look h wf k t x of.version.commit m.version.commit (apart other) first.0.0 first.0.1 look.0 (by_commit_from h q p m.version of.version m.at of.at (first.1 ∙ sym look.2) most)
      told_is_edge Rw (other, p, n, inl (q, saw, of, less)) =
          let second = of_made u j p x k dst key n in
          let look = look_at i q j t k src key saw of in
          rw_from_look h wf k t x of.version.commit n.version.commit (apart other) second.0.0 second.0.1 look.0 (by_commit h q p of.version n.version of.at n.at (look.2 ∙ sym second.1) less)
      told_is_edge Rw (other, p, n, inr missed) =
          let second = of_made u j p x k dst key n in
          let is = are.missed i j missed in
          let own = one_committed h i is.0 t is.2 src in
          let here = one_key h j is.1 k is.3 key in
          rw_from_look h wf k t x 0 n.version.commit (apart other) second.0.0 second.0.1 (subst (λ y. Looked h t y 0) here (subst (λ y. Looked h y is.1 0) own is.4)) n.made

      -- and what comes of what was seen is within
      pub told_within : (kind : Kind) → kind ≢ Ww → IsToldEdge h a kind i u j → Within k
      told_within Ww other told = absurd (other refl)
      told_within Wr other (o, q, p, m, saw, of, most) = (look_at u p j x k dst key saw of).1
      told_within Rw other (o, p, n, inl (q, saw, of, less)) = (look_at i q j t k src key saw of).1
      told_within Rw other (o, p, n, inr missed) = let is = are.missed i j missed in subst Within (one_key h j is.1 k is.3 key) is.5

      -- each edge within is told
      module _ (versions : List KeyVersion) (all : AreAllVersions h versions) (within : Within k) where
        numbers_apart : t ≢ x → u ≢ i
        numbers_apart other same = other (one_committed h i t x src (subst (λ n. IsCommittedAt h n x) same dst))

        pub edge_is_told : (kind : Kind) → EdgeOfKind h kind t x k → IsToldEdge h a kind i u j
        edge_is_told Ww edge =
            let first = made_at versions all i j t k edge.2.0 src key (edge.0, edge.2.2) in
            let second = made_at versions all u j x k edge.2.1 dst key (edge.1, edge.2.3) in
            let a = first.2 in (
              first.0,
              second.0,
              first.1,
              second.1,
              by_position h first.0 second.0 first.1.version second.1.version first.1.at second.1.at (ap (λ (v : KeyVersion). v.key) (first.2) ∙ sym (ap (λ (v : KeyVersion). v.key) second.2))
                  (subst (λ (v : KeyVersion). v.commit < second.1.version.commit) (sym first.2) (subst (λ (v : KeyVersion). edge.2.0 < v.commit) (sym second.2) edge.2.4)),
            )
        edge_is_told Wr edge = wr_told (look_of_wr h wf k t x edge)
          where
            wr_told : (c : ℕ) × (d : ℕ) × CommitsAt h t d × Looked h x k c × (d ≤ c) → IsToldEdge h a Wr i u j
            wr_told (c, d, at, look, most) =
                let first = made_at versions all i j t k d src key (edge.1.0, at) in
                elim (saw_at u j x k c t dst key look edge.1.0 within) [
                  | inl saw ↦ (numbers_apart edge.0, first.0, saw.0, first.1, saw.1, saw.2, wr_below first.0 saw.0 first.1 saw.2 first.2 (subst (λ n. d ≤ n) (sym saw.3) most))
                  | inr none ↦ absurd (let above = (place_within h d (Commit t) at).0 in let zero = none.0 in omega arith)
                ]
              where
                wr_below : (q p : ℕ) (m : IsMadeAt h i j q) (of : IsOfKey h j p) → m.version ≡ record { key = k; commit = d; txn = t } → d ≤ of.version.commit → q ≤ p
                wr_below q p m of is le = elim (cases_lt p q) [
                  | inl less ↦ absurd (let more = by_commit h p q of.version m.version of.at m.at (one_key h j of.version.key m.version.key of.key m.key) less in let e = ap (λ (v : KeyVersion). v.commit) is in omega arith)
                  | inr most ↦ most
                ]
        edge_is_told Rw edge = rw_told (look_of_rw h wf k t x edge)
          where
            rw_told : (c : ℕ) × (d : ℕ) × CommitsAt h x d × Looked h t k c × (c < d) → IsToldEdge h a Rw i u j
            rw_told (c, d, at, look, less) =
                let second = made_at versions all u j x k d dst key (edge.2.0, at) in
                let commit = ap (λ (v : KeyVersion). v.commit) second.2 in
                elim (saw_at i j t k c x src key look edge.2.0 within) [
                  | inl saw ↦
                      let same = saw.3 in (
                        numbers_apart edge.0,
                        second.0,
                        second.1,
                        inl (
                          saw.0,
                          saw.1,
                          saw.2,
                          by_position h saw.0 second.0 saw.2.version second.1.version saw.2.at second.1.at (one_key h j saw.2.version.key second.1.version.key saw.2.key second.1.key) (omega arith),
                        ),
                      )
                  | inr none ↦ (numbers_apart edge.0, second.0, second.1, inr none.1)
                ]
