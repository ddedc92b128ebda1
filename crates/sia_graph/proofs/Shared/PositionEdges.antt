-- The edges of a history by positions: those of a key's versions ascend with their commits, so what was made and what was seen at
-- which position tells each edge.
use Rattle.std.proofs.Common.{◌≡◌, ◌≢◌, ◌⊎◌, inl, inr, ℕ, ◌<◌, ◌≤◌, List, refl, ap, sym, subst, ◌∙◌, arith}
use Rattle.std.specs.Prelude.{◌↔◌, ⊤}
use Rattle.std.proofs.lemmas.Bool.{cases_lt}
use Rattle.sia_events.specs.declared.event.Event.{Event}
use Rattle.sia_events.specs.Dependencies.{WwEdge, WrEdge, RwEdge}
use Rattle.sia_events.specs.NarrowDependencies.{CommitsVersion, Looked}
use Rattle.sia_events.specs.Refusals.{IsWellFormed}
use Rattle.sia_index.specs.Numbers.{IsCommittedAt}
use Rattle.sia_index.specs.Positions.{AreAllVersions, IsAtPosition}
use Rattle.sia_index.specs.declared.info.KeyVersion.{KeyVersion}
use Rattle.sia_parts.specs.Accesses.{AreAccesses, IsLook, IsPassing, SawPosition}
use Rattle.sia_parts.specs.declared.accesses.Accesses.{Accesses}
use Rattle.sia_parts.proofs.Auditing.AsOf.{commit_positive}
use Rattle.sia_parts.proofs.EdgeRows.PositionOrder.{ascends_at, by_commit as commits_less, by_commit_from as commits_most, by_position as positions_less, one_version as one_at, position_of}
use Rattle.sia_parts.proofs.EdgeRows.Sources.{look_of_rw as rw_look, look_of_wr as wr_look, rw_from_look as rw_of_look, wr_from_look as wr_of_look}
use Rattle.sia_parts.proofs.Shared.OneNumber.{one_committed as one_txn_at, one_key as one_key_at}
use Rattle.sia_parts.proofs.Shared.BadWrites.{made_version}

pub positions_most : (h : List Event) (p q : ℕ) (v w : KeyVersion) → IsAtPosition h p v → IsAtPosition h q w → v.key ≡ w.key → v.commit ≤ w.commit → p ≤ q
positions_most h p q v w at other same most = elim (cases_lt q p) [
  | inl more ↦ let l = commits_less h q p w v other at (sym same) more in absurd (omega arith)
  | inr le ↦ le
]

-- keys don't descend along the positions
pub keys_rise : (h : List Event) (p q : ℕ) (v w : KeyVersion) → IsAtPosition h p v → IsAtPosition h q w → p < q → v.key ≤ w.key
keys_rise h p q v w at other less = elim (ascends_at h p q v w at other less) [ inl under ↦ omega arith | inr same ↦ let e = same.0 in omega arith ]

-- t made the version of k at position q
abbrev pub MadeAt : List Event → ℕ → ℕ → ℕ → Type 0
MadeAt h q t k = (v : KeyVersion) × IsAtPosition h q v × (v.key ≡ k) × (v.txn ≡ t) × (0 < v.commit)

-- t, by its number, saw the version of k at position q
abbrev pub SeenAt : List Event → Accesses → ℕ → ℕ → ℕ → Type 0
SeenAt h a q t k = (i : ℕ) × SawPosition a i q × IsCommittedAt h i t × (v : KeyVersion) × IsAtPosition h q v × (v.key ≡ k)

module _ (h : List Event) (wf : IsWellFormed h) where
  -- a committed transaction's sight of a key as of place c is a wr edge from each other writer up to there, and each wr edge is so
  pub wr_from_look : (k t u c d : ℕ) → t ≢ u → CommitsVersion h k t d → Looked h u k c → d ≤ c → WrEdge h t u k
  wr_from_look k t u c d other made look le = wr_of_look h wf k t u c d other made.0 made.1 look le

  pub look_of_wr : (k t u : ℕ) → WrEdge h t u k → (c : ℕ) × (d : ℕ) × CommitsVersion h k t d × Looked h u k c × (d ≤ c)
  look_of_wr k t u edge = let l = wr_look h wf k t u edge in (l.0, l.1, (edge.1.0, l.2), l.3, l.4)

  -- and it is a rw edge to each other writer after it, and each rw edge is so
  pub rw_from_look : (k t u c d : ℕ) → t ≢ u → CommitsVersion h k u d → Looked h t k c → c < d → RwEdge h t u k
  rw_from_look k t u c d other made look less = rw_of_look h wf k t u c d other made.0 made.1 look less

  pub look_of_rw : (k t u : ℕ) → RwEdge h t u k → (c : ℕ) × (d : ℕ) × CommitsVersion h k u d × Looked h t k c × (c < d)
  look_of_rw k t u edge = let l = rw_look h wf k t u edge in (l.0, l.1, (edge.2.0, l.2), l.3, l.4)

  -- what was made at a position was committed, and each version that was has a position
  pub made_commits : (q t k : ℕ) → (m : MadeAt h q t k) → CommitsVersion h k t m.0.commit
  made_commits q t k m = subst (λ u. CommitsVersion h k u m.0.commit) m.3 (subst (λ j. CommitsVersion h j m.0.txn m.0.commit) m.2 (made_version h q m.0 m.1 m.4))

  module _ (versions : List KeyVersion) (are_all : AreAllVersions h versions) where
    pub made_at : (k t c : ℕ) → CommitsVersion h k t c → (q : ℕ) × (m : MadeAt h q t k) × (m.0.commit ≡ c)
    made_at k t c made =
        let w = position_of h versions are_all (record { key = k; commit = c; txn = t }) (inr made) in
        (w.0, (record { key = k; commit = c; txn = t }, w.1, refl, refl, commit_positive h wf t c made.1), refl)

    -- t ww u: their positions ascend
    pub ww_positions : (t u k : ℕ) → WwEdge h t u k ↔ ((p q : ℕ) × MadeAt h p t k × MadeAt h q u k × (p < q))
    ww_positions t u k = (
      (λ edge.
          let c = edge.2 in
          let a = made_at k t c.0 (edge.0, c.2) in
          let b = made_at k u c.1 (edge.1, c.3) in
          (a.0, b.0, a.1, b.1, positions_less h a.0 b.0 a.1.0 b.1.0 a.1.1 b.1.1 (a.1.2 ∙ sym b.1.2) (omega arith))),
      (λ w.
          let a = made_commits w.0 t k w.2 in
          let b = made_commits w.1 u k w.3 in
          (a.0, b.0, (w.2.0.commit, w.3.0.commit, a.1, b.1, commits_less h w.0 w.1 w.2.0 w.3.0 w.2.1 w.3.1 (w.2.2 ∙ sym w.3.2) w.4))),
    )

    module _ (a : Accesses) (are : AreAccesses h (λ _. ⊤) a) where
      -- what was seen at a position was looked at as of its commit
      pub seen_looked : (q t k : ℕ) → (s : SeenAt h a q t k) → Looked h t k s.3.commit
      seen_looked q t k s =
          let w = are.saw s.0 q s.1 in
          let look = w.3 in
          let x = look.version in
          let same = one_at h q x.0 s.3 x.1 s.4 in
          subst (λ c. Looked h t k c) (sym x.3 ∙ ap (λ (y : KeyVersion). y.commit) same)
          (subst (λ j. Looked h t j w.2) (sym x.2 ∙ ap (λ (y : KeyVersion). y.key) same ∙ s.5)
          (subst (λ v. Looked h v w.1 w.2) (one_txn_at h s.0 w.0 t look.txn s.2) w.4))

      pub passed_looked : (i t k : ℕ) → IsPassing h a i t k → Looked h t k 0
      passed_looked i t k p =
          let w = are.missed i p.key.0 p.key.2 in
          subst (λ j. Looked h t j 0) (one_key_at h p.key.0 w.1 k w.3 p.key.1) (subst (λ v. Looked h v w.1 0) (one_txn_at h i w.0 t w.2 p.txn) w.4)

      look_seen : (i q t k c : ℕ) → IsLook h a i q t k c → (s : SeenAt h a q t k) × (s.3.commit ≡ c)
      look_seen i q t k c l = let x = l.version in ((i, l.saw, l.txn, x.0, x.1, x.2), x.3)

      -- t wr u: u saw a position at or above t's
      pub wr_positions : (t u k : ℕ) → WrEdge h t u k ↔ ((t ≢ u) × (p q : ℕ) × MadeAt h p t k × SeenAt h a q u k × (p ≤ q))
      wr_positions t u k = (
        (λ edge.
            let l = look_of_wr k t u edge in
            let m = made_at k t l.1 l.2 in
            elim (are.each u k l.0 t l.3 l.2.0 tt) [
              | inl s ↦
                  let x = look_seen s.0 s.1 u k l.0 s.2 in
                  (edge.0, m.0, s.1, m.1, x.0, positions_most h m.0 s.1 m.1.0 x.0.3 m.1.1 x.0.4 (m.1.2 ∙ sym x.0.5) (omega arith))
              | inr none ↦ let zero = none.0 in absurd (omega arith)
            ]),
        (λ w.
            wr_from_look k t u w.4.3.commit w.3.0.commit w.0 (made_commits w.1 t k w.3) (seen_looked w.2 u k w.4) (commits_most h w.1 w.2 w.3.0 w.4.3 w.3.1 w.4.4 (w.3.2 ∙ sym w.4.5) w.5)),
      )

      -- t rw u: t saw a position below u's, or passed over the key, and u made a version of it
      pub rw_positions : (t u k : ℕ) → RwEdge h t u k ↔ ((t ≢ u) × (q : ℕ) × MadeAt h q u k × (((p : ℕ) × SeenAt h a p t k × (p < q)) ⊎ ((i : ℕ) × IsPassing h a i t k)))
      rw_positions t u k = (
        (λ edge.
            let l = look_of_rw k t u edge in
            let m = made_at k u l.1 l.2 in
            let less = l.4 in (
              edge.0,
              m.0,
              m.1,
              elim (are.each t k l.0 u l.3 l.2.0 tt) [
                | inl s ↦
                    let x = look_seen s.0 s.1 t k l.0 s.2 in
                    inl (s.1, x.0, positions_less h s.1 m.0 x.0.3 m.1.0 x.0.4 m.1.1 (x.0.5 ∙ sym m.1.2) (omega arith))
                | inr none ↦ inr (none.1, none.2)
              ],
            )),
        (λ w.
            let m = made_commits w.1 u k w.2 in
            elim w.3 [
              | inl s ↦ rw_from_look k t u s.1.3.commit w.2.0.commit w.0 m (seen_looked s.0 t k s.1) (commits_less h s.0 w.1 s.1.3 w.2.0 s.1.4 w.2.1 (s.1.5 ∙ sym w.2.2) s.2)
              | inr p ↦ rw_from_look k t u 0 w.2.0.commit w.0 m (passed_looked p.0 t k p.1) w.2.4
            ]),
      )
