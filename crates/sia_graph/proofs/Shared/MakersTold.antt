-- The numbers of makers, by what an index answers.
use Rattle.std.proofs.Common.{◌≡◌, ℕ, Bool, eqb, ◌<◌, ◌≤◌, List, Option, Some, None, ap, sym, subst, arith, ◌↔◌, IsTrue, MatchOption}
use Rattle.std.specs.Option.{option_eq}
use Rattle.std.proofs.lemmas.Bool.{cases_lt, eq-eqb, eqb-true, false≢true}
use Rattle.std.proofs.lemmas.Option.{none-some, same_Some}
use Rattle.sia_events.specs.declared.event.Event.{Event}
use Rattle.sia_events.specs.NarrowDependencies.{CommitsVersion, IsNextVersion}
use Rattle.sia_events.specs.Refusals.{IsWellFormed}
use Rattle.sia_events.proofs.OfLaws.Endings.{one_committer}
use Rattle.sia_events.proofs.OfLaws.Looks.{commits_above}
use Rattle.sia_events.proofs.Writing.WellFormed.{one_commit}
use Rattle.sia_index.specs.declared.info.KeyVersion.{KeyVersion}
use Rattle.sia_index.specs.Numbers.{IsCommittedAt}
use Rattle.sia_index.specs.Positions.{IsAtPosition, NoneBehind}
use Rattle.sia_index.specs.Info.{IsKeyAt}
use Rattle.sia_graph.specs.Makers.{IsFirstMaker, IsMaker, IsMakerBefore, IsNextMaker}
use Rattle.sia_graph.proofs.Shared.Numbered.{commits_at, one_next}
use Rattle.sia_parts.proofs.Shared.OneNumber.{one_committed_number as one_number, one_key as one_key_at}
use Rattle.sia_parts.proofs.EdgeRows.PositionOrder.{one_version as one_at}

-- whether a number is the one that was found
pub is_told : (found : Option ℕ) (i : ℕ) (r : Bool) → r ≡ option_eq eqb found (Some i) → IsTrue r ↔ (found ≡ Some i)
is_told found i r p = grind (arith, false≢true, none-some, eqb-true, eq-eqb, same_Some)

module _ (h : List Event) (q : ℕ) (v : KeyVersion) (at : IsAtPosition h q v) where
  pub maker_told : (found : Option ℕ) → MatchOption found (v.commit ≡ 0) (λ i. (0 < v.commit) × IsCommittedAt h i v.txn) → (i : ℕ) → (found ≡ Some i) ↔ IsMaker h q i
  maker_told None none i = (
    (λ e. absurd (none-some i e)),
    (λ m. absurd (let e = ap (λ (x : KeyVersion). x.commit) (one_at h q m.0 v m.1 at) in let p = m.2 in omega arith)),
  )
  maker_told (Some j) some i = (
    (λ e. (v, at, some.0, subst (λ n. IsCommittedAt h n v.txn) (same_Some j i e) some.1)),
    (λ m. ap Some (one_number h j i v.txn some.1 (subst (λ (x : KeyVersion). IsCommittedAt h i x.txn) (one_at h q m.0 v m.1 at) m.3))),
  )

  pub none_next : NoneBehind h v.key v.commit → (i : ℕ) → ¬ IsNextMaker h q i
  none_next none i m =
      let next = subst (λ (x : KeyVersion). IsNextVersion h x.key x.commit m.2) (one_at h q m.0 v m.1 at) m.3 in
      omega (arith, none m.2 next.0 next.1)

  -- who made the version at the next position
  pub next_told : (p : ℕ) (w : KeyVersion) → IsAtPosition h p w → 0 < w.commit → IsNextVersion h v.key v.commit w.txn → (i : ℕ) → IsMaker h p i ↔ IsNextMaker h q i
  next_told p w atw some next i = (
    (λ m. (v, at, w.txn, next, subst (λ (x : KeyVersion). IsCommittedAt h i x.txn) (one_at h p m.0 w m.1 atw) m.3)),
    (λ m.
        let same : m.2 ≡ w.txn = one_next h v.key v.commit m.2 w.txn (subst (λ (x : KeyVersion). IsNextVersion h x.key x.commit m.2) (one_at h q m.0 v m.1 at) m.3) next in
        (w, atw, some, subst (IsCommittedAt h i) same m.4)),
  )

  pub none_before : v.commit ≡ 0 → (i : ℕ) → ¬ IsMakerBefore h q i
  none_before none i m = let e = ap (λ (x : KeyVersion). x.commit) (one_at h q m.0 v m.1 at) in let l = m.6 in omega arith

  module _ (wf : IsWellFormed h) where
    -- two versions of a key that one version is next after, and before it, are one
    same_before : (c d u : ℕ) → CommitsVersion h v.key v.txn v.commit → IsNextVersion h v.key c v.txn → c < v.commit → CommitsVersion h v.key u d → d < v.commit → d ≤ c
    same_before c d u made next less other under = grind (arith, cases_lt, one_commit)

    -- who made the version at the position before
    pub before_told : (p : ℕ) (w : KeyVersion) → IsAtPosition h p w → w.key ≡ v.key → w.commit < v.commit → IsNextVersion h v.key w.commit v.txn → (i : ℕ) → IsMaker h p i ↔ IsMakerBefore h q i
    before_told p w atw key less next i = (
      (λ m.
          let same = one_at h p m.0 w m.1 atw in
          let some : 0 < w.commit = subst (λ (x : KeyVersion). 0 < x.commit) same m.2 in
          (v, at, w.txn, w.commit, subst (λ k. CommitsVersion h k w.txn w.commit) key (commits_at h p w atw some), next, less, subst (λ (x : KeyVersion). IsCommittedAt h i x.txn) same m.3)),
      (λ m.
          let is = one_at h q m.0 v m.1 at in
          let made = commits_at h q v at (omega arith) in
          let cv : CommitsVersion h v.key m.2 m.3 = subst (λ (x : KeyVersion). CommitsVersion h x.key m.2 m.3) is m.4 in
          let after : IsNextVersion h v.key m.3 v.txn = subst (λ (x : KeyVersion). IsNextVersion h x.key m.3 x.txn) is m.5 in
          let under : m.3 < v.commit = subst (λ (x : KeyVersion). m.3 < x.commit) is m.6 in
          let low = same_before w.commit m.3 m.2 made next less cv under in
          let some : 0 < m.3 = commits_above h m.2 m.3 cv.1 in
          let wcv = subst (λ k. CommitsVersion h k w.txn w.commit) key (commits_at h p w atw (omega arith)) in
          let high = same_before m.3 w.commit w.txn made after under wcv less in
          let same : m.3 ≡ w.commit = omega arith in
          (w, atw, omega arith, subst (IsCommittedAt h i) (one_committer h m.2 w.txn w.commit (subst (λ c. CommitsVersion h v.key m.2 c) same cv).1 wcv.1) m.7)),
    )

-- who made the next version after version 0 of a key made its first
pub first_told : (h : List Event) (j q : ℕ) (v : KeyVersion) → IsAtPosition h q v → IsKeyAt h j v.key → v.commit ≡ 0 → (i : ℕ) → IsNextMaker h q i ↔ IsFirstMaker h j i
first_told h j q v at key none i = (
  (λ m.
      let next = subst (λ (x : KeyVersion). IsNextVersion h x.key x.commit m.2) (one_at h q m.0 v m.1 at) m.3 in
      (v.key, m.2, key, subst (λ c. IsNextVersion h v.key c m.2) none next, m.4)),
  (λ m.
      (v, at, m.1, subst (λ c. IsNextVersion h v.key c m.1) (sym none) (subst (λ k. IsNextVersion h k 0 m.1) (one_key_at h j m.0 v.key m.2 key) m.3), m.4)),
)
