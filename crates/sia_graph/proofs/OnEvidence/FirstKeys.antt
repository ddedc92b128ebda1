-- The keys of which a transaction made the first version, by the positions of its versions.
use Rattle.std.proofs.Common.{◌≡◌, inr, ℕ, ◌<◌, List, [], sym, subst, ◌↔◌, Contains}
use Rattle.sia_events.specs.declared.event.Event.{Event}
use Rattle.sia_events.specs.Lists.{ListsAscending}
use Rattle.sia_index.specs.declared.info.KeyVersion.{KeyVersion}
use Rattle.sia_index.specs.Info.{IsKeyAt}
use Rattle.sia_index.specs.Numbers.{IsCommittedAt}
use Rattle.sia_index.specs.Positions.{ArePositions, IsAtPosition}
use Rattle.sia_parts.specs.Sights.{Adds, FromSome}
use Rattle.sia_parts.proofs.Shared.Adding.{adds_same, added_to_none}
use Rattle.sia_graph.specs.Makers.{IsFirstMaker}
use Rattle.sia_parts.proofs.Shared.OneNumber.{one_key_number, one_committed as one_txn_at}
use Rattle.sia_parts.proofs.EdgeRows.PositionOrder.{one_version as one_at, position_of}

-- position q is of a version of key number j, and number i made the first version of that key
abbrev pub IsFirstKeyAt : List Event → ℕ → ℕ → ℕ → Type 0
IsFirstKeyAt h i q j = (v : KeyVersion) × IsAtPosition h q v × IsKeyAt h j v.key × IsFirstMaker h j i

module _ (h : List Event) (i : ℕ) where
  -- one position more
  pub first_put : (q : ℕ) (v : KeyVersion) → IsAtPosition h q v → (key : ℕ) → IsKeyAt h key v.key → (old new : List ℕ) → Adds (λ j. (j ≡ key) × IsFirstMaker h key i) old new → Adds (IsFirstKeyAt h i q) old new
  first_put q v at key is old new =
      adds_same (λ j. (j ≡ key) × IsFirstMaker h key i) (IsFirstKeyAt h i q) old new
      (λ j p. (v, at, subst (λ n. IsKeyAt h n v.key) (sym p.0) is, subst (λ n. IsFirstMaker h n i) (sym p.0) p.1))
      (λ j p.
      let same : j ≡ key = one_key_number h j key v.key (subst (λ (x : KeyVersion). IsKeyAt h j x.key) (one_at h q p.0 v p.1 at) p.2) is in
      (same, subst (λ n. IsFirstMaker h n i) same p.3))

  -- and all of them
  pub firsts_are : (count t : ℕ) → ArePositions h count → IsCommittedAt h i t → (made : List ℕ) → ListsAscending (λ q. (v : KeyVersion) × IsAtPosition h q v × (0 < v.commit) × (v.txn ≡ t)) made
      → (firsts : List ℕ) → Adds (FromSome (IsFirstKeyAt h i) made) [] firsts → (j : ℕ) → Contains firsts j ↔ IsFirstMaker h j i
  firsts_are count t positions at made are firsts adds j = (
    (λ c. ((added_to_none (FromSome (IsFirstKeyAt h i) made) firsts adds j).0 c).2.3),
    (λ m.
        let w = position_of h positions.0 positions.1 (record { key = m.0; commit = m.3.0; txn = m.1 }) (inr m.3.1) in
        (added_to_none (FromSome (IsFirstKeyAt h i) made) firsts adds j).1
        (w.0, (are.each w.0).1 (record { key = m.0; commit = m.3.0; txn = m.1 }, w.1, m.3.2, one_txn_at h i m.1 t m.4 at), (record { key = m.0; commit = m.3.0; txn = m.1 }, w.1, m.2, m))),
  )
