-- Positions go by key and commit.
use Rattle.std.proofs.Common.{◌≡◌, ◌⊎◌, inl, inr, ℕ, ◌<◌, ◌≤◌, List, Some, ap, sym, subst, ◌∙◌, arith}
use Rattle.std.specs.Prelude.{slice_index_or}
use Rattle.std.specs.List.{slice_get}
use Rattle.std.proofs.lemmas.Bool.{cases_lt}
use Rattle.std.proofs.lemmas.Option.{slice_get_within, get_or_from_slice_get, slice_get-get_or}
use Rattle.sia_events.specs.declared.event.Event.{Event}
use Rattle.sia_events.proofs.Worked.OneList.{one_list_by}
use Rattle.sia_index.specs.declared.info.KeyVersion.{KeyVersion}
use Rattle.sia_index.specs.Info.{IsKeyAt}
use Rattle.sia_index.specs.Positions.{AreAllVersions, ArePositions, HasPosition, IsAtPosition, IsVersion}
use Rattle.sia_parts.specs.EdgeRows.{IsMadeAt, IsOfKey, StandsBehind}
use Rattle.sia_parts.proofs.Shared.OneNumber.{one_key, one_key_number}

module _ (h : List Event) where
  -- all positions are of one list
  pub in_list : (versions : List KeyVersion) → AreAllVersions h versions → (q : ℕ) (v : KeyVersion) → IsAtPosition h q v → slice_get versions q ≡ Some v
  in_list versions are q v at = subst (λ list. slice_get list q ≡ Some v) (one_list_by _ _ at.0 versions at.1 are) at.2

  pub is_version : (q : ℕ) (v : KeyVersion) → IsAtPosition h q v → IsVersion h v
  is_version q v at =
      let below = slice_get_within at.0 q v at.2 in
      (at.1.each v).0 (q, below, get_or_from_slice_get at.0 q v v at.2)

  pub one_version : (q : ℕ) (v w : KeyVersion) → IsAtPosition h q v → IsAtPosition h q w → v ≡ w
  one_version q v w at other = sym (get_or_from_slice_get at.0 q v v at.2) ∙ get_or_from_slice_get at.0 q w v (in_list at.0 at.1 q w other)

  -- a later position has a greater key, or the same one and a greater commit
  pub ascends_at : (q p : ℕ) (v w : KeyVersion) → IsAtPosition h q v → IsAtPosition h p w → q < p → (v.key < w.key) ⊎ ((v.key ≡ w.key) × (v.commit < w.commit))
  ascends_at q p v w at other less =
      let there = in_list at.0 at.1 p w other in
      let first = get_or_from_slice_get at.0 q v v at.2 in
      let second = get_or_from_slice_get at.0 p w v there in
      elim (subst (λ (x : KeyVersion). (x.key < w.key) ⊎ ((x.key ≡ w.key) × ((x.commit < w.commit) ⊎ ((x.commit ≡ w.commit) × ⊥)))) first
      (subst (λ (y : KeyVersion). ((slice_index_or at.0 q v).key < y.key) ⊎ (((slice_index_or at.0 q v).key ≡ y.key) × (((slice_index_or at.0 q v).commit < y.commit) ⊎ (((slice_index_or at.0 q v).commit ≡ y.commit) × ⊥)))) second
      (at.1.ascending q p v less (slice_get_within at.0 p w there)))) [
        | inl under ↦ inl under
        | inr same ↦ elim same.1 [ inl under ↦ inr (same.0, under) | inr none ↦ absurd none.1 ]
      ]

  -- so positions of one key go by commit
  pub by_commit : (q p : ℕ) (v w : KeyVersion) → IsAtPosition h q v → IsAtPosition h p w → v.key ≡ w.key → q < p → v.commit < w.commit
  by_commit q p v w at other same less = elim (ascends_at q p v w at other less) [ inl under ↦ absurd (omega arith) | inr both ↦ both.1 ]

  pub by_position : (q p : ℕ) (v w : KeyVersion) → IsAtPosition h q v → IsAtPosition h p w → v.key ≡ w.key → v.commit < w.commit → q < p
  by_position q p v w at other same less = elim (cases_lt q p) [
    | inl before ↦ before
    | inr not_before ↦ elim (cases_lt p q) [
      | inl behind ↦ let more = by_commit p q w v other at (sym same) behind in absurd (omega arith)
      | inr neither ↦
          let here : p ≡ q = omega arith in
          let one = ap (λ (x : KeyVersion). x.commit) (one_version q v w at (subst (λ n. IsAtPosition h n w) here other)) in
          absurd (omega arith)
    ]
  ]

  pub by_commit_from : (q p : ℕ) (v w : KeyVersion) → IsAtPosition h q v → IsAtPosition h p w → v.key ≡ w.key → q ≤ p → v.commit ≤ w.commit
  by_commit_from q p v w at other same most = elim (cases_lt w.commit v.commit) [
    | inl less ↦ let before = by_position p q w v other at (sym same) less in absurd (omega arith)
    | inr le ↦ le
  ]

  -- a version has a position
  pub position_of : (versions : List KeyVersion) → AreAllVersions h versions → (v : KeyVersion) → IsVersion h v → (q : ℕ) × IsAtPosition h q v
  position_of versions are v is =
      let c = (are.each v).1 is in
      (c.0, (versions, are, slice_get-get_or versions c.0 v c.1 ∙ ap (λ x. Some x) c.2))

  -- as many have one as there are
  pub has_position : (count q : ℕ) → ArePositions h count → q < count → HasPosition h q
  has_position count q are below =
      let d : KeyVersion = record { key = 0; commit = 0; txn = 0 } in
      (slice_index_or are.0 q d, (are.0, are.1, slice_get-get_or are.0 q d (let long = are.2 in omega arith)))

  pub position_below : (count q : ℕ) (v : KeyVersion) → ArePositions h count → IsAtPosition h q v → q < count
  position_below count q v are at = let below = slice_get_within are.0 q v (in_list are.0 are.1 q v at) in let long = are.2 in omega arith

  pub made_of_key : (i j q : ℕ) → IsMadeAt h i j q → IsOfKey h j q
  made_of_key i j q made = record { version = made.version; at = made.at; key = made.key }

  -- positions of one key have versions of it
  pub one_key_of : (j q p : ℕ) (a : IsOfKey h j q) (b : IsOfKey h j p) → a.version.key ≡ b.version.key
  one_key_of j q p a b = one_key h j a.version.key b.version.key a.key b.key

  pub same_number : (i j q : ℕ) → IsOfKey h i q → IsOfKey h j q → i ≡ j
  same_number i j q a b = one_key_number h i j a.version.key a.key (subst (λ (v : KeyVersion). IsKeyAt h j v.key) (one_version q b.version a.version b.at a.at) b.key)

  pub stands_behind : (j q p : ℕ) → q ≤ p → IsOfKey h j q → IsOfKey h j p → StandsBehind h q p
  stands_behind j q p le a b = record { le = le; forth = λ i of. subst (λ n. IsOfKey h n p) (same_number j i q a of) b; back = λ i of. subst (λ n. IsOfKey h n q) (same_number j i p b of) a }

  -- what stands between two positions of a key is of it
  pub between_of_key : (j q p x : ℕ) → IsOfKey h j q → IsOfKey h j x → q ≤ p → p ≤ x → HasPosition h p → IsOfKey h j p
  between_of_key j q p x a b low high here = record { version = here.0; at = here.1; key = subst (IsKeyAt h j) (same_at (cases_lt q p) (cases_lt p x)) a.key }
    where
      ends : a.version.key ≡ b.version.key
      ends = one_key_of j q x a b

      same_at : (q < p) ⊎ (p ≤ q) → (p < x) ⊎ (x ≤ p) → a.version.key ≡ here.0.key
      same_at (inr most) high_or = let is : q ≡ p = omega arith in ap (λ (v : KeyVersion). v.key) (one_version p a.version here.0 (subst (λ n. IsAtPosition h n a.version) is a.at) here.1)
      same_at (inl less) (inr most) = let is : x ≡ p = omega arith in ends ∙ ap (λ (v : KeyVersion). v.key) (one_version p b.version here.0 (subst (λ n. IsAtPosition h n b.version) is b.at) here.1)
      same_at (inl less) (inl more) = elim (ascends_at q p a.version here.0 a.at here.1 less) [
        | inr same ↦ same.0
        | inl under ↦ elim (ascends_at p x here.0 b.version here.1 b.at more) [
          | inl above ↦ absurd (let e = ends in omega arith)
          | inr same ↦ absurd (let e = ends in let f = same.0 in omega arith)
        ]
      ]
