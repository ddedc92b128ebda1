-- What the rows of all versions in order say of one another.
use Rattle.std.proofs.Common.{◌≡◌, ◌≢◌, ◌⊎◌, inl, inr, ℕ, ◌-◌, ◌<◌, ◌≤◌, List, [], ◌∷◌, length, map, sym, subst, ◌∙◌, ap, arith, slice_get}
use Rattle.std.specs.Prelude.{All, AllPairs, slice_index, slice_index_or}
use Rattle.std.proofs.lemmas.List.{get_or-map, length-map}
use Rattle.std.proofs.lemmas.Option.{slice_get_within}
use Rattle.sia_events.specs.declared.event.Event.{Event}
use Rattle.sia_events.specs.Lists.{Precedes}
use Rattle.sia_events.specs.Numbering.{writes_of}
use Rattle.sia_events.specs.Refusals.{IsWellFormed}
use Rattle.sia_events.specs.Transactions.{CommitsAt}
use Rattle.sia_events.proofs.Writing.WellFormed.{one_commit}
use Rattle.sia_index.specs.declared.info.KeyVersion.{KeyVersion}
use Rattle.sia_index.specs.declared.versions.VersionRow.{VersionRow}
use Rattle.sia_index.specs.Info.{AreWrittenKeys}
use Rattle.sia_index.specs.VersionRows.{AreRowsByPosition, IsVersionRow, version_of}
use Rattle.sia_index.proofs.VersionRows.DealtVersions.{is_made, is_zero}
use Rattle.sia_index.proofs.Shared.NumberedNames.{same_some}

module _ (h : List Event) (wf : IsWellFormed h) (committed keys : List ℕ) (keys_are : AreWrittenKeys h keys) (rows : List VersionRow) (are : AreRowsByPosition h committed keys rows) where
  pub keys_within : All (λ row. row.key < length keys) rows
  keys_within i d below = (are.right i d below).0

  pub writes_within : All (λ row. row.write ≤ length (writes_of h)) rows
  writes_within i d below = of_row (slice_index_or rows i d) (are.right i d below)
    where
      of_row : (row : VersionRow) → IsVersionRow h committed keys row → row.write ≤ length (writes_of h)
      of_row row (inside, inl none) = let e = none.0 in omega arith
      of_row row (inside, inr made) = let some = made.0 in let b = slice_get_within (writes_of h) (row.write - 1) (slice_index keys row.key, made.1) made.2 in omega arith

  -- one stands before another by key, and then by commit
  pub order : (i j : ℕ) (d : VersionRow) → i < j → j < length rows → (slice_index keys (slice_index_or rows i d).key < slice_index keys (slice_index_or rows j d).key)
      ⊎ ((slice_index keys (slice_index_or rows i d).key ≡ slice_index keys (slice_index_or rows j d).key) × ((slice_index_or rows i d).commit < (slice_index_or rows j d).commit))
  order i j d less below =
      let long = length-map rows (version_of h keys) in
      let e : KeyVersion = version_of h keys d in
      of_precedes (subst (λ (v : KeyVersion). Precedes (slice_index keys (slice_index_or rows i d).key ∷ (slice_index_or rows i d).commit ∷ []) (v.key ∷ v.commit ∷ [])) (get_or-map (version_of h keys) rows j d e below)
      (subst (λ (v : KeyVersion). Precedes (v.key ∷ v.commit ∷ []) ((slice_index_or (map (version_of h keys) rows) j e).key ∷ (slice_index_or (map (version_of h keys) rows) j e).commit ∷ [])) (get_or-map (version_of h keys) rows i d e (omega arith)) (are.listed.ascending i j e less (omega arith))))
    where
      of_precedes : {k l c e : ℕ} → Precedes (k ∷ c ∷ []) (l ∷ e ∷ []) → (k < l) ⊎ ((k ≡ l) × (c < e))
      of_precedes (inl key) = inl key
      of_precedes (inr (key, inl commit)) = inr (key, commit)
      of_precedes (inr (key, inr rest)) = absurd rest.1

  pub zeros_apart : AllPairs (λ x y. x.write ≡ 0 → y.write ≡ 0 → x.key ≢ y.key) rows
  zeros_apart i j d less below a b same =
      let x = is_zero h wf committed keys keys_are (slice_index_or rows i d) (are.right i d (omega arith)) a in
      let y = is_zero h wf committed keys keys_are (slice_index_or rows j d) (are.right j d below) b in
      let name = ap (slice_index keys) same in
      elim (order i j d less below) [ inl key ↦ omega arith | inr rest ↦ let commit = rest.1 in omega arith ]

  pub writes_apart : AllPairs (λ x y. 0 < x.write → x.write ≢ y.write) rows
  writes_apart i j d less below some same =
      let x = is_made h wf committed keys keys_are (slice_index_or rows i d) (are.right i d (omega arith)) some in
      let y = is_made h wf committed keys keys_are (slice_index_or rows j d) (are.right j d below) (omega arith) in
      let at : (slice_index_or rows i d).write - 1 ≡ (slice_index_or rows j d).write - 1 = omega arith in
      let pair = same_some (slice_index keys (slice_index_or rows i d).key, x.1) (slice_index keys (slice_index_or rows j d).key, y.1) (sym x.2 ∙ ap (slice_get (writes_of h)) at ∙ y.2) in
      let name : slice_index keys (slice_index_or rows i d).key ≡ slice_index keys (slice_index_or rows j d).key = ap (λ (p : ℕ × ℕ). p.0) pair in
      let txn : x.1 ≡ y.1 = ap (λ (p : ℕ × ℕ). p.1) pair in
      let commit = one_commit h wf y.1 (slice_index_or rows i d).commit (slice_index_or rows j d).commit (subst (λ t. CommitsAt h t (slice_index_or rows i d).commit) txn x.3) y.3 in
      elim (order i j d less below) [ inl key ↦ omega arith | inr rest ↦ let under = rest.1 in omega arith ]
