-- Bad writes of a version, by walking back from it.
use Rattle.std.proofs.Common.{◌≡◌, ◌⊎◌, inl, inr, ℕ, ◌+◌, ◌<◌, ◌≤◌, List, [], ◌∷◌, ◌++◌, Some, length, get_or, refl, ap, sym, subst, ◌∙◌, arith}
use Rattle.std.specs.Prelude.{◌↔◌}
use Rattle.std.specs.List.{slice_get}
use Rattle.std.proofs.lemmas.Bool.{cases_eq, cases_lt}
use Rattle.std.proofs.lemmas.Option.{get_or_from_slice_get, slice_get-get_or, slice_get_within}
use Rattle.sia_events.specs.declared.event.Event.{Event}
use Rattle.sia_events.specs.Isolation.{IsBadWrite}
use Rattle.sia_events.specs.NarrowDependencies.{CommitsVersion, IsNextVersion}
use Rattle.sia_events.specs.Refusals.{IsWellFormed}
use Rattle.sia_events.specs.Transactions.{CommitsAt, StartsAt, Wrote}
use Rattle.sia_events.proofs.OfLaws.Endings.{one_committer}
use Rattle.sia_events.proofs.Worked.OneList.{one_list_by}
use Rattle.sia_events.proofs.Shared.Starts.{one_start}
use Rattle.sia_events.proofs.OfLaws.Versions.{writer_not_zero}
use Rattle.sia_events.proofs.Writing.WellFormed.{one_commit}
use Rattle.sia_index.specs.declared.info.KeyVersion.{KeyVersion}
use Rattle.sia_index.specs.Info.{AreWrittenKeys, IsKeyAt}
use Rattle.sia_index.specs.Positions.{ArePositions, HasPosition, IsAtPosition}
use Rattle.sia_parts.specs.declared.cutting.Part.{Part}
use Rattle.sia_parts.specs.declared.finding.BadWrite.{BadWrite}
use Rattle.sia_parts.specs.Parts.{IsInPart}
use Rattle.sia_parts.specs.Sights.{Adds, IsBadWith}
use Rattle.sia_parts.proofs.Shared.Adding.{adds_nothing, adds_push, adds_same, adds_both}
use Rattle.sia_parts.proofs.Shared.OneNumber.{one_key, one_key_number}
use Rattle.sia_parts.proofs.Auditing.Passing.{has_number, number_before, number_from}
use Rattle.sia_parts.proofs.Auditing.Positions.{at_is_version, at_zero, one_at, version_written}

module _ (h : List Event) where
  -- positions go by key and commit
  module _ (p q : ℕ) (v w : KeyVersion) (at : IsAtPosition h p v) (other : IsAtPosition h q w) (less : p < q) where
    positions_rise : (v.key < w.key) ⊎ ((v.key ≡ w.key) × (v.commit < w.commit))
    positions_rise =
        let versions = at.0 in
        let same = one_list_by _ _ other.0 versions other.1 at.1 in
        let there : slice_get versions q ≡ Some w = subst (λ l. slice_get l q ≡ Some w) same other.2 in
        let below = slice_get_within versions q w there in
        let first : get_or versions p v ≡ v = get_or_from_slice_get versions p v v at.2 in
        let second : get_or versions q v ≡ w = get_or_from_slice_get versions q w v there in
        let up = at.1.ascending p q v less below in
        elim up [
          | inl rise ↦ inl (let a = ap (λ (x : KeyVersion). x.key) first in let b = ap (λ (x : KeyVersion). x.key) second in omega arith)
          | inr (same_key, later) ↦ elim later [
            | inl rise ↦ inr (sym (ap (λ (x : KeyVersion). x.key) first) ∙ same_key ∙ ap (λ (x : KeyVersion). x.key) second, (let a = ap (λ (x : KeyVersion). x.commit) first in let b = ap (λ (x : KeyVersion). x.commit) second in omega arith))
            | inr rest ↦ absurd rest.1
          ]
        ]

  -- the first position of a key parts the keys
  module _ (keys : List ℕ) (are : AreWrittenKeys h keys) (n first : ℕ) (v : KeyVersion) (at : IsAtPosition h first v) (key : IsKeyAt h n v.key) (zero : v.commit ≡ 0) where
    pub before_first : (q j : ℕ) (w : KeyVersion) → IsAtPosition h q w → IsKeyAt h j w.key → (q < first) ↔ (j < n)
    before_first q j w other own = (
      (λ less. elim (positions_rise q first w v other at less) [
        | inl rise ↦ number_before h keys are j n w.key v.key own key rise
        | inr same ↦ absurd (let none = same.1 in omega arith)
      ]),
      (λ less. elim (cases_lt q first) [
        | inl before ↦ before
        | inr after ↦ elim (cases_eq q first) [
          | inl here ↦
              let one : w ≡ v = one_at h first w v (subst (λ m. IsAtPosition h m w) here other) at in
              let number : j ≡ n = one_key_number h j n v.key (subst (IsKeyAt h j) (ap (λ (x : KeyVersion). x.key) one) own) key in
              absurd (omega arith)
          | inr later ↦
              let up : v.key ≤ w.key = elim (positions_rise first q v w at other (omega arith)) [ inl rise ↦ (omega arith) | inr same ↦ (let e = same.0 in omega arith) ] in
              absurd (let over = number_from h keys are n j v.key w.key key own up in omega arith)
        ]
      ]),
    )

  -- and no position is behind the last
  pub before_end : (count q : ℕ) (w : KeyVersion) → ArePositions h count → IsAtPosition h q w → q < count
  before_end count q w all other =
      let same = one_list_by _ _ other.0 all.0 other.1 all.1 in
      let below = slice_get_within other.0 q w other.2 in
      let long = ap length same in
      let is = all.2 in
      omega arith

  -- each position up to another one has a version
  pub has_before : (p q : ℕ) (w : KeyVersion) → IsAtPosition h q w → p ≤ q → HasPosition h p
  has_before p q w at le =
      let below = slice_get_within at.0 q w at.2 in
      (get_or at.0 p w, (at.0, at.1, slice_get-get_or at.0 p w (omega arith)))

  -- the bad writes with a second version whose first one is committed at a place or later
  abbrev pub IsBadFrom : KeyVersion → ℕ → BadWrite → Type 0
  IsBadFrom v c b = IsBadWith h v b × (d : ℕ) × CommitsAt h b.first d × (c ≤ d)

  -- what the versions at positions from one to before another give
  abbrev pub BadBetween : ℕ → ℕ → BadWrite → Type 0
  BadBetween from to b = (q : ℕ) × (v : KeyVersion) × (from ≤ q) × (q < to) × IsAtPosition h q v × IsBadWith h v b

  module _ (wf : IsWellFormed h) where
    -- version 0 is no second version
    pub none_with_zero : (second : ℕ) (v : KeyVersion) → IsAtPosition h second v → v.commit ≡ 0 → (old : List BadWrite) → Adds (IsBadWith h v) old old
    none_with_zero second v at zero old = adds_nothing (IsBadWith h v) old (λ b bad. writer_not_zero h wf b.second b.key bad.2.1 (bad.1 ∙ at_zero h wf second v at zero))

    module _ (v : KeyVersion) where
      -- the first version is committed before the second
      pub none_from_self : CommitsAt h v.txn v.commit → (old : List BadWrite) → Adds (IsBadFrom v v.commit) old old
      none_from_self commits old = adds_nothing (IsBadFrom v v.commit) old (λ b bad.
          let before = bad.0.2.3 in
          let own : before.0 ≡ bad.1 = one_commit h wf b.first before.0 bad.1 before.2 bad.2 in
          let end : before.1 ≡ v.commit = one_commit h wf v.txn before.1 v.commit (subst (λ u. CommitsAt h u before.1) bad.0.1 before.3) commits in
          let less = before.4 in
          let low = bad.3 in
          omega arith)

      -- nothing is before version 0
      pub walked_none : (c : ℕ) → c ≡ 0 → (old new : List BadWrite) → Adds (IsBadFrom v c) old new → Adds (IsBadWith h v) old new
      walked_none c zero old new adds = adds_same (IsBadFrom v c) (IsBadWith h v) old new (λ b is. is.0) (λ b bad. let before = bad.2.3 in (bad, before.0, before.2, omega arith)) adds

      -- a version before w, with none between
      module _ (w x : KeyVersion) (same : x.key ≡ v.key) (next : IsNextVersion h v.key x.commit w.txn) (w_commits : CommitsAt h w.txn w.commit) where
        later : (b : BadWrite) → IsBadWith h v b → (d : ℕ) → CommitsAt h b.first d → x.commit < d → w.commit ≤ d
        later b bad d commits less =
            let own : next.0 ≡ w.commit = one_commit h wf w.txn next.0 w.commit next.1.1 w_commits in
            let far = next.3 b.first d (subst (λ k. Wrote h b.first k) bad.0 bad.2.0, commits) less in
            omega arith

        -- where the walk ends, all are found
        pub walked : (limit : ℕ) → x.commit ≤ limit → ((b : BadWrite) → IsBadWith h v b → (d : ℕ) → CommitsAt h b.first d → limit < d) → (old new : List BadWrite) → Adds (IsBadFrom v w.commit) old new → Adds (IsBadWith h v) old new
        walked limit most late old new adds = adds_same (IsBadFrom v w.commit) (IsBadWith h v) old new (λ b is. is.0)
            (λ b bad. let before = bad.2.3 in (bad, before.0, before.2, later b bad before.0 before.2 (let less = late b bad before.0 before.2 in omega arith)))
            adds

        -- one more
        pub walked_more : CommitsVersion h v.key x.txn x.commit → IsBadWith h v (record { key = v.key; first = x.txn; second = v.txn }) → (old mid : List BadWrite) → Adds (IsBadFrom v w.commit) old mid → Adds (IsBadFrom v x.commit) old (mid ++ record { key = v.key; first = x.txn; second = v.txn } ∷ [])
        walked_more version bad old mid adds = adds_same (λ b. IsBadFrom v w.commit b ⊎ (b ≡ one)) (IsBadFrom v x.commit) old (mid ++ one ∷ [])
            (λ b e. elim e [
              | inl is ↦ (is.0, is.1, is.2, (let low = is.3 in let less = next.2 in let own = one_commit h wf w.txn next.0 w.commit next.1.1 w_commits in omega arith))
              | inr here ↦ subst (IsBadFrom v x.commit) (sym here) (bad, x.commit, version.1, omega arith)
            ])
            (λ b is. elim (cases_eq is.1 x.commit) [
              | inl here ↦
                  let first : b.first ≡ x.txn = one_committer h b.first x.txn x.commit (subst (CommitsAt h b.first) here is.2) version.1 in
                  inr (λ i. record { key = is.0.0 i; first = first i; second = is.0.1 i })
              | inr other ↦ inl (is.0, is.1, is.2, later b is.0 is.1 is.2 (let low = is.3 in omega arith))
            ])
            (adds_both (IsBadFrom v w.commit) (λ b. b ≡ one) old mid (mid ++ one ∷ []) adds (adds_push (λ b. b ≡ one) mid one refl (λ b here. sym here)))
          where
            one : BadWrite
            one = record { key = v.key; first = x.txn; second = v.txn }

    -- the version starts late enough
    pub late_first : (v : KeyVersion) (s : ℕ) → StartsAt h v.txn s → (b : BadWrite) → IsBadWith h v b → (d : ℕ) → CommitsAt h b.first d → s < d
    late_first v s starts b bad d commits =
        let late = bad.2.2 in
        let own : late.0 ≡ s = one_start h v.txn late.0 s (subst (λ u. StartsAt h u late.0) bad.1 late.2) starts in
        let end : late.1 ≡ d = one_commit h wf b.first late.1 d late.3 commits in
        let less = late.4 in
        omega arith

    pub pair_is_bad : (v x : KeyVersion) (s : ℕ) → CommitsVersion h v.key v.txn v.commit → CommitsVersion h v.key x.txn x.commit → x.commit < v.commit → StartsAt h v.txn s → s < x.commit → IsBadWith h v (record { key = v.key; first = x.txn; second = v.txn })
    pair_is_bad v x s second first less starts late = (refl, refl, (first.0, second.0, (s, x.commit, starts, first.1, late), (x.commit, v.commit, first.1, second.1, less)))

    pub between_none : (from : ℕ) (old : List BadWrite) → Adds (BadBetween from from) old old
    between_none from old = adds_nothing (BadBetween from from) old (λ b f. let low = f.2 in let less = f.3 in omega arith)

    pub between_more : (from q : ℕ) (v : KeyVersion) → from ≤ q → IsAtPosition h q v → (old mid new : List BadWrite) → Adds (BadBetween from q) old mid → Adds (IsBadWith h v) mid new → Adds (BadBetween from (q + 1)) old new
    between_more from q v low at old mid new before here = adds_same (λ b. BadBetween from q b ⊎ IsBadWith h v b) (BadBetween from (q + 1)) old new
        (λ b e. elim e [ inl f ↦ (f.0, f.1, f.2, (let less = f.3 in omega arith), f.4, f.5) | inr bad ↦ (q, v, low, omega arith, at, bad) ])
        (λ b f. elim (cases_lt f.0 q) [
          | inl less ↦ inl (f.0, f.1, f.2, less, f.4, f.5)
          | inr more ↦
              let same : f.0 ≡ q = let less = f.3 in omega arith in
              let one : f.1 ≡ v = one_at h q f.1 v (subst (λ n. IsAtPosition h n f.1) same f.4) at in
              inr (subst (λ x. IsBadWith h x b) one f.5)
        ])
        (adds_both (BadBetween from q) (IsBadWith h v) old mid new before here)

    -- all of a part
    pub between_are : (keys : List ℕ) → AreWrittenKeys h keys → (part : Part) (first end : ℕ) → ((j : ℕ) → ((first ≤ j) × (j < end)) ↔ ((k : ℕ) × IsKeyAt h j k × IsInPart part k))
        → (from to : ℕ) (v : KeyVersion) → IsAtPosition h from v → IsKeyAt h first v.key → v.commit ≡ 0 → ((q : ℕ) (w : KeyVersion) (j : ℕ) → IsAtPosition h q w → IsKeyAt h j w.key → (q < to) ↔ (j < end))
        → (b : BadWrite) → BadBetween from to b ↔ (IsBadWrite h b.key b.first b.second × IsInPart part b.key)
    between_are keys are part first end each from to v at key zero parts b = (
      (λ f.
          let x = f.1 in
          let written = version_written h f.0 x f.4 in
          let j = has_number h keys are x.key written.0 written.1 in
          let less = (parts f.0 x j.0 f.4 j.1).0 f.3 in
          let low : first ≤ j.0 = elim (cases_lt j.0 first) [
            | inl before ↦ absurd (let under = (before_first keys are first from v at key zero f.0 j.0 x f.4 j.1).1 before in let over = f.2 in omega arith)
            | inr after ↦ after
          ] in
          let k = (each j.0).0 (low, less) in
          (f.5.2, subst (IsInPart part) (one_key h j.0 k.0 x.key k.1 j.1 ∙ sym f.5.0) k.2)),
      (λ is.
          let bad = is.0 in
          let before = bad.3 in
          let x : KeyVersion = record { key = b.key; commit = before.1; txn = b.second } in
          let c = (at.1.each x).1 (inr (bad.1, before.3)) in
          let q = c.0 in
          let there : IsAtPosition h q x = (at.0, at.1, slice_get-get_or at.0 q x c.1 ∙ ap Some c.2) in
          let j = has_number h keys are b.key b.second bad.1 in
          let within = (each j.0).1 (b.key, j.1, is.1) in
          let low : from ≤ q = elim (cases_lt q from) [
            | inl under ↦ absurd (let less = (before_first keys are first from v at key zero q j.0 x there j.1).0 under in let over = within.0 in omega arith)
            | inr over ↦ over
          ] in
          (q, x, low, (parts q x j.0 there j.1).1 within.1, there, (refl, refl, bad))),
    )

-- a version with a maker was made at its commit
pub made_version : (h : List Event) (q : ℕ) (v : KeyVersion) → IsAtPosition h q v → 0 < v.commit → CommitsVersion h v.key v.txn v.commit
made_version h q v at some = elim (at_is_version h q v at) [ inl zero ↦ absurd (let none = zero.1 in omega arith) | inr version ↦ version ]
