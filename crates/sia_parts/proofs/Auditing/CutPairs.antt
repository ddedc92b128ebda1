-- Listed pairs that ascend by key, cut where their keys reach a number.
use Rattle.std.proofs.Common.{◌≡◌, inl, inr, ℕ, ◌+◌, ◌<◌, ◌≤◌, List, length, get_or, min, ap, arith}
use Rattle.std.specs.Prelude.{◌↔◌, AllPairs, Contains, slice_range}
use Rattle.std.proofs.lemmas.Bool.{cases_lt}
use Rattle.sia_index.proofs.Sorting.Points.{part_gives, part_has, part_pairs}

module _ (key : ℕ → ℕ) (pairs : List ℕ) where
  -- those below number n have keys below the bound, and no others
  pub record IsCutAt (bound n : ℕ) : Type 0 where
    pub within : n ≤ length pairs
    pub below : (i d : ℕ) → i < n → key (get_or pairs i d) < bound
    pub above : (i d : ℕ) → n ≤ i → i < length pairs → bound ≤ key (get_or pairs i d)

  module _ (lo hi first end start : ℕ) (low : IsCutAt lo first) (high : IsCutAt (hi + 1) end) (from : start ≡ min first end) where
    pub those_within : (p : ℕ) → Contains (slice_range pairs start end) p ↔ (Contains pairs p × (lo ≤ key p) × (key p ≤ hi))
    those_within p = (
      (λ c.
          let at = part_gives pairs start end (omega arith) high.within p c in
          let same = ap key at.3 in
          let some = at.1 in
          let less = at.2 in
          let up = high.below at.0 p less in
          let most = high.within in
          let more = low.above at.0 p (omega arith) (omega arith) in
          ((at.0, omega arith, at.3), omega arith, omega arith)),
      (λ w.
          let at = w.0 in
          let same = ap key at.2 in
          let least = w.1 in
          let most = w.2 in
          part_has pairs start end (omega arith) high.within at.0 p
          (elim (cases_lt at.0 first) [ inl less ↦ absurd (let under = low.below at.0 p less in omega arith) | inr more ↦ omega arith ])
          (elim (cases_lt at.0 end) [ inl less ↦ less | inr more ↦ absurd (let over = high.above at.0 p more at.1 in omega arith) ])
          at.2),
    )

    pub pairs_stay : (R : ℕ → ℕ → Type 0) → AllPairs R pairs → AllPairs R (slice_range pairs start end)
    pairs_stay R up = part_pairs pairs start end (omega arith) high.within R up
