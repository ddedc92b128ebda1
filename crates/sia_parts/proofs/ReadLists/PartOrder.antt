-- The parts of a cutting, one after another.
use Rattle.std.proofs.Common.{◌≡◌, inl, inr, ℕ, zero, suc, ◌-◌, ◌<◌, List, [], ◌∷◌, length, refl, ap, ◌∙◌, arith}
use Rattle.std.specs.Prelude.{AllPairs, slice_index, slice_index_or}
use Rattle.std.specs.List.Sorted.{IsNonDecreasingBy}
use Rattle.std.proofs.lemmas.Bool.{cases_lt}
use Rattle.std.proofs.lemmas.List.Kept.{AllPairs-from_increasing}
use Rattle.sia_parts.specs.declared.cutting.Part.{Part}
use Rattle.sia_parts.specs.Parts.{parts_from, IsCutting}
use Rattle.sia_parts.proofs.CutKeys.PartLemmas.{length-parts_from}
use Rattle.sia_parts.proofs.CutKeys.StartLemmas.{increasing}

lo_at : (starts : List ℕ) (j : ℕ) (d : Part) → j < length starts → (slice_index_or (parts_from starts) j d).lo ≡ slice_index starts j
lo_at [] j d below = absurd (omega arith)
lo_at (s ∷ []) zero d below = refl
lo_at (s ∷ []) (suc j) d below = absurd (omega arith)
lo_at (s ∷ next ∷ rest) zero d below = refl
lo_at (s ∷ next ∷ rest) (suc j) d below = lo_at (next ∷ rest) j d (omega arith)

hi_at : (starts : List ℕ) (j : ℕ) (d : Part) → suc j < length starts → (slice_index_or (parts_from starts) j d).hi ≡ slice_index starts (suc j) - 1
hi_at [] j d below = absurd (omega arith)
hi_at (s ∷ []) j d below = absurd (omega arith)
hi_at (s ∷ next ∷ rest) zero d below = refl
hi_at (s ∷ next ∷ rest) (suc j) d below = hi_at (next ∷ rest) j d (omega arith)

module _ (points : List ℕ) (parts : List Part) (cutting : IsCutting points parts) where
  abbrev starts : List ℕ
  starts = cutting.0

  up : (i j : ℕ) → i < j → j < length starts → slice_index starts i < slice_index starts j
  up i j less below = AllPairs-from_increasing starts (increasing starts cutting.1.ascending) i j 0 less below

  long : length parts ≡ length starts
  long = ap length cutting.2 ∙ length-parts_from starts

  -- the first keys ascend
  pub firsts_rise : IsNonDecreasingBy (λ p. p.lo) parts
  firsts_rise i j d le below =
      let inside : j < length starts = let e = long in omega arith in
      let one = ap (λ ps. (slice_index_or ps i d).lo) cutting.2 ∙ lo_at starts i d (omega arith) in
      let other = ap (λ ps. (slice_index_or ps j d).lo) cutting.2 ∙ lo_at starts j d inside in
      elim (cases_lt i j) [
        | inl less ↦ let u = up i j less inside in omega arith
        | inr same ↦ let is : i ≡ j = omega arith in let e = ap (λ n. (slice_index_or parts n d).lo) is in omega arith
      ]

  -- and each part ends before the next one
  pub parts_apart : AllPairs (λ p q. p.hi < q.lo) parts
  parts_apart i j d less below =
      let inside : j < length starts = let e = long in omega arith in
      let one = ap (λ ps. (slice_index_or ps i d).hi) cutting.2 ∙ hi_at starts i d (omega arith) in
      let other = ap (λ ps. (slice_index_or ps j d).lo) cutting.2 ∙ lo_at starts j d inside in
      let above : slice_index starts i < slice_index starts (suc i) = up i (suc i) (omega arith) (omega arith) in
      elim (cases_lt (suc i) j) [
        | inl later ↦ let u : slice_index starts (suc i) < slice_index starts j = up (suc i) j later inside in omega arith
        | inr next ↦ let is : suc i ≡ j = omega arith in let e = ap (λ n. slice_index starts n) is in omega arith
      ]
