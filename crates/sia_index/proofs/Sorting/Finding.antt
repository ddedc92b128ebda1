-- What a search of rows that ascend by a number didn't find.
use Rattle.std.proofs.Common.{◌≡◌, ◌≢◌, inl, inr, ℕ, ◌<◌, List, length, subst, arith}
use Rattle.std.specs.Prelude.{All, slice_index_or}
use Rattle.std.proofs.lemmas.Bool.{cases_lt}
use Rattle.sia_index.proofs.Shared.Ordered.{AscendsBy}
use Rattle.sia_index.proofs.Sorting.Points.{PointBelow, point_below, point_from}

pub not_found : {A : Type 0} (by : A → ℕ) (rows : List A) → AscendsBy by rows → (number at : ℕ) → PointBelow by rows number at → (at < length rows → (d : A) → by (slice_index_or rows at d) ≢ number) → All (λ row. by row ≢ number) rows
not_found by rows up number at point other k d below same = elim (cases_lt k at) [
  | inl before ↦ let under = point_below by rows number at point k d below before in omega arith
  | inr after ↦ elim (cases_lt at k) [
    | inl behind ↦
        let over = point_from by rows number at point at d (omega arith) (omega arith) in
        let more : by (slice_index_or rows at d) < by (slice_index_or rows k d) = up at k d behind below in
        omega arith
    | inr here ↦
        let is : k ≡ at = omega arith in
        other (omega arith) d (subst (λ n. by (slice_index_or rows n d) ≡ number) is same)
  ]
]
