-- The rows of a list whose numbers lie from one to another.
use Rattle.std.specs.Prelude.{◌≡◌, ◌⊎◌, ℕ, ◌≤◌, List, true, false, length, leb, ltb, slice_range}
use Rattle.std.specs.List.Sorted.{IsPartitionPoint}

-- they stand from the first place of a number of at least lo to the first above hi
pub record IsBetween {A : Type 0} (key : A → ℕ) (xs : List A) (lo hi : ℕ) (ys : List A) : Type 0 where
  pub from : ℕ
  pub to : ℕ
  pub end : ℕ
  pub low : IsPartitionPoint (λ x. ltb (key x) lo ≡ true) (λ x. ltb (key x) lo ≡ false) xs from
  pub high : IsPartitionPoint (λ x. leb (key x) hi ≡ true) (λ x. leb (key x) hi ≡ false) xs to
  pub forward : from ≤ end
  pub most : to ≤ end
  pub no_more : (end ≤ to) ⊎ (end ≤ from)
  pub bound : end ≤ length xs
  pub is : ys ≡ slice_range xs from end
