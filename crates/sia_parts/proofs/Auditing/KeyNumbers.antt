-- The numbers of the written keys from one to another.
use Rattle.std.proofs.Common.{◌≡◌, inl, inr, ℕ, ◌+◌, ◌<◌, ◌≤◌, List, length, refl, arith}
use Rattle.std.specs.Prelude.{◌↔◌, slice_index}
use Rattle.std.proofs.lemmas.Bool.{cases_lt}
use Rattle.sia_events.specs.declared.event.Event.{Event}
use Rattle.sia_index.specs.Info.{AreWrittenKeys, IsKeyAt}
use Rattle.sia_index.proofs.Shared.KeyChains.{key_number}
use Rattle.sia_index.proofs.Sorting.Points.{PointBelow, point_below, point_from}

-- the keys before the place are at most hi, and the others are above
pub record IsEnd (keys : List ℕ) (hi to : ℕ) : Type 0 where
  pub bound : to ≤ length keys
  pub within : (k : ℕ) → k < to → slice_index keys k ≤ hi
  pub behind : (k : ℕ) → to ≤ k → k < length keys → hi < slice_index keys k

pub end_from : (keys : List ℕ) (hi next to : ℕ) → next ≡ hi + 1 → to ≤ length keys → PointBelow (λ (k : ℕ). k) keys next to → IsEnd keys hi to
end_from keys hi next to is bound point = record {
  bound = bound;
  within = λ k less. let below = point_below (λ (k : ℕ). k) keys next to point k 0 (omega arith) less in omega arith;
  behind = λ k after inside. let from = point_from (λ (k : ℕ). k) keys next to point k 0 after inside in omega arith;
}

pub end_at_all : (keys : List ℕ) (hi to : ℕ) → to ≡ length keys → ((k : ℕ) → k < length keys → slice_index keys k ≤ hi) → IsEnd keys hi to
end_at_all keys hi to is most = record {
  bound = omega arith;
  within = λ k less. most k (omega arith);
  behind = λ k after inside. omega arith;
}

module _ (h : List Event) (keys : List ℕ) (are : AreWrittenKeys h keys) (lo hi from to : ℕ) (low : PointBelow (λ (k : ℕ). k) keys lo from) (high : IsEnd keys hi to) where
  pub numbers_each : (j : ℕ) → ((from ≤ j) × (j < to)) ↔ ((k : ℕ) × IsKeyAt h j k × (lo ≤ k) × (k ≤ hi))
  numbers_each j = (
    (λ w.
        let below : j < length keys = let less = w.1 in let bound = high.bound in omega arith in
        (slice_index keys j, (keys, are, below, refl), point_from (λ (k : ℕ). k) keys lo from low j 0 w.0 below, high.within j w.1)),
    (λ w.
        let at = key_number h keys are j w.0 w.1 in (
          elim (cases_lt j from) [
            | inl before ↦ absurd (let less = point_below (λ (k : ℕ). k) keys lo from low j 0 at.0 before in let e = at.1 in let l = w.2 in omega arith)
            | inr after ↦ after
          ],
          elim (cases_lt j to) [
            | inl before ↦ before
            | inr after ↦ absurd (let more = high.behind j after at.0 in let e = at.1 in let m = w.3 in omega arith)
          ],
        )),
  )
