-- A list is in order where each element precedes the next.
use Rattle.std.proofs.Common.{◌≡◌, inl, inr, ℕ, zero, suc, ◌+◌, ◌-◌, ◌<◌, List, length, get_or, ap, ◌∙◌, subst, arith}
use Rattle.std.specs.Prelude.{AllPairs}
use Rattle.std.proofs.lemmas.Bool.{cases_lt}
use Rattle.std.proofs.lemmas.List.{get_or_default}
use Rattle.sia_events.specs.Lists.{Precedes}
use Rattle.sia_graph.proofs.OfLaws.InOrder.{precedes_trans}

pub pairs_from_next : {A : Type 0} (rank : A → List ℕ) (xs : List A) → ((k : ℕ) (d : A) → k + 1 < length xs → Precedes (rank (get_or xs k d)) (rank (get_or xs (k + 1) d)))
    → AllPairs (λ x y. Precedes (rank x) (rank y)) xs
pairs_from_next {A} rank xs next i j d less below = by_gap (j - i - 1) i j less below (omega arith)
  where
    by_gap : (n i j : ℕ) → i < j → j < length xs → j ≡ i + 1 + n → Precedes (rank (get_or xs i d)) (rank (get_or xs j d))
    by_gap zero i j less below e = let f : i + 1 ≡ j = omega arith in subst (λ k. Precedes (rank (get_or xs i d)) (rank (get_or xs k d))) f (next i d (omega arith))
    by_gap (suc n) i j less below e =
        precedes_trans (rank (get_or xs i d)) (rank (get_or xs (i + 1) d)) (rank (get_or xs j d)) (next i d (omega arith)) (by_gap n (i + 1) j (omega arith) below (omega arith))

-- what holds of each element below i, and at i, at any default
pub all_more : {A : Type 0} (P : A → Type 0) (xs : List A) (i : ℕ) (e : A) → i < length xs → P (get_or xs i e) → ((k : ℕ) (d : A) → k < i → P (get_or xs k d)) → (k : ℕ) (d : A) → k < i + 1 → P (get_or xs k d)
all_more P xs i e within here below k d l = elim (cases_lt k i) [
  | inl less ↦ below k d less
  | inr more ↦
      let same : i ≡ k = omega arith in
      subst (λ n. P (get_or xs n d)) same (subst P (get_or_default xs i e d within) here)
]

pub next_more : {A : Type 0} (rank : A → List ℕ) (xs : List A) (i : ℕ) (e f : A) → 0 < i → i < length xs → Precedes (rank (get_or xs (i - 1) e)) (rank (get_or xs i f))
    → ((k : ℕ) (d : A) → k + 1 < i → Precedes (rank (get_or xs k d)) (rank (get_or xs (k + 1) d))) → (k : ℕ) (d : A) → k + 1 < i + 1 → Precedes (rank (get_or xs k d)) (rank (get_or xs (k + 1) d))
next_more rank xs i e f some within here below k d l = elim (cases_lt (k + 1) i) [
  | inl less ↦ below k d less
  | inr more ↦
      let a : i - 1 ≡ k = omega arith in
      let b : i ≡ k + 1 = omega arith in
      let x = get_or_default xs (i - 1) e d (omega arith) ∙ ap (λ n. get_or xs n d) a in
      let y = get_or_default xs i f d within ∙ ap (λ n. get_or xs n d) b in
      subst (λ u. Precedes (rank (get_or xs k d)) (rank u)) y (subst (λ u. Precedes (rank u) (rank (get_or xs i f))) x here)
]
