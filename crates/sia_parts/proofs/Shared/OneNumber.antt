-- A committed transaction and a written key have one number, and a number is that of one.
use Rattle.std.proofs.Common.{◌≡◌, inl, inr, ℕ, ◌<◌, List, length, sym, subst, ◌∙◌, arith}
use Rattle.std.specs.Prelude.{AllPairs, slice_index}
use Rattle.std.proofs.lemmas.Bool.{cases_lt}
use Rattle.std.proofs.lemmas.List.Elements.{Contains-get_or}
use Rattle.sia_events.specs.declared.event.Event.{Event}
use Rattle.sia_events.specs.Transactions.{IsCommitted, Wrote}
use Rattle.sia_index.specs.Info.{IsKeyAt}
use Rattle.sia_index.specs.Numbers.{IsCommittedAt}
use Rattle.sia_index.proofs.Shared.Ordered.{ascends}
use Rattle.sia_index.proofs.Shared.KeyChains.{key_number}
use Rattle.sia_parts.proofs.Auditing.Committing.{committed_number}

-- a key with a number is written
pub at_is_written : (h : List Event) (i k : ℕ) → IsKeyAt h i k → (t : ℕ) × Wrote h t k
at_is_written h i k at = subst (λ k. (t : ℕ) × Wrote h t k) at.3 ((at.1.each (slice_index at.0 i)).0 (Contains-get_or at.0 i 0 at.2))

-- a number stands at one place of a list that ascends
one_place : (xs : List ℕ) → AllPairs (λ x y. x < y) xs → (i j t : ℕ) → i < length xs → slice_index xs i ≡ t → j < length xs → slice_index xs j ≡ t → i ≡ j
one_place xs up i j t below first under second = elim (cases_lt i j) [
  | inl less ↦ let rise : slice_index xs i < slice_index xs j = up i j 0 less under in absurd (omega arith)
  | inr more ↦ elim (cases_lt j i) [
    | inl less ↦ let rise : slice_index xs j < slice_index xs i = up j i 0 less below in absurd (omega arith)
    | inr same ↦ omega arith
  ]
]

-- so each transaction and each key has one number
pub one_committed_number : (h : List Event) (i j t : ℕ) → IsCommittedAt h i t → IsCommittedAt h j t → i ≡ j
one_committed_number h i j t at other =
    let there = committed_number h at.0 at.1 j t other in
    one_place at.0 (ascends (λ (x : ℕ). x) (IsCommitted h) at.0 at.1) i j t at.2 at.3 there.0 there.1

pub one_key_number : (h : List Event) (i j k : ℕ) → IsKeyAt h i k → IsKeyAt h j k → i ≡ j
one_key_number h i j k at other =
    let there = key_number h at.0 at.1 j k other in
    one_place at.0 (ascends (λ (x : ℕ). x) (λ k. (t : ℕ) × Wrote h t k) at.0 at.1) i j k at.2 at.3 there.0 there.1

-- and a number is that of one key
pub one_key : (h : List Event) (i j k : ℕ) → IsKeyAt h i j → IsKeyAt h i k → j ≡ k
one_key h i j k at other = sym at.3 ∙ (key_number h at.0 at.1 i k other).1

pub one_committed : (h : List Event) (i t u : ℕ) → IsCommittedAt h i t → IsCommittedAt h i u → t ≡ u
one_committed h i t u at other = sym at.3 ∙ (committed_number h at.0 at.1 i u other).1
