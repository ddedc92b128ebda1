-- Who saw the versions from one position to another.
use Rattle.std.proofs.Common.{◌≡◌, ◌⊎◌, inl, inr, ℕ, ◌+◌, ◌<◌, ◌≤◌, [], subst, arith}
use Rattle.std.specs.Prelude.{◌↔◌, Contains, slice_index_or}
use Rattle.std.proofs.lemmas.Bool.{cases_lt}
use Rattle.sia_index.specs.Numbers.{IsCommittedAt}
use Rattle.sia_parts.specs.Sights.{FromSome}
use Rattle.sia_graph.specs.declared.neighbours.Neighbour.{Neighbour}
use Rattle.sia_graph.specs.declared.neighbours.Neighbours.{Neighbours}
use Rattle.sia_graph.specs.Found.{CanFind, IsInRow, IsLookerRow}

-- who saw a version has a number
pub looker_at : (n : Neighbours) → CanFind n → (q : ℕ) (look : ℕ) → Contains (slice_index_or n.looks.now q []) look → (u : ℕ) × IsCommittedAt n.evidence.index.now look u
looker_at n can q look c = let is = can.evidence.accesses.saw look q ((can.looks.each q look).0 c) in (is.0, is.3.txn)

module _ (n : Neighbours) (i : ℕ) where
  -- the row of who has the look
  abbrev pub IsLookRow : ℕ → Neighbour → Type 0
  IsLookRow look row = IsInRow n.evidence.index.now i look row

  pub lookers_more : (q to : ℕ) → q < to → (row : Neighbour) → (IsLookerRow n i (q + 1) to row ⊎ FromSome IsLookRow (slice_index_or n.looks.now q []) row) ↔ IsLookerRow n i q to row
  lookers_more q to below row = (
    (λ e. elim e [ inl is ↦ (is.0, (let low = is.1 in omega arith), is.2, is.3) | inr f ↦ (q, omega arith, below, f) ]),
    (λ is. elim (cases_lt q is.0) [
      | inl behind ↦ inl (is.0, omega arith, is.2, is.3)
      | inr first ↦ let here : is.0 ≡ q = (let low = is.1 in omega arith) in inr (subst (λ p. FromSome IsLookRow (slice_index_or n.looks.now p []) row) here is.3)
    ]),
  )

  -- where who saw a version before position q, from that at `from` on, commits too early
  pub lookers_stop : (from q to : ℕ) → from ≤ q → ((p : ℕ) (row : Neighbour) → from ≤ p → p < q → ¬ FromSome IsLookRow (slice_index_or n.looks.now p []) row) → (row : Neighbour) → IsLookerRow n i q to row ↔ IsLookerRow n i from to row
  lookers_stop from q to le none row = (
    (λ is. (is.0, (let low = is.1 in omega arith), is.2, is.3)),
    (λ is. elim (cases_lt is.0 q) [
      | inl before ↦ absurd (none is.0 row is.1 before is.3)
      | inr most ↦ (is.0, most, is.2, is.3)
    ]),
  )
