-- Who passed over a key, by the range misses from one place to another that reach behind it.
use Rattle.std.proofs.Common.{◌≡◌, ◌⊎◌, inl, inr, ℕ, ◌+◌, ◌-◌, ◌<◌, ◌≤◌, true, false, length, leb, ap, sym, subst, ◌∙◌, arith}
use Rattle.std.specs.Prelude.{◌↔◌, slice_index_or}
use Rattle.std.specs.List.{AllWithin}
use Rattle.std.specs.List.Sorted.{IsPartitionPoint}
use Rattle.std.proofs.lemmas.Bool.{cases_lt, leb-false, leb-true}
use Rattle.std.proofs.lemmas.List.{get_or_default}
use Rattle.std.proofs.lemmas.List.Elements.{Contains-get_or}
use Rattle.sia_index.specs.Numbers.{IsCommittedAt}
use Rattle.sia_parts.specs.declared.accesses.RangeMiss.{RangeMiss}
use Rattle.sia_parts.specs.Accesses.{HasMiss}
use Rattle.sia_graph.specs.declared.neighbours.Neighbour.{Neighbour}
use Rattle.sia_graph.specs.declared.neighbours.Neighbours.{Neighbours}
use Rattle.sia_graph.specs.declared.neighbours.Passing.{Passing}
use Rattle.sia_graph.specs.Found.{BeginUpTo, CanFind, IsInRow, IsPasserRow}
use Rattle.sia_graph.proofs.Shared.AccessLists.{few_missed}

module _ (n : Neighbours) (can : CanFind n) where
  abbrev at_place : ℕ → Passing → Passing
  at_place k d = slice_index_or n.passings.items k d

  abbrev miss_at : ℕ → Passing → RangeMiss
  miss_at k d = record { from = (at_place k d).from; to = (at_place k d).to }

  has_miss : (k : ℕ) (d : Passing) → k < length n.passings.items → HasMiss n.evidence.accesses.now (at_place k d).reader (miss_at k d)
  has_miss k d below = (can.passings.each (at_place k d)).0 (Contains-get_or n.passings.items k d below)

  -- who has a range miss has a number
  pub passer_at : (k : ℕ) (d : Passing) → k < length n.passings.items → (u : ℕ) × IsCommittedAt n.evidence.index.now (at_place k d).reader u
  passer_at k d below =
      let has = has_miss k d below in
      let some = can.evidence.accesses.some (at_place k d).reader (miss_at k d) has in
      let is = can.evidence.accesses.missed (at_place k d).reader (at_place k d).from (miss_at k d, has, omega arith, some) in
      (is.0, is.2)

  few_at : (k : ℕ) (d : Passing) → k < length n.passings.items → (at_place k d).to ≤ 536870912
  few_at k d below =
      let is = passer_at k d below in
      few_missed n.evidence.index.now n.evidence.accesses.now can.evidence.accesses (at_place k d).reader is.0 is.1 can.evidence.well_formed (miss_at k d) (has_miss k d below)

  module _ (i j : ℕ) where
    -- where the range misses end that begin up to the key
    pub begin_up_to : (to : ℕ) → to ≤ length n.passings.items → IsPartitionPoint (λ (p : Passing). leb p.from j ≡ true) (λ (p : Passing). leb p.from j ≡ false) n.passings.items to → BeginUpTo n j to
    begin_up_to to le point = (le, (λ k p less. leb-true _ _ (point.0 k p (omega arith) less)))

    pub begins_before : (from to : ℕ) → BeginUpTo n j from → IsPartitionPoint (λ (p : Passing). leb p.from j ≡ true) (λ (p : Passing). leb p.from j ≡ false) n.passings.items to → from ≤ to
    begins_before from to begins point = elim (cases_lt to from) [
      | inl less ↦
          let d : Passing = record { from = 0; to = 0; reader = 0 } in
          let over = leb-false _ _ (point.1 to d (omega arith) (omega arith)) in
          absurd (omega arith)
      | inr most ↦ most
    ]

    pub passers_none : (from : ℕ) (row : Neighbour) → ¬ IsPasserRow n i j from from row
    passers_none from row is = let low = is.2 in let high = is.3 in omega arith

    -- those that were passed by don't reach behind the key
    passed_by : (at to k : ℕ) (p : Passing) → to ≤ length n.passings.items → AllWithin (λ (x : Passing). 4294967295 - j ≤ 4294967295 - x.to) n.passings.items at to → at ≤ k → k < to → slice_index_or n.passings.items k p ≡ p → p.to ≤ j
    passed_by at to k p most none low high same = grind (arith, few_at)

    pub passers_more : (from at next : ℕ) (d : Passing) → from ≤ at → at ≤ next → next < length n.passings.items → (at_place next d).from ≤ j → 4294967295 - (at_place next d).to < 4294967295 - j
        → AllWithin (λ (x : Passing). 4294967295 - j ≤ 4294967295 - x.to) n.passings.items at next
        → (row : Neighbour) → (IsPasserRow n i j from at row ⊎ IsInRow n.evidence.index.now i (at_place next d).reader row) ↔ IsPasserRow n i j from (next + 1) row
    passers_more from at next d low le below begins reaches none row = (
      (λ e. elim e [
        | inl is ↦ (is.0, is.1, is.2, (let high = is.3 in omega arith), is.4, is.5, is.6, is.7)
        | inr is ↦ (next, at_place next d, omega arith, omega arith, get_or_default n.passings.items next (at_place next d) d below, begins, omega arith, is)
      ]),
      (λ is. elim (cases_lt is.0 at) [
        | inl under ↦ inl (is.0, is.1, is.2, under, is.4, is.5, is.6, is.7)
        | inr from_at ↦ elim (cases_lt is.0 next) [
          | inl between ↦ absurd (let past = passed_by at next is.0 is.1 (omega arith) none from_at between is.4 in let over = is.6 in omega arith)
          | inr last ↦
              let here : is.0 ≡ next = (let high = is.3 in omega arith) in
              let same : is.1 ≡ at_place next d = sym is.4 ∙ get_or_default n.passings.items is.0 is.1 d (omega arith) ∙ ap (λ k. at_place k d) here in
              inr (subst (λ (x : Passing). IsInRow n.evidence.index.now i x.reader row) same is.7)
        ]
      ]),
    )

    -- nor do those behind begin up to it
    pub passers_all : (from at to : ℕ) → to ≤ length n.passings.items → at ≤ to → AllWithin (λ (x : Passing). 4294967295 - j ≤ 4294967295 - x.to) n.passings.items at to
        → IsPartitionPoint (λ (p : Passing). leb p.from j ≡ true) (λ (p : Passing). leb p.from j ≡ false) n.passings.items to
        → (row : Neighbour) → IsPasserRow n i j from at row ↔ IsPasserRow n i j from (length n.passings.items) row
    passers_all from at to most le none point row = (
      (λ is. (is.0, is.1, is.2, (let high = is.3 in omega arith), is.4, is.5, is.6, is.7)),
      (λ is. elim (cases_lt is.0 at) [
        | inl under ↦ (is.0, is.1, is.2, under, is.4, is.5, is.6, is.7)
        | inr from_at ↦ elim (cases_lt is.0 to) [
          | inl between ↦ absurd (let past = passed_by at to is.0 is.1 most none from_at between is.4 in let over = is.6 in omega arith)
          | inr behind ↦ grind (arith, cases_lt, passed_by, leb-false)
        ]
      ]),
    )
