-- The cycle that going back from the least transaction that is left reaches, from its least member on.
use Rattle.std.proofs.Common.{◌≡◌, ℕ, zero, suc, ◌+◌, ◌<◌, ◌≤◌, List, [], ◌∷◌, length, get_or, ap, sym, ◌∙◌, refl, subst, arith, inl, inr, Contains}
use Rattle.std.specs.List.Sorted.{IsStrictlyIncreasing}
use Rattle.std.proofs.lemmas.Bool.{cases_lt}
use Rattle.sia_parts.specs.declared.finding.Edge.{Edge}
use Rattle.sia_graph.specs.declared.cycle.Step.{Step}
use Rattle.sia_graph.specs.Orders.{Leads}
use Rattle.sia_graph.specs.Cycles.{IsPrevious, GoesBack, IsStuckSet, IsPrintedCycle}
use Rattle.sia_graph.specs.Walks.{AreLeastSources, AreLeft, ArePreviousFrom, IsFedBack, IsLeastSource, GoesRoundFrom, LeadsBack, StaysWithin, back}
use Rattle.sia_graph.proofs.Shared.AscendingIds.{ids_no_less}
use Rattle.sia_graph.proofs.Cycles.Walks.{back_more, back_next, within_round, round_again}

-- where what is left is stuck, it has an edge from what is left
pub fed_by_stuck : (ids : List ℕ) (IsMember : ℕ → Type 0) (IsEdge : Edge → Type 0) (IsLeft : ℕ → Type 0) (stuck : List ℕ) → AreLeft ids IsLeft stuck → IsStuckSet IsMember IsEdge stuck
    → IsFedBack ids IsEdge IsLeft
fed_by_stuck ids IsMember IsEdge IsLeft stuck left set i l is =
    let s = set.self_fed (get_or ids i 0) ((left (get_or ids i 0)).1 (i, l, refl, is)) in
    let p = (left s.1).0 s.2 in
    (p.0, (p.1, p.3, subst (λ x. Leads IsEdge x (get_or ids i 0)) (sym p.2) s.3))

-- what leads to a source or to itself leads to a place in the list
pub stays_within : (ids : List ℕ) (IsEdge : Edge → Type 0) (IsLeft : ℕ → Type 0) (previous : List ℕ) → length previous ≡ length ids → AreLeastSources ids IsEdge IsLeft previous → StaysWithin previous
stays_within ids IsEdge IsLeft previous p q r s = grind arith

-- what is left leads back to least sources, on the whole way back from start, where all that is left has a source that is left
module _ (ids : List ℕ) (IsEdge : Edge → Type 0) (IsLeft : ℕ → Type 0) (previous : List ℕ) (start : ℕ) (least : AreLeastSources ids IsEdge IsLeft previous) (within : start < length ids) (left : IsLeft start)
    (fed : IsFedBack ids IsEdge IsLeft) where
  least_at : (n : ℕ) → (back previous n start < length ids) × IsLeft (back previous n start) → IsLeastSource ids IsEdge IsLeft (back previous n start) (get_or previous (back previous n start) 0)
  least_at n at = elim (least (back previous n start) at.0) [ inl is ↦ is | inr none ↦ absurd (let s = fed (back previous n start) at.0 at.1 in none.1 s.0 s.1) ]

  left_at : (n : ℕ) → (back previous n start < length ids) × IsLeft (back previous n start)
  left_at zero = (within, left)
  left_at (suc n) =
      let s = (least_at n (left_at n)).0 in
      let next : n + 1 ≡ suc n = omega arith in
      subst (λ i. (i < length ids) × IsLeft i) (sym (back_next previous n start) ∙ ap (λ m. back previous m start) next) (s.0, s.1)

  pub previous_from : ArePreviousFrom ids IsEdge IsLeft previous start
  previous_from n = least_at n (left_at n)

module _ (ids : List ℕ) (IsEdge : Edge → Type 0) (IsLeft : ℕ → Type 0) (previous : List ℕ) where
  -- from a position on the way back
  pub shifted : (m start : ℕ) → ArePreviousFrom ids IsEdge IsLeft previous start → ArePreviousFrom ids IsEdge IsLeft previous (back previous m start)
  shifted m start are n = subst (λ i. IsLeastSource ids IsEdge IsLeft i (get_or previous i 0)) (back_more previous m n start) (are (m + n))

  pub leads_all : (home : ℕ) → ArePreviousFrom ids IsEdge IsLeft previous home → (n : ℕ)
      → Leads IsEdge (get_or ids (get_or previous (back previous n home) 0) 0) (get_or ids (back previous n home) 0)
  leads_all home are n = (are n).0.2

  module _ (up : IsStrictlyIncreasing ids) (stuck : List ℕ) (left_ones : AreLeft ids IsLeft stuck) where
    previous_is : (i p : ℕ) → IsLeastSource ids IsEdge IsLeft i p → IsPrevious IsEdge stuck (get_or ids p 0) (get_or ids i 0)
    previous_is i p w = (
      (left_ones (get_or ids p 0)).1 (p, w.0.0, refl, w.0.1),
      w.0.2,
      λ t c leads.
          let k = (left_ones t).0 c in
          let n = ids_no_less ids up p k.0 (w.1 k.0 (k.1, k.3, subst (λ x. Leads IsEdge x (get_or ids i 0)) (sym k.2) leads)) k.1 in
          omega arith,
    )

    leads_back : (home : ℕ) → ArePreviousFrom ids IsEdge IsLeft previous home → LeadsBack stuck ids IsEdge previous home
    leads_back home are n = previous_is (back previous n home) (get_or previous (back previous n home) 0) (are n)

    goes_back : (n i : ℕ) → ArePreviousFrom ids IsEdge IsLeft previous i → GoesBack IsEdge stuck n (get_or ids i 0) (get_or ids (back previous n i) 0)
    goes_back zero i are = refl
    goes_back (suc n) i are = (get_or ids (get_or previous i 0) 0, previous_is i (get_or previous i 0) (are 0), goes_back n (get_or previous i 0) (λ k. are (suc k)))

    least_start : (start : ℕ) → ((i : ℕ) → i < start → ¬ IsLeft i) → (t : ℕ) → Contains stuck t → get_or ids start 0 ≤ t
    least_start start none t c =
        let k = (left_ones t).0 c in
        elim (cases_lt k.0 start) [
          | inl less ↦ absurd (none k.0 less k.3)
          | inr more ↦ let m = ids_no_less ids up start k.0 more k.1 in omega arith
        ]

    pub printed : (IsMember : ℕ → Type 0) (start n home : ℕ) (steps : List Step) → ArePreviousFrom ids IsEdge IsLeft previous start → start < length ids → IsLeft start → ((i : ℕ) → i < start → ¬ IsLeft i)
        → back previous n start ≡ home → (LeadsBack stuck ids IsEdge previous home → GoesRoundFrom stuck IsEdge (get_or ids home 0) steps)
        → IsStuckSet IsMember IsEdge stuck → IsPrintedCycle IsMember IsEdge steps
    printed IsMember start n home [] are l left none reached round set = absurd (round (leads_back home (subst (ArePreviousFrom ids IsEdge IsLeft previous) reached (shifted n start are))))
    printed IsMember start n home (first ∷ steps) are l left none reached round set =
        let r = round (leads_back home (subst (ArePreviousFrom ids IsEdge IsLeft previous) reached (shifted n start are))) in
        let way : GoesBack IsEdge stuck n (get_or ids start 0) first.txn =
        subst (λ t. GoesBack IsEdge stuck n (get_or ids start 0) t) (ap (λ i. get_or ids i 0) reached ∙ sym r.0) (goes_back n start are) in
        (stuck, set, get_or ids start 0, (left_ones (get_or ids start 0)).1 (start, l, refl, left), least_start start none, n, way, r.1, r.2)

-- the least position on a round is the least from itself on, and one comes back to it
module _ (previous : List ℕ) (place period home : ℕ) (some : 0 < period) (round : back previous period place ≡ place)
    (reached : (m : ℕ) × (back previous m place ≡ home)) (low : (n : ℕ) → n ≤ period → home ≤ back previous n place) where
  pub round_home : back previous period home ≡ home
  round_home = ap (back previous period) (sym reached.1) ∙ round_again previous reached.0 period place round ∙ reached.1

  pub least_home : (n : ℕ) → home ≤ back previous n home
  least_home n =
      let w = within_round previous period place some round (reached.0 + n) in
      let b = w.2 ∙ back_more previous reached.0 n place ∙ ap (back previous n) reached.1 in
      omega arith
