-- Relations with the same ways settle alike: an order that keeps the one keeps the other, and the same set is stuck.
use Rattle.std.proofs.Common.{◌≢◌, ◌⊎◌, inl, inr, ℕ, zero, suc, List, [], ◌∷◌, ◌++◌, subst, arith, Contains, AllPairs}
use Rattle.std.proofs.lemmas.List.Elements.{Contains-append_left, Contains-append_right, Contains-append_cases}
use Rattle.sia_events.specs.Closures.{HaveSameClosure}
use Rattle.sia_events.specs.Replay.{StandsBefore, Keeps}
use Rattle.sia_parts.specs.declared.finding.Edge.{Edge}
use Rattle.sia_parts.proofs.Auditing.Members.{first_or_later, contains_first, contains_later, contains_none}
use Rattle.sia_graph.specs.Orders.{Leads}
use Rattle.sia_graph.specs.Closures.{IsOrderBy, IsLeastBy, IsStuckBy, SettlesAlike}
use Rattle.sia_graph.proofs.Shared.Ways.{IsWay, Reaches, SameWays, same_ways}
use Rattle.sia_graph.proofs.Shared.Positions.{one_position}

pub stands_before_trans : (order : List ℕ) → AllPairs (λ x y. x ≢ y) order → (t s u : ℕ) → StandsBefore order t s → StandsBefore order s u → StandsBefore order t u
stands_before_trans order once t s u a b = grind (arith, one_position)

module _ (R : ℕ → ℕ → Type 0) where
  -- an order that keeps each step keeps each way
  pub keeps_ways : (order : List ℕ) → AllPairs (λ x y. x ≢ y) order → Keeps R order → (n t u : ℕ) → IsWay R n t u → StandsBefore order t u
  keeps_ways order once keeps zero t u step = keeps t u step
  keeps_ways order once keeps (suc n) t u way =
      stands_before_trans order once t way.0 u (keeps_ways order once keeps n t way.0 way.1) (keeps way.0 u way.2)

module _ (M : ℕ → Type 0) (R S : ℕ → ℕ → Type 0) (each : (t u : ℕ) → R t u → Reaches S t u) where
  order_by : (order : List ℕ) → IsOrderBy M S order → IsOrderBy M R order
  order_by order o = (o.0, λ t u step. let way = each t u step in keeps_ways S order o.0.once o.1 way.0 t u way.1)

-- what stands in the list is a member with a step from one that stands there or in the set
abbrev IsFedFrom : (ℕ → Type 0) → (ℕ → ℕ → Type 0) → List ℕ → List ℕ → Type 0
IsFedFrom M R set list = (t : ℕ) → Contains list t → M t × (s : ℕ) × (Contains list s ⊎ Contains set s) × R s t

module _ (M : ℕ → Type 0) (R : ℕ → ℕ → Type 0) (members : (t u : ℕ) → R t u → M u) where
  -- one more, with a step from the set or the list
  one_more : (set list : List ℕ) (s t : ℕ) → Contains list s ⊎ Contains set s → R s t → IsFedFrom M R set list → IsFedFrom M R set (t ∷ list)
  one_more set list s t from step fed u c = elim (first_or_later t u list c) [
    | inl same ↦ subst (λ x. M x × (s : ℕ) × (Contains (t ∷ list) s ⊎ Contains set s) × R s x) same (members s t step, s, later s from, step)
    | inr c ↦ let w = fed u c in (w.0, w.1, later w.1 w.2, w.3)
  ]
    where
      later : (x : ℕ) → Contains list x ⊎ Contains set x → Contains (t ∷ list) x ⊎ Contains set x
      later x (inl a) = inl (contains_later t x list a)
      later x (inr a) = inr a

  -- all that stand on a way from the set
  on_way : (set : List ℕ) (s : ℕ) → Contains set s → (n t : ℕ) → IsWay R n s t → (list : List ℕ) × Contains list t × IsFedFrom M R set list
  on_way set s from zero t step = (t ∷ [], contains_first t [], one_more set [] s t (inr from) step (λ u c. absurd (contains_none u c)))
  on_way set s from (suc n) t way =
      let w = on_way set s from n way.0 way.1 in
      (t ∷ w.0, contains_first t w.0, one_more set w.0 way.0 t (inl w.1) way.2 w.2)

  both : (set xs ys : List ℕ) → IsFedFrom M R set xs → IsFedFrom M R set ys → IsFedFrom M R set (xs ++ ys)
  both set xs ys a b t c = elim (Contains-append_cases xs ys t c) [
    | inl here ↦ let w = a t here in (w.0, w.1, elim (w.2) [ inl s ↦ inl (Contains-append_left xs ys w.1 s) | inr s ↦ inr s ], w.3)
    | inr there ↦ let w = b t there in (w.0, w.1, elim (w.2) [ inl s ↦ inl (Contains-append_right xs ys w.1 s) | inr s ↦ inr s ], w.3)
  ]

  -- all that stand on ways from the set to its own
  on_ways : (set xs : List ℕ) → ((t : ℕ) → Contains xs t → (s : ℕ) × Contains set s × Reaches R s t)
      → (list : List ℕ) × ((t : ℕ) → Contains xs t → Contains list t) × IsFedFrom M R set list
  on_ways set [] each = ([], λ t c. c, λ u c. absurd (contains_none u c))
  on_ways set (x ∷ xs) each =
      let from = each x (contains_first x xs) in
      let a = on_way set from.0 from.1 from.2.0 x from.2.1 in
      let b = on_ways set xs (λ t c. each t (contains_later x t xs c)) in (
        a.0 ++ b.0,
        λ t c. elim (first_or_later x t xs c) [
          | inl same ↦ subst (λ y. Contains (a.0 ++ b.0) y) same (Contains-append_left a.0 b.0 x a.1)
          | inr c ↦ Contains-append_right a.0 b.0 t (b.1 t c)
        ],
        both set a.0 b.0 a.2 b.2,
      )

  module _ (stuck : List ℕ) (is_stuck : IsStuckBy M R stuck) where
    -- a step from a stuck one leads to a stuck one
    step_stuck : (s t : ℕ) → Contains stuck s → R s t → Contains stuck t
    step_stuck s t from step = is_stuck.greatest (t ∷ stuck)
        (λ u c. elim (first_or_later t u stuck c) [
          | inl same ↦ subst (λ x. M x × (s : ℕ) × Contains (t ∷ stuck) s × R s x) same (members s t step, s, contains_later t s stuck from, step)
          | inr c ↦ let w = is_stuck.fed u c in (w.0, w.1, contains_later t w.1 stuck w.2, w.3)
        ]) t (contains_first t stuck)

    way_stuck : (s : ℕ) → Contains stuck s → (n t : ℕ) → IsWay R n s t → Contains stuck t
    way_stuck s from zero t step = step_stuck s t from step
    way_stuck s from (suc n) t way = step_stuck way.0 t (way_stuck s from n way.0 way.1) way.2

    -- a set that is fed along ways is stuck
    pub fed_stuck : (set : List ℕ) → ((t : ℕ) → Contains set t → (s : ℕ) × Contains set s × Reaches R s t) → (t : ℕ) → Contains set t → Contains stuck t
    fed_stuck set each t c =
        let w = on_ways set set each in
        is_stuck.greatest w.0 (λ u d. let f = w.2 u d in (f.0, f.1, elim (f.2) [ inl s ↦ s | inr s ↦ w.1 f.1 s ], f.3)) t (w.1 t c)

module _ (M : ℕ → Type 0) (R S : ℕ → ℕ → Type 0) (members : (t u : ℕ) → R t u → M u) (same : SameWays R S) where
  least_by : (order : List ℕ) → IsLeastBy M R order → IsLeastBy M S order
  least_by order least = (
    order_by M S R (λ t u step. (same t u).1 (0, step)) order least.0,
    λ other o. least.1 other (order_by M R S (λ t u step. (same t u).0 (0, step)) other o),
  )

  -- the last step of a way comes from a stuck one
  last_step : (stuck : List ℕ) → IsStuckBy M R stuck → (s t : ℕ) → Contains stuck s → (n : ℕ) → IsWay S n s t → (r : ℕ) × Contains stuck r × S r t
  last_step stuck is_stuck s t from zero step = (s, from, step)
  last_step stuck is_stuck s t from (suc n) way =
      let back = (same s way.0).1 (n, way.1) in
      (way.0, way_stuck M R members stuck is_stuck s from back.0 way.0 back.1, way.2)

  stuck_by : (stuck : List ℕ) → IsStuckBy M R stuck → IsStuckBy M S stuck
  stuck_by stuck is_stuck = record {
    fed = λ t c.
        let w = is_stuck.fed t c in
        let way = (same w.1 t).0 (0, w.3) in
        let last = last_step stuck is_stuck w.1 t w.2 way.0 way.1 in
        (w.0, last.0, last.1, last.2);
    greatest = λ set fed t c. fed_stuck M R members stuck is_stuck set
        (λ u d. let w = fed u d in (w.1, w.2, (same w.1 u).1 (0, w.3))) t c;
  }

-- edges that lead to members alone, and a relation with their ways
module _ (M : ℕ → Type 0) (E : Edge → Type 0) (R : ℕ → ℕ → Type 0) (members : (t u : ℕ) → Leads E t u → M u) (alike : HaveSameClosure (Leads E) R) where
  same : SameWays (Leads E) R
  same = same_ways (Leads E) R alike

  to_member : (n t u : ℕ) → IsWay (Leads E) n t u → M u
  to_member zero t u step = members t u step
  to_member (suc n) t u way = members way.0 u way.2

  back : SameWays R (Leads E)
  back t u = ((same t u).1, (same t u).0)

  back_members : (t u : ℕ) → R t u → M u
  back_members t u step = let way = (same t u).1 (0, step) in to_member way.0 t u way.1

  pub settles_alike : SettlesAlike M E R
  settles_alike = record {
    kept = λ order. (order_by M R (Leads E) (λ t u step. (same t u).1 (0, step)) order, order_by M (Leads E) R (λ t u step. (same t u).0 (0, step)) order);
    least = λ order. (least_by M (Leads E) R members same order, least_by M R (Leads E) back_members back order);
    stuck = λ set. (
      λ s. stuck_by M (Leads E) R members same set (record { fed = s.self_fed; greatest = s.greatest }),
      λ s. let w = stuck_by M R (Leads E) back_members back set s in record { self_fed = w.fed; greatest = w.greatest },
    );
  }
