-- A front of an order grows by the least transaction that is ready. What is left when none is ready is the stuck set, and
-- where nothing is left the front is the least order that keeps every edge.
use Rattle.std.proofs.Common.{◌≡◌, ◌⊎◌, inl, inr, ℕ, zero, suc, ◌+◌, ◌<◌, ◌≤◌, List, [], ◌∷◌, ◌++◌, length, slice_get, Some, ap, sym, ◌∙◌, refl, subst, arith}
use Rattle.std.specs.Prelude.{⊤}
use Rattle.std.proofs.lemmas.Bool.{cases_lt}
use Rattle.std.proofs.lemmas.Option.{slice_get_within}
use Rattle.sia_events.specs.Lists.{Precedes}
use Rattle.sia_parts.specs.declared.finding.Edge.{Edge}
use Rattle.sia_graph.specs.Orders.{Leads, IsKeepingOrder, IsLeastOrder}
use Rattle.sia_graph.specs.Fronts.{IsFront, IsNoLater}
use Rattle.sia_graph.proofs.Shared.Positions.{Stands, contains_stands, stands_contains, get_right, get_cases, only_one, one_position, once_from_positions}
use Rattle.sia_events.proofs.LogRows.RowsRead.{get_less, get_more}

-- what ys goes on with isn't less than t
abbrev GoesOnFrom : ℕ → List ℕ → Type 0
GoesOnFrom t rest = (u : ℕ) × (more : List ℕ) × (rest ≡ u ∷ more) × (t ≤ u)

no_later_more : (xs ys : List ℕ) (t : ℕ) → IsNoLater xs ys → ((rest : List ℕ) → ys ≡ xs ++ rest → GoesOnFrom t rest) → IsNoLater (xs ++ t ∷ []) ys
no_later_more [] ys t n next = by_rest (next ys refl)
  where
    by_rest : GoesOnFrom t ys → IsNoLater (t ∷ []) ys
    by_rest w = subst (λ l. IsNoLater (t ∷ []) l) (sym w.2) (first w.0 w.1 w.3)
      where
        first : (u : ℕ) (more : List ℕ) → t ≤ u → (t < u) ⊎ ((t ≡ u) × ⊤)
        first u more l = elim (cases_lt t u) [ inl less ↦ inl less | inr more ↦ inr (omega arith, tt) ]
no_later_more (x ∷ xs) [] t n next = absurd n
no_later_more (x ∷ xs) (y ∷ ys) t (inl l) next = inl l
no_later_more (x ∷ xs) (y ∷ ys) t (inr w) next = inr (w.0, no_later_more xs ys t w.1 (λ rest e. next rest (let p = w.0 in λ i. sym p i ∷ e i)))

pub not_before : (xs ys : List ℕ) → IsNoLater xs ys → ¬ Precedes ys xs
not_before [] [] n p = p
not_before [] (y ∷ ys) n p = p
not_before (x ∷ xs) [] n p = n
not_before (x ∷ xs) (y ∷ ys) (inl a) (inl b) = omega arith
not_before (x ∷ xs) (y ∷ ys) (inl a) (inr b) = let e = b.0 in omega arith
not_before (x ∷ xs) (y ∷ ys) (inr a) (inl b) = let e = a.0 in omega arith
not_before (x ∷ xs) (y ∷ ys) (inr a) (inr b) = not_before xs ys a.1 b.1

module _ (M : ℕ → Type 0) (E : Edge → Type 0) where
  abbrev pub IsReady : List ℕ → ℕ → Type 0
  IsReady front t = M t × ¬ Stands front t × ((s : ℕ) → Leads E s t → Stands front s)

  -- an order that goes on from a front goes on with a ready one
  goes_on_ready : (front rest : List ℕ) (t : ℕ) → IsReady front t → ((u : ℕ) → IsReady front u → t ≤ u) → IsKeepingOrder M E (front ++ rest) → GoesOnFrom t rest
  goes_on_ready front [] t ready least keeping =
      let at = contains_stands (front ++ []) t ((keeping.0.each t).1 ready.0) in
      elim (get_cases front [] at.0 t at.1) [
        | inl here ↦ absurd (ready.1 (at.0, here))
        | inr w ↦ absurd (let e = w.2 in cc)
      ]
  goes_on_ready front (u ∷ more) t ready least keeping =
      let here : slice_get (front ++ u ∷ more) (length front + 0) ≡ Some u = get_right front (u ∷ more) 0 u refl in
      let one = one_position (front ++ u ∷ more) keeping.0.once in (
        u,
        more,
        refl,
        least u (
          (keeping.0.each u).0 (stands_contains (front ++ u ∷ more) u (length front + 0, here)),
          λ s.
              let e : s.0 ≡ length front + 0 = one u s.0 (length front + 0) (get_more front (u ∷ more) s.0 u s.1) here in
              absurd (omega (arith, slice_get_within front s.0 u s.1)),
          λ s leads.
              let b = keeping.1 s u leads in
              let e : b.1 ≡ length front + 0 = one u b.1 (length front + 0) b.4 here in
              (b.0, get_less front (u ∷ more) b.0 s (omega arith) b.3),
        ),
      )

  pub front_more : (front : List ℕ) (t : ℕ) → IsFront M E front → IsReady front t → ((u : ℕ) → IsReady front u → t ≤ u) → IsFront M E (front ++ t ∷ [])
  front_more front t f ready least = record {
    members = grind (arith, get_cases, only_one, get_more, slice_get_within, no_later_more, goes_on_ready);
    once = λ u i j a b. by_cases u i j (get_cases front (t ∷ []) i u a) (get_cases front (t ∷ []) j u b);
    closed = λ s u i leads at. elim (get_cases front (t ∷ []) i u at) [
      | inl here ↦ let w = f.closed s u i leads here in (w.0, w.1, get_more front (t ∷ []) w.0 s w.2)
      | inr w ↦
          let from = ready.2 s (subst (λ x. Leads E s x) (sym (only_one u t w.0 w.2).1) leads) in
          (from.0, omega (arith, w.1, slice_get_within front from.0 s from.1), get_more front (t ∷ []) from.0 s from.1)
    ];
    no_later = λ order keeping. no_later_more front order t (f.no_later order keeping)
        (λ rest e. goes_on_ready front rest t ready least (subst (λ l. IsKeepingOrder M E l) e keeping));
  }
    where
      by_cases : (u i j : ℕ) → (slice_get front i ≡ Some u) ⊎ ((k : ℕ) × (i ≡ length front + k) × (slice_get (t ∷ []) k ≡ Some u))
          → (slice_get front j ≡ Some u) ⊎ ((k : ℕ) × (j ≡ length front + k) × (slice_get (t ∷ []) k ≡ Some u)) → i ≡ j
      by_cases u i j (inl a) (inl b) = f.once u i j a b
      by_cases u i j (inl a) (inr b) = absurd (ready.1 (i, a ∙ ap Some (sym (only_one u t b.0 b.2).1)))
      by_cases u i j (inr a) (inl b) = absurd (ready.1 (j, b ∙ ap Some (sym (only_one u t a.0 a.2).1)))
      by_cases u i j (inr a) (inr b) =
          omega (arith, (only_one u t a.0 a.2).0, (only_one u t b.0 b.2).0)

  pub front_none : IsFront M E []
  front_none = grind arith

  -- a front of all members is the least order
  pub whole_front : (front : List ℕ) → IsFront M E front → ((t : ℕ) → M t → Stands front t) → ((s t : ℕ) → Leads E s t → M t) → IsLeastOrder M E front
  whole_front front f whole joins = (
    (
      record {
        once = once_from_positions front f.once;
        each = λ t. (λ c. let s = contains_stands front t c in f.members t s.0 s.1, λ m. stands_contains front t (whole t m));
      },
      λ s t leads.
          let at = whole t (joins s t leads) in
          let from = f.closed s t at.0 leads at.1 in
          (from.0, at.0, from.1, from.2, at.1),
    ),
    λ other keeping. not_before front other (f.no_later other keeping),
  )

  -- a set whose members each have an edge from a member has none in a list into which edges lead from earlier members alone
  module _ (xs : List ℕ) (closed : (s t i : ℕ) → Leads E s t → slice_get xs i ≡ Some t → (j : ℕ) × (j < i) × (slice_get xs j ≡ Some s))
      (F : ℕ → Type 0) (fed : (t : ℕ) → F t → (s : ℕ) × F s × Leads E s t) where
    none_below : (n i t : ℕ) → i < n → slice_get xs i ≡ Some t → ¬ F t
    none_below zero i t l at f = omega arith
    none_below (suc n) i t l at f =
        let from = fed t f in
        let w = closed from.0 t i from.2 at in
        none_below n w.0 from.0 (omega arith) w.2 from.1

    pub none_fed : (t : ℕ) → Stands xs t → ¬ F t
    none_fed t s f = none_below (suc s.0) s.0 t (omega arith) s.1 f

  -- and then no order keeps every edge
  pub no_order : (F : ℕ → Type 0) → ((t : ℕ) → F t → M t × (s : ℕ) × F s × Leads E s t) → (t : ℕ) → F t → (order : List ℕ) → ¬ IsKeepingOrder M E order
  no_order F fed t f order keeping =
      none_fed order
      (λ s u i leads at.
      let b = keeping.1 s u leads in
      let e : i ≡ b.1 = one_position order keeping.0.once u i b.1 at b.4 in
      (b.0, omega arith, b.3))
      F (λ u g. let w = fed u g in (w.1, w.2, w.3)) t (contains_stands order t ((keeping.0.each t).1 (fed t f).0)) f
