-- Where an event stands in the serial history of an order, and what stands before it there.
use Rattle.std.proofs.Common.{◌≡◌, ◌⊎◌, inl, inr, ℕ, zero, suc, ◌+◌, Bool, true, false, cond, List, [], ◌∷◌, ◌++◌, take, flat_map, slice_get, Some, refl, ap, sym, subst, ◌∙◌, arith, ◌==◌, append_assoc, eqb-true, eq-eqb}
use Rattle.std.proofs.lemmas.Option.{same_Some, some_pair_parts}
use Rattle.sia_events.specs.declared.event.Event.{Event}
use Rattle.sia_events.specs.Events.{actor}
use Rattle.sia_graph.proofs.Shared.LastWriter.{events_from}

module _ {X : Type 0} where
  in_front : (us vs : List X) (i : ℕ) (x : X) → slice_get us i ≡ Some x → (slice_get (us ++ vs) i ≡ Some x) × (take i (us ++ vs) ≡ take i us)
  in_front [] vs i x e = cc
  in_front (a ∷ us) vs zero x e = (e, refl)
  in_front (a ∷ us) vs (suc i) x e = let w = in_front us vs i x e in (w.0, ap (λ l. a ∷ l) w.1)

  behind : (us vs : List X) (n : ℕ) (x : X) → slice_get vs n ≡ Some x → (i : ℕ) × (slice_get (us ++ vs) i ≡ Some x) × (take i (us ++ vs) ≡ us ++ take n vs)
  behind [] vs n x e = (n, e, refl)
  behind (a ∷ us) vs n x e = let w = behind us vs n x e in (suc w.0, w.1, ap (λ l. a ∷ l) w.2)

  front_or_behind : (us vs : List X) (i : ℕ) (x : X) → slice_get (us ++ vs) i ≡ Some x
      → ((slice_get us i ≡ Some x) × (take i (us ++ vs) ≡ take i us)) ⊎ ((n : ℕ) × (slice_get vs n ≡ Some x) × (take i (us ++ vs) ≡ us ++ take n vs))
  front_or_behind [] vs i x e = inr (i, e, refl)
  front_or_behind (a ∷ us) vs zero x e = inl (e, refl)
  front_or_behind (a ∷ us) vs (suc i) x e = grind (arith, front_or_behind us vs i x e)

  module _ (f : ℕ → List X) where
    -- a place in joined lists, by the list and the place in it
    pub split_place : (xs : List ℕ) (i : ℕ) (x : X) → slice_get (flat_map f xs) i ≡ Some x
        → (j : ℕ) × (t : ℕ) × (m : ℕ) × (slice_get xs j ≡ Some t) × (slice_get (f t) m ≡ Some x) × (take i (flat_map f xs) ≡ flat_map f (take j xs) ++ take m (f t))
    split_place [] i x e = cc
    split_place (y ∷ ys) i x e = elim (front_or_behind (f y) (flat_map f ys) i x e) [
      | inl w ↦ (0, y, i, refl, w.0, w.1)
      | inr w ↦
          let r = split_place ys w.0 x w.1 in
          (suc r.0, r.1, r.2, r.3, r.4, w.2 ∙ ap (λ l. f y ++ l) r.5 ∙ sym (append_assoc (f y) (flat_map f (take r.0 ys)) (take r.2 (f r.1))))
    ]

    pub joined_place : (xs : List ℕ) (j t m : ℕ) (x : X) → slice_get xs j ≡ Some t → slice_get (f t) m ≡ Some x
        → (i : ℕ) × (slice_get (flat_map f xs) i ≡ Some x) × (take i (flat_map f xs) ≡ flat_map f (take j xs) ++ take m (f t))
    joined_place [] j t m x e at = cc
    joined_place (y ∷ ys) zero t m x e at =
        let same : y ≡ t = same_Some y t e in
        let w = in_front (f y) (flat_map f ys) m x (subst (λ z. slice_get (f z) m ≡ Some x) (sym same) at) in
        (m, w.0, w.1 ∙ ap (λ z. take m (f z)) same)
    joined_place (y ∷ ys) (suc j) t m x e at =
        let r = joined_place ys j t m x e at in
        let w = behind (f y) (flat_map f ys) r.0 x r.1 in
        (w.0, w.1, w.2 ∙ ap (λ l. f y ++ l) r.2 ∙ sym (append_assoc (f y) (flat_map f (take j ys)) (take m (f t))))

-- event number m of t, in a list counted from n
abbrev IsOwnPlace : ℕ → ℕ → List Event → List (ℕ × Event) → ℕ → ℕ → Event → Type 0
IsOwnPlace t n h es m p e = (i : ℕ) × (p ≡ n + i) × (slice_get h i ≡ Some e) × (actor e ≡ t) × (take m es ≡ events_from n (take i h) t)

split_by_test : (t n : ℕ) (f : Event) (h : List Event) (es : List (ℕ × Event)) (b : Bool) → actor f == t ≡ b
    → ((m p : ℕ) (e : Event) → slice_get es m ≡ Some (p, e) → IsOwnPlace t (n + 1) h es m p e)
    → (m p : ℕ) (e : Event) → slice_get (cond b ((n, f) ∷ es) es) m ≡ Some (p, e) → IsOwnPlace t n (f ∷ h) (cond b ((n, f) ∷ es) es) m p e
split_by_test t n f h es true test rest zero p e at = grind (arith, some_pair_parts, eqb-true, events_from)
split_by_test t n f h es true test rest (suc m) p e at =
    let r = rest m p e at in
    let there = r.1 in (
      suc r.0,
      omega arith,
      r.2,
      r.3,
      subst (λ b. (n, f) ∷ take m es ≡ cond b ((n, f) ∷ events_from (n + 1) (take r.0 h) t) (events_from (n + 1) (take r.0 h) t)) (sym test)
          (ap (λ l. (n, f) ∷ l) r.4),
    )
split_by_test t n f h es false test rest m p e at =
    let r = rest m p e at in
    let there = r.1 in (
      suc r.0,
      omega arith,
      r.2,
      r.3,
      subst (λ b. take m es ≡ cond b ((n, f) ∷ events_from (n + 1) (take r.0 h) t) (events_from (n + 1) (take r.0 h) t)) (sym test) r.4,
    )

-- an event of t, by its place in the history, and t's events before it
pub split_event : (t n : ℕ) (h : List Event) (m p : ℕ) (e : Event) → slice_get (events_from n h t) m ≡ Some (p, e) → IsOwnPlace t n h (events_from n h t) m p e
split_event t n [] m p e at = cc
split_event t n (f ∷ h) m p e at = split_by_test t n f h (events_from (n + 1) h t) (actor f == t) refl (split_event t (n + 1) h) m p e at

-- at index i of h, in a list counted from n, there is an event of t
abbrev IsOwnEvent : ℕ → ℕ → List Event → List (ℕ × Event) → ℕ → Event → Type 0
IsOwnEvent t n h es i e = (m : ℕ) × (slice_get es m ≡ Some (n + i, e)) × (take m es ≡ events_from n (take i h) t)

later_by_test : (t n : ℕ) (f : Event) (h : List Event) (es : List (ℕ × Event)) (b : Bool) → actor f == t ≡ b
    → (i : ℕ) (e : Event) → IsOwnEvent t (n + 1) h es i e → IsOwnEvent t n (f ∷ h) (cond b ((n, f) ∷ es) es) (suc i) e
later_by_test t n f h es true test i e r =
    let place : n + 1 + i ≡ n + suc i = omega arith in (
      suc r.0,
      r.1 ∙ ap (λ x. Some (x, e)) place,
      subst (λ b. (n, f) ∷ take r.0 es ≡ cond b ((n, f) ∷ events_from (n + 1) (take i h) t) (events_from (n + 1) (take i h) t)) (sym test)
          (ap (λ l. (n, f) ∷ l) r.2),
    )
later_by_test t n f h es false test i e r = grind (arith, events_from)

pub own_event : (t n : ℕ) (h : List Event) (i : ℕ) (e : Event) → slice_get h i ≡ Some e → actor e ≡ t → IsOwnEvent t n h (events_from n h t) i e
own_event t n [] i e at acts = cc
own_event t n (f ∷ h) zero e at acts = grind (arith, same_Some, events_from, eq-eqb, later_by_test)
own_event t n (f ∷ h) (suc i) e at acts = later_by_test t n f h (events_from (n + 1) h t) (actor f == t) refl i e (own_event t (n + 1) h i e at acts)
