-- What can be told of an option, of a list, and of the events of a history.
use Rattle.std.proofs.Common.{◌≡◌, ◌⊎◌, inl, inr, ℕ, zero, suc, ◌≤◌, List, length, slice_get, Option, Some, None, refl, sym, subst, arith}
use Rattle.std.proofs.lemmas.Bool.{cases_lt, cases_eq}
use Rattle.std.proofs.lemmas.Option.{same_Some, slice_get_within}
use Rattle.sia_events.specs.declared.event.Event.{Event}
use Rattle.sia_events.specs.declared.event.Event.TheVariants.{Write}
use Rattle.sia_events.specs.Places.{at_place}
use Rattle.sia_events.proofs.Shared.Decisions.{Decided, first_below}
pub use Rattle.sia_events.proofs.Shared.Decisions.{all_three as three_decided, denied as not_decided}

pub either_decided : (P Q : Type 0) → Decided P → Decided Q → Decided (P ⊎ Q)
either_decided P Q p q = grind arith

pub le_decided : (m n : ℕ) → Decided (m ≤ n)
le_decided m n = elim (cases_lt n m) [ inl less ↦ inr (λ l. omega arith) | inr more ↦ inl more ]

-- what stands in an option has P
pub inside_decided : {A : Type 0} (P : A → Type 0) → ((e : A) → Decided (P e)) → (o : Option A) → Decided ((e : A) × (o ≡ Some e) × P e)
inside_decided P decide None = inr (λ w. let e = w.1 in cc)
inside_decided P decide (Some e) = elim (decide e) [
  | inl p ↦ inl (e, refl, p)
  | inr fails ↦ inr (λ w. fails (subst P (sym (same_Some e w.0 w.1)) w.2))
]

-- an element of a list that has P
pub element_decided : {A : Type 0} (P : A → Type 0) → ((e : A) → Decided (P e)) → (xs : List A) → Decided ((i : ℕ) × (e : A) × (slice_get xs i ≡ Some e) × P e)
element_decided {A} P decide xs =
    elim (first_below (λ i. (e : A) × (slice_get xs i ≡ Some e) × P e) (λ i. inside_decided P decide (slice_get xs i)) (length xs)) [
      | inl w ↦ inl (w.0, w.2.0, w.2.1, w.2.2)
      | inr none ↦ inr (λ w. none w.0 (slice_get_within xs w.0 w.1 w.2) (w.1, w.2, w.3))
    ]

-- an event of a history that has P
pub event_decided : (P : Event → Type 0) → ((e : Event) → Decided (P e)) → (h : List Event) → Decided ((p : ℕ) × (e : Event) × (at_place h p ≡ Some e) × P e)
event_decided P decide h = elim (element_decided P decide h) [
  | inl w ↦ inl (suc w.0, w.1, w.2, w.3)
  | inr none ↦ inr (λ w. nowhere none w.0 w.1 w.2 w.3)
]
  where
    nowhere : ¬ ((i : ℕ) × (e : Event) × (slice_get h i ≡ Some e) × P e) → (p : ℕ) (e : Event) → at_place h p ≡ Some e → P e → ⊥
    nowhere none zero e at has = cc
    nowhere none (suc i) e at has = none (i, e, at, has)

pub is_write : (t k : ℕ) (e : Event) → Decided (e ≡ Write t k)
is_write t k e = grind (arith, cases_eq)
