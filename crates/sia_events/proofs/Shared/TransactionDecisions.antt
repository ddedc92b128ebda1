-- What can be told of a transaction, of any list of events: whether it has an event, what it wrote, how it ended, and
-- where it has an event its start.
use Rattle.std.proofs.Common.{◌≡◌, ◌⊎◌, inl, inr, ℕ, zero, suc, ◌+◌, ◌<◌, ◌≤◌, List, length, Option, Some, None, refl, ap, ◌∙◌, arith}
use Rattle.std.specs.Prelude.{MatchOption}
use Rattle.std.proofs.lemmas.Bool.{cases_eq}
use Rattle.std.proofs.lemmas.Option.{slice_get_within}
use Rattle.sia_events.specs.declared.event.Event.{Event}
use Rattle.sia_events.specs.declared.event.Event.TheVariants.{Write, Commit, Abort}
use Rattle.sia_events.specs.Places.{at_place}
use Rattle.sia_events.specs.Events.{actor, named_start}
use Rattle.sia_events.specs.Transactions.{ActsAt, HasEvent, IsFirstEvent, StartsAt, IsCommitted, IsAborted, IsOpen, WritesAt, Wrote, WroteBefore}
use Rattle.sia_events.proofs.Shared.Decisions.{all_three, denied, Decided, first_below, same_option}
use Rattle.sia_events.proofs.OfLaws.Unspelling.{same_event}

-- an event stands at a place from 1 to the number of events
pub place_within : {A : Type 0} (h : List A) (p : ℕ) (e : A) → at_place h p ≡ Some e → (0 < p) × (p ≤ length h)
place_within h p e at = grind (arith, slice_get_within)

-- whether a given event stands at a place
pub at_or_not : (h : List Event) (p : ℕ) (e : Event) → Decided (at_place h p ≡ Some e)
at_or_not h p e = same_option same_event (at_place h p) (Some e)

-- the first place of which P holds, or none, where P holds of places with events alone
module _ (h : List Event) (P : ℕ → Type 0) (decide : (p : ℕ) → Decided (P p)) (within : (p : ℕ) → P p → p ≤ length h) where
  pub first_place : ((p : ℕ) × P p × ((q : ℕ) → P q → p ≤ q)) ⊎ ((p : ℕ) → ¬ P p)
  first_place = elim (first_below P decide (length h + 1)) [
    | inl found ↦ inl (found.0, found.2, found.3)
    | inr none ↦ inr (λ p here. none p (let w : p ≤ length h = within p here in omega arith) here)
  ]

  pub some_place : Decided ((p : ℕ) × P p)
  some_place = elim first_place [ inl found ↦ inl (found.0, found.1) | inr none ↦ inr (λ s. none s.0 s.1) ]

-- whether a given event stands at some place
pub stands_or_not : (h : List Event) (e : Event) → Decided ((p : ℕ) × (at_place h p ≡ Some e))
stands_or_not h e = some_place h (λ p. at_place h p ≡ Some e) (λ p. at_or_not h p e) (λ p at. (place_within h p e at).1)

pub committed_or_not : (h : List Event) (t : ℕ) → Decided (IsCommitted h t)
committed_or_not h t = stands_or_not h (Commit t)

pub aborted_or_not : (h : List Event) (t : ℕ) → Decided (IsAborted h t)
aborted_or_not h t = stands_or_not h (Abort t)

pub wrote_or_not : (h : List Event) (t k : ℕ) → Decided (Wrote h t k)
wrote_or_not h t k = stands_or_not h (Write t k)

pub wrote_before_or_not : (h : List Event) (t k p : ℕ) → Decided (WroteBefore h t k p)
wrote_before_or_not h t k p = elim (first_below (WritesAt h t k) (λ q. at_or_not h q (Write t k)) p) [
  | inl found ↦ inl (found.0, found.1, found.2)
  | inr none ↦ inr (λ w. none w.0 w.1 w.2)
]

-- whether the event at a place is one of t
pub acts_or_not : (h : List Event) (t p : ℕ) → Decided (ActsAt h t p)
acts_or_not h t p = of_place (at_place h p) refl
  where
    of_place : (o : Option Event) → at_place h p ≡ o → Decided (ActsAt h t p)
    of_place None is = inr (λ a. let at : at_place h p ≡ Some a.0 = a.1 in cc)
    of_place (Some e) is = elim (cases_eq (actor e) t) [
      | inl same ↦ inl (e, is, same)
      | inr other ↦ inr (λ a. let at : at_place h p ≡ Some a.0 = a.1 in other (ap actor (let p : e ≡ a.0 = cc in p) ∙ a.2))
    ]

acts_within : (h : List Event) (t p : ℕ) → ActsAt h t p → p ≤ length h
acts_within h t p a = (place_within h p a.0 a.1).1

pub has_event_or_not : (h : List Event) (t : ℕ) → Decided (HasEvent h t)
has_event_or_not h t = some_place h (ActsAt h t) (acts_or_not h t) (acts_within h t)

-- what has an event has a first one
pub has_first : (h : List Event) (t : ℕ) → HasEvent h t → (p : ℕ) × (e : Event) × IsFirstEvent h t p e
has_first h t has = elim (first_place h (ActsAt h t) (acts_or_not h t) (acts_within h t)) [
  | inl found ↦ (found.0, found.1.0, (found.1.1, found.1.2, found.2))
  | inr none ↦ absurd (none has.0 has.1)
]

-- and a start
pub has_start : (h : List Event) (t : ℕ) → HasEvent h t → (s : ℕ) × StartsAt h t s
has_start h t has = let first = has_first h t has in of_first first.0 first.1 first.2
  where
    of_name : (p : ℕ) (o : Option ℕ) → 0 < p → (s : ℕ) × MatchOption o (s + 1 ≡ p) (λ n. s ≡ n)
    of_name p (Some n) above = (n, refl)
    of_name zero None above = absurd (omega arith)
    of_name (suc i) None above = (i, omega arith)

    of_first : (p : ℕ) (e : Event) → IsFirstEvent h t p e → (s : ℕ) × StartsAt h t s
    of_first p e first =
        let named = of_name p (named_start e) (place_within h p e first.0).0 in
        (named.0, (p, e, first, named.1))

pub open_or_not : (h : List Event) (t : ℕ) → Decided (IsOpen h t)
open_or_not h t = all_three (HasEvent h t) (¬ IsCommitted h t) (¬ IsAborted h t) (has_event_or_not h t) (denied (IsCommitted h t) (committed_or_not h t)) (denied (IsAborted h t) (aborted_or_not h t))
