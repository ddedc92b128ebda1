-- The refusal of a text whose tokens spell events, from the reasons that these have among themselves.
use Rattle.std.proofs.Common.{◌≡◌, ◌≢◌, ℕ, ◌+◌, ◌-◌, ◌≤◌, List, map, length, Option, Some, None, refl, ap, sym, subst, ◌∙◌, arith}
use Rattle.std.specs.Option.{option_map}
use Rattle.std.proofs.lemmas.List.{length-map}
use Rattle.sia_events.specs.Limits.{Limits}
use Rattle.sia_events.specs.declared.event.Event.{Event}
use Rattle.sia_events.specs.declared.event.Event.TheVariants.{Write, Commit, Abort}
use Rattle.sia_events.specs.declared.fault.Reason.{Reason}
use Rattle.sia_events.specs.declared.fault.Reason.TheVariants.{TooManyEvents, BadEvent}
use Rattle.sia_events.specs.declared.fault.TextFault.TheVariants.{NoMemory, TextTooLong, Refused}
use Rattle.sia_events.specs.Places.{at_place}
use Rattle.sia_events.specs.Events.{actor, named_start, Saw}
use Rattle.sia_events.specs.Text.{spell, StandsFor}
use Rattle.sia_events.specs.Refusals.{IsInRange, EventHas, IsEarlier, TokenHas, HasReason, AnyForm, IsBegin, IsEmptyRange, HasBadList, IsAccepted}
use Rattle.sia_events.proofs.OfLaws.Unspelling.{spell_injective}
use Rattle.sia_events.proofs.Writing.WellFormed.{IsBefore, at_place-map, before_earlier, earlier_before, moved}
use Rattle.sia_events.proofs.Shared.TransactionDecisions.{place_within}

-- a reason of a token that spells an event is one of the event, or there are too many
token_event : (limits : Limits) (h : List Event) (i : ℕ) (e : Event) (r : Reason) → i ≢ limits.events + 1 → TokenHas limits AnyForm (map spell h) i (spell e) r → EventHas (i - 1) (IsBefore h i) e r
token_event limits h i e r few has = moved (i - 1) (IsBefore h i) (IsEarlier (map spell h) i) (earlier_before h i) (before_earlier h i) e r (of_reason r has)
  where
    same : (s : Reason) (f : Event) → spell e ≡ spell f → EventHas (i - 1) (IsEarlier (map spell h) i) f s → EventHas (i - 1) (IsEarlier (map spell h) i) e s
    same s f is given = subst (λ g. EventHas (i - 1) (IsEarlier (map spell h) i) g s) (spell_injective f e (sym is)) given

    of_reason : (s : Reason) → TokenHas limits AnyForm (map spell h) i (spell e) s → EventHas (i - 1) (IsEarlier (map spell h) i) e s
    of_reason TooManyEvents t = absurd (few t)
    of_reason BadEvent t = absurd (t e tt refl)
    of_reason r t = same r t.0 t.2 t.3

-- what has a reason spells an event, which has it
pub place_event : (limits : Limits) (h : List Event) (i : ℕ) (r : Reason) → i ≢ limits.events + 1 → HasReason limits (map spell h) i r → (e : Event) × (at_place h i ≡ Some e) × EventHas (i - 1) (IsBefore h i) e r
place_event limits h i r few has = of_place (at_place h i) refl
  where
    of_place : (o : Option Event) → at_place h i ≡ o → (e : Event) × (at_place h i ≡ Some e) × EventHas (i - 1) (IsBefore h i) e r
    of_place None is =
        let none : option_map spell None ≡ Some has.0 = sym (at_place-map h i ∙ ap (option_map spell) is) ∙ has.1 in
        absurd (let wrong : None ≡ Some has.0 = none in cc)
    of_place (Some e) is =
        let some : Some (spell e) ≡ Some has.0 = sym (at_place-map h i ∙ ap (option_map spell) is) ∙ has.1 in
        let word : spell e ≡ has.0 = cc in
        (e, is, token_event limits h i e r few (subst (λ w. TokenHas limits AnyForm (map spell h) i w r) (sym word) has.2))

-- an event that has no reason, by the events before it
pub record IsFit (n : ℕ) (Earlier : Event → Type 0) (e : Event) : Type 0 where
  pub in_range : IsInRange e
  pub not_committed : ¬ Earlier (Commit (actor e))
  pub not_aborted : ¬ Earlier (Abort (actor e))
  pub begins_first : IsBegin e → (f : Event) → Earlier f → actor f ≢ actor e
  pub not_empty : ¬ IsEmptyRange e
  pub list_good : ¬ HasBadList e
  pub written : (k v : ℕ) → Saw e k v → v ≢ 0 → Earlier (Write v k)
  pub start_there : (start : ℕ) → named_start e ≡ Some start → start ≤ n

pub fit_has_none : (n : ℕ) (Earlier : Event → Type 0) (e : Event) → IsFit n Earlier e → (r : Reason) → ¬ EventHas n Earlier e r
fit_has_none n Earlier e f r has = grind (arith)

-- a text within the limits is accepted, where no event that it stands for has a reason
pub accepted_from : (limits : Limits) (text : List ℕ) (h : List Event) → StandsFor text h → length h ≤ limits.events → length text ≤ limits.bytes → ((i : ℕ) (e : Event) → at_place h i ≡ Some e → IsFit (i - 1) (IsBefore h i) e) → IsAccepted limits text
accepted_from limits text h stands few short each NoMemory refusal = refusal
accepted_from limits text h stands few short each TextTooLong refusal = omega arith
accepted_from limits text h stands few short each (Refused i r) refusal = none (subst (λ ts. HasReason limits ts i r) stands refusal.1.has)
  where
    none : ¬ HasReason limits (map spell h) i r
    none has =
        let most : i ≤ limits.events = (let within = (place_within (map spell h) i has.0 has.1).1 in omega (arith, length-map h spell)) in
        let found = place_event limits h i r (λ is. omega arith) has in
        fit_has_none (i - 1) (IsBefore h i) found.0 (each i found.0 found.1) r found.2
