-- Named starts only add: what the grammar without them accepts or refuses is accepted or refused alike, unless the faulty
-- token has the form of a named start.
use Rattle.std.proofs.Common.{◌≡◌, ◌≢◌, ◌⊎◌, inl, inr, ℕ, ◌+◌, ◌<◌, ◌≤◌, List, Some, refl, ap, sym, subst, ◌∙◌, arith}
use Rattle.std.specs.Prelude.{◌↔◌, MatchOption, length}
use Rattle.std.proofs.lemmas.Option.{MatchOption-at_none}
use Rattle.sia_events.specs.Limits.{Limits}
use Rattle.sia_events.specs.declared.event.Event.{Event}
use Rattle.sia_events.specs.declared.fault.Reason.{Reason}
use Rattle.sia_events.specs.declared.fault.Reason.TheVariants.{TooManyEvents, BadEvent}
use Rattle.sia_events.specs.declared.fault.TextFault.{TextFault}
use Rattle.sia_events.specs.declared.fault.TextFault.TheVariants.{NoMemory, TextTooLong, Refused}
use Rattle.sia_events.specs.Places.{at_place}
use Rattle.sia_events.specs.Text.{spell, tokens, StandsFor}
use Rattle.sia_events.specs.Refusals.{TokenHas, HasReasonIn, reason_number, IsFirstFaultIn, IsRefusalIn, IsRefusal, IsAcceptedIn, IsAccepted, AnyForm}
use Rattle.sia_events.specs.Transactions.{IsFirstEvent, StartsAt}
use Rattle.sia_events.specs.Laws.{IsPlain, NamesStart, StartsPlainly, NamedStartsOnlyAdd}
use Rattle.sia_events.proofs.Shared.Decisions.{Decided, at_most}
use Rattle.sia_events.proofs.OfLaws.Unspelling.{spell_injective, spelling_or_not}
use Rattle.sia_events.proofs.Writing.WellFormed.{accepted_short, accepted_none_in, place_spelled}
use Rattle.sia_events.proofs.Shared.FirstFaults.{above_two}

-- whether an event names a start can be told
plain_or_not : (e : Event) → Decided (IsPlain e)
plain_or_not e = grind (arith)

module _ (limits : Limits) (ts : List (List ℕ)) (i : ℕ) (w : List ℕ) where
  -- what spells a plain event has in the grammar without named starts each reason that it has in the whole one
  plain_has : (e : Event) → IsPlain e → w ≡ spell e → (r : Reason) → TokenHas limits AnyForm ts i w r → TokenHas limits IsPlain ts i w r
  plain_has e plain is = of_reason
    where
      as_plain : (f : Event) → w ≡ spell f → IsPlain f
      as_plain f also = subst IsPlain (spell_injective e f (sym is ∙ also)) plain

      of_reason : (r : Reason) → TokenHas limits AnyForm ts i w r → TokenHas limits IsPlain ts i w r
      of_reason TooManyEvents h = h
      of_reason BadEvent h = absurd (h e tt is)
      of_reason _ h = (h.0, as_plain h.0 h.2, h.2, h.3)

  -- but for a spelling of no event, a reason without named starts is one in the whole grammar
  any_has : (r : Reason) → reason_number r ≢ 3 → TokenHas limits IsPlain ts i w r → TokenHas limits AnyForm ts i w r
  any_has r other h = grind (arith)

-- where a token spells a plain event, its reasons are those without named starts
plain_or : (limits : Limits) (ts : List (List ℕ)) (i : ℕ) (r : Reason) → ¬ HasReasonIn limits IsPlain ts i BadEvent → HasReasonIn limits AnyForm ts i r → ¬ ¬ HasReasonIn limits IsPlain ts i r
plain_or limits ts i r spelled h none = spelled (h.0, h.1, λ e plain is. none (h.0, h.1, plain_has limits ts i h.0 e plain is r h.2))

-- a first fault without named starts, in the whole grammar
module _ (limits : Limits) (ts : List (List ℕ)) (i : ℕ) (r : Reason) (fault : IsFirstFaultIn limits IsPlain ts i r) where
  still_first : (j : ℕ) (s : Reason) → HasReasonIn limits AnyForm ts j s → i ≤ j
  still_first j s h = at_most i j (λ less.
      plain_or limits ts j s (λ bad. let most : i ≤ j = fault.first j BadEvent bad in omega arith) h (λ has. let most : i ≤ j = fault.first j s has in omega arith))

  -- where the token spells a plain event
  spelled_fault : 3 < reason_number r → IsFirstFaultIn limits AnyForm ts i r
  spelled_fault later = record {
    has = (fault.has.0, fault.has.1, any_has limits ts i fault.has.0 r (λ e. omega arith) fault.has.2);
    first = still_first;
    least = λ s h. at_most (reason_number r) (reason_number s) (λ less.
        plain_or limits ts i s (λ bad. let most : reason_number r ≤ 3 = fault.least BadEvent bad in omega arith) h
        (λ has. let most : reason_number r ≤ reason_number s = fault.least s has in omega arith));
  }

-- the reasons from BadEvent on have numbers from 3
from_three : (limits : Limits) (ts : List (List ℕ)) (i : ℕ) → ¬ HasReasonIn limits AnyForm ts i TooManyEvents → (s : Reason) → HasReasonIn limits AnyForm ts i s → 3 ≤ reason_number s
from_three limits ts i few s h = grind (arith)

-- the first fault is the same, unless its token has the form of a named start
fault_alike : (limits : Limits) (text : List ℕ) (i : ℕ) (r : Reason) → IsFirstFaultIn limits IsPlain (tokens text) i r → IsFirstFaultIn limits AnyForm (tokens text) i r ⊎ ((Refused i r ≡ Refused i BadEvent) × NamesStart text i)
fault_alike limits text i TooManyEvents f = inl (record { has = f.has; first = still_first limits (tokens text) i TooManyEvents f; least = λ s h. above_two s })
fault_alike limits text i BadEvent f = elim (spelling_or_not f.has.0) [
  | inl is ↦ inr (refl, (is.0, (λ plain. f.has.2 is.0 plain is.1), f.has.1 ∙ ap Some is.1))
  | inr none ↦ inl (record {
    has = (f.has.0, f.has.1, λ e form. none e);
    first = still_first limits (tokens text) i BadEvent f;
    least = from_three limits (tokens text) i (λ many. let most : 3 ≤ 2 = f.least TooManyEvents many in omega arith);
  })
]
fault_alike limits text i x f = inl (spelled_fault limits (tokens text) i x f (omega arith))

refused_alike : (limits : Limits) (text : List ℕ) (fault : TextFault) → IsRefusalIn limits IsPlain text fault → IsRefusal limits text fault ⊎ ((i : ℕ) × (fault ≡ Refused i BadEvent) × NamesStart text i)
refused_alike limits text NoMemory refusal = absurd refusal
refused_alike limits text TextTooLong refusal = inl refusal
refused_alike limits text (Refused i r) refusal = elim (fault_alike limits text i r refusal.1) [
  | inl f ↦ inl (refusal.0, f)
  | inr names ↦ inr (i, names.0, names.1)
]

accepted_alike : (limits : Limits) (text : List ℕ) → IsAcceptedIn limits IsPlain text → IsAccepted limits text
accepted_alike limits text a NoMemory refusal = refusal
accepted_alike limits text a TextTooLong refusal = let short : length text ≤ limits.bytes = accepted_short limits IsPlain text a in omega arith
accepted_alike limits text a (Refused i r) refusal = plain_or limits (tokens text) i r (accepted_none_in limits IsPlain text a i BadEvent) refusal.1.has (accepted_none_in limits IsPlain text a i r)

module _ (limits : Limits) (text : List ℕ) (a : IsAcceptedIn limits IsPlain text) (h : List Event) (stands : StandsFor text h) where
  -- no event of what is accepted without named starts names one
  none_named : (p : ℕ) (e : Event) → at_place h p ≡ Some e → IsPlain e
  none_named p e at = elim (plain_or_not e) [
    | inl plain ↦ plain
    | inr names ↦ absurd (accepted_none_in limits IsPlain text a p BadEvent (
      spell e,
      subst (λ ts. at_place ts p ≡ Some (spell e)) (sym stands) (place_spelled h p e at),
      λ f plain is. names (subst IsPlain (spell_injective f e (sym is)) plain),
    ))
  ]

  starts_alike : (t s : ℕ) → StartsAt h t s ↔ StartsPlainly h t s
  starts_alike t s = (
    (λ start.
        let right_after = MatchOption-at_none (s + 1 ≡ start.0) (λ n. s ≡ n) (none_named start.0 start.1 start.2.0) start.3 in
        (start.1, subst (λ q. IsFirstEvent h t q start.1) (sym right_after) start.2)),
    (λ start. (s + 1, start.0, start.1, subst (λ o. MatchOption o (s + 1 ≡ s + 1) (λ n. s ≡ n)) (sym (none_named (s + 1) start.0 start.1.0)) refl)),
  )

-- named starts only add
pub named_starts_only_add : (limits : Limits) (text : List ℕ) → NamedStartsOnlyAdd limits text
named_starts_only_add limits text = record {
  accepted = accepted_alike limits text;
  starts = λ a h stands. starts_alike limits text a h stands;
  refused = refused_alike limits text;
}
