-- What an accepted text and a well-formed history keep.
use Rattle.std.proofs.Common.{◌≡◌, ◌≢◌, inl, inr, ℕ, zero, suc, ◌+◌, ◌-◌, ◌<◌, ◌≤◌, List, [], ◌∷◌, map, length, slice_get, Option, Some, None, refl, ap, sym, subst, ◌∙◌, arith}
use Rattle.std.proofs.lemmas.Bool.{cases_lt}
use Rattle.std.proofs.lemmas.List.{length-map}
use Rattle.std.proofs.lemmas.Option.{slice_get-map}
use Rattle.std.specs.Option.{option_map}
use Rattle.sia_events.specs.Limits.{Limits, greatest}
use Rattle.sia_events.specs.declared.event.Event.{Event}
use Rattle.sia_events.specs.declared.event.Event.TheVariants.{Write, Commit}
use Rattle.sia_events.specs.declared.fault.Reason.{Reason}
use Rattle.sia_events.specs.declared.fault.Reason.TheVariants.{TooManyEvents, BadNumber, AlreadyEnded, NotWritten}
use Rattle.sia_events.specs.declared.fault.TextFault.TheVariants.{TextTooLong, Refused}
use Rattle.sia_events.specs.Places.{at_place}
use Rattle.sia_events.specs.Events.{actor, Saw}
use Rattle.sia_events.specs.Text.{spell, tokens, canonical}
use Rattle.sia_events.specs.Refusals.{IsInRange, reason_number, HasReason, HasReasonIn, TokenHas, EventHas, IsEarlier, IsFirstFaultIn, IsAccepted, IsAcceptedIn, AnyForm, IsWellFormed}
use Rattle.sia_events.proofs.OfLaws.Unspelling.{spell_injective}
use Rattle.sia_events.proofs.Shared.Canonical.{canonical_stands}
use Rattle.sia_events.proofs.Shared.Decisions.{Decided, at_most}
use Rattle.sia_events.proofs.Shared.TransactionDecisions.{wrote_before_or_not}
use Rattle.sia_events.proofs.Shared.EventCases.{ranges_cases}

numbers_below : (r : Reason) → reason_number r < 11
numbers_below r = grind (arith)

-- where no first fault is, nothing has a reason
module _ (limits : Limits) (Form : Event → Type 0) (ts : List (List ℕ)) (none : (i : ℕ) (r : Reason) → ¬ IsFirstFaultIn limits Form ts i r) where
  -- nothing before number n has one: so it has none with a number below m
  none_at : (n m : ℕ) → ((j : ℕ) (s : Reason) → j < n → ¬ HasReasonIn limits Form ts j s) → (r : Reason) → reason_number r < m → ¬ HasReasonIn limits Form ts n r
  none_at n zero before r below has = absurd (omega arith)
  none_at n (suc m) before r below has =
      let lower : (s : Reason) → reason_number s < reason_number r → ¬ HasReasonIn limits Form ts n s = λ s less. none_at n m before s (omega arith) in
      none n r (record {
        has = has;
        first = λ j s h. at_most n j (λ less. before j s less h);
        least = λ s h. at_most (reason_number r) (reason_number s) (λ less. lower s less h);
      })

  none_below : (n : ℕ) (j : ℕ) (s : Reason) → j < n → ¬ HasReasonIn limits Form ts j s
  none_below zero j s below has = absurd (omega arith)
  none_below (suc n) j s below has = elim (cases_lt j n) [
    | inl less ↦ none_below n j s less has
    | inr at_least ↦ let same : j ≡ n = omega arith in
        none_at n 11 (none_below n) s (numbers_below s) (subst (λ i. HasReasonIn limits Form ts i s) same has)
  ]

  none_has : (i : ℕ) (r : Reason) → ¬ HasReasonIn limits Form ts i r
  none_has i r = none_below (i + 1) i r (omega arith)

pub accepted_short : (limits : Limits) (Form : Event → Type 0) (text : List ℕ) → IsAcceptedIn limits Form text → length text ≤ limits.bytes
accepted_short limits Form text a = at_most (length text) limits.bytes (a TextTooLong)

-- no token of an accepted text has a reason
pub accepted_none_in : (limits : Limits) (Form : Event → Type 0) (text : List ℕ) → IsAcceptedIn limits Form text → (i : ℕ) (r : Reason) → ¬ HasReasonIn limits Form (tokens text) i r
accepted_none_in limits Form text a = none_has limits Form (tokens text) (λ i r f. a (Refused i r) (accepted_short limits Form text a, f))

pub accepted_none : (limits : Limits) (text : List ℕ) → IsAccepted limits text → (i : ℕ) (r : Reason) → ¬ HasReason limits (tokens text) i r
accepted_none limits text a = accepted_none_in limits AnyForm text a

-- f stands before place i
abbrev pub IsBefore : List Event → ℕ → Event → Type 0
IsBefore h i f = (j : ℕ) × (j < i) × (at_place h j ≡ Some f)

pub at_place-map : (h : List Event) (j : ℕ) → at_place (map spell h) j ≡ option_map spell (at_place h j)
at_place-map h j = grind (arith, slice_get-map)

spelled : (o : Option Event) (f : Event) → option_map spell o ≡ Some (spell f) → o ≡ Some f
spelled None f e = cc
spelled (Some g) f e = ap Some (spell_injective g f (let p : spell g ≡ spell f = cc in p))

pub earlier_before : (h : List Event) (i : ℕ) (f : Event) → IsEarlier (map spell h) i f → IsBefore h i f
earlier_before h i f e = (e.0, e.1, spelled (at_place h e.0) f (sym (at_place-map h e.0) ∙ e.2))

pub before_earlier : (h : List Event) (i : ℕ) (f : Event) → IsBefore h i f → IsEarlier (map spell h) i f
before_earlier h i f b = (b.0, b.1, at_place-map h b.0 ∙ ap (option_map spell) b.2)

-- the reasons of an event go by what is before it
pub moved : (n : ℕ) (Earlier Before : Event → Type 0) → ((f : Event) → Before f → Earlier f) → ((f : Event) → Earlier f → Before f) → (e : Event) (r : Reason) → EventHas n Before e r → EventHas n Earlier e r
moved n Earlier Before to from e r h = grind (arith)

pub token_has : (limits : Limits) (ts : List (List ℕ)) (i : ℕ) (e : Event) (r : Reason) → EventHas (i - 1) (IsEarlier ts i) e r → TokenHas limits AnyForm ts i (spell e) r
token_has limits ts i e r h = grind (arith)

-- no token of a well-formed history's text has a reason
spelled_none : (h : List Event) → IsWellFormed h → (i : ℕ) (r : Reason) → ¬ HasReason greatest (map spell h) i r
spelled_none h wf i r = subst (λ ts. ¬ HasReason greatest ts i r) (canonical_stands h) (accepted_none greatest (canonical h) wf i r)

pub place_spelled : (h : List Event) (i : ℕ) (e : Event) → at_place h i ≡ Some e → at_place (map spell h) i ≡ Some (spell e)
place_spelled h i e at = at_place-map h i ∙ ap (option_map spell) at

-- no event of a well-formed history has a reason, by the events before it
pub event_has_none : (h : List Event) → IsWellFormed h → (i : ℕ) (e : Event) → at_place h i ≡ Some e → (r : Reason) → ¬ EventHas (i - 1) (IsBefore h i) e r
event_has_none h wf i e at r has = grind (arith, spelled_none h wf i r (spell e, place_spelled h i e at, token_has greatest (map spell h) i e r (moved (i - 1) (IsEarlier (map spell h) i) (IsBefore h i) (before_earlier h i) (earlier_before h i) e r has)))

-- an event follows no end of its transaction
pub nothing_after_end : (h : List Event) → IsWellFormed h → (i j : ℕ) (e : Event) → at_place h i ≡ Some e → at_place h j ≡ Some (Commit (actor e)) → i ≤ j
nothing_after_end h wf i j e at c = at_most i j (λ less. event_has_none h wf i e at AlreadyEnded (inl (j, less, c)))

-- a transaction commits once
pub one_commit : (h : List Event) → IsWellFormed h → (t i j : ℕ) → at_place h i ≡ Some (Commit t) → at_place h j ≡ Some (Commit t) → i ≡ j
one_commit h wf t i j a b = grind (arith, nothing_after_end h wf i j (Commit t) a b, nothing_after_end h wf j i (Commit t) b a)

pub at_index : {A : Type 0} (h : List A) (i : ℕ) → i < length h → (e : A) × (slice_get h i ≡ Some e)
at_index [] i below = absurd (omega arith)
at_index (e ∷ h) zero below = (e, refl)
at_index (e ∷ h) (suc i) below = at_index h i (omega arith)

-- tokens of which none has a reason are no more than the events that are allowed
pub few_fine : (limits : Limits) (ts : List (List ℕ)) → ((i : ℕ) (r : Reason) → ¬ HasReason limits ts i r) → length ts ≤ limits.events
few_fine limits ts none = at_most (length ts) limits.events (λ more.
    let found = at_index ts limits.events more in
    none (suc limits.events) TooManyEvents (found.0, found.1, omega arith))

-- a well-formed history has at most 500,000,000 events
pub few_events : (h : List Event) → IsWellFormed h → length h ≤ 500000000
few_events h wf = grind (arith, few_fine greatest (map spell h) (spelled_none h wf), length-map h spell)

-- whether a transaction wrote a key before a place can be told
pub before_or_not : (h : List Event) (i v k : ℕ) → Decided (IsBefore h i (Write v k))
before_or_not h i v k = wrote_before_or_not h v k i

-- a version that was seen and isn't 0 was written before
pub seen_was_written : (h : List Event) → IsWellFormed h → (i k v : ℕ) (e : Event) → at_place h i ≡ Some e → Saw e k v → v ≢ 0 → IsBefore h i (Write v k)
seen_was_written h wf i k v e at saw v0 = elim (before_or_not h i v k) [
  | inl b ↦ b
  | inr n ↦ absurd (event_has_none h wf i e at NotWritten (k, v, saw, v0, n))
]

-- the numbers of a well-formed history's events are in their ranges
pub event_in_range : (h : List Event) → IsWellFormed h → (i : ℕ) (e : Event) → at_place h i ≡ Some e → IsInRange e
event_in_range h wf i e at = elim (ranges_cases e) [ inl r ↦ r.1 | inr r ↦ absurd (event_has_none h wf i e at BadNumber r.1) ]
