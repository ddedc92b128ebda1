-- An accepted text stands for one history, and this one is well-formed.
use Rattle.std.proofs.Common.{◌≡◌, inl, inr, ℕ, suc, ◌+◌, ◌≤◌, List, [], ◌∷◌, map, length, slice_get, Some, refl, sym, subst, ◌∙◌, arith}
use Rattle.sia_events.specs.Limits.{Limits, greatest, AreWithin}
use Rattle.sia_events.specs.declared.event.Event.{Event}
use Rattle.sia_events.specs.declared.fault.Reason.{Reason}
use Rattle.sia_events.specs.declared.fault.Reason.TheVariants.{TooManyEvents, BadEvent}
use Rattle.sia_events.specs.declared.fault.TextFault.TheVariants.{NoMemory, TextTooLong, Refused}
use Rattle.sia_events.specs.Text.{spell, tokens, canonical, StandsFor}
use Rattle.sia_events.specs.Refusals.{HasReason, AnyForm, IsAccepted, IsWellFormed}
use Rattle.sia_events.specs.Laws.{OneHistory, HasHistory, GreaterLimitsAccept}
use Rattle.sia_events.proofs.Shared.Canonical.{canonical_stands, spellings_injective}
use Rattle.sia_events.proofs.OfLaws.Shortest.{canonical_shortest}
use Rattle.sia_events.proofs.OfLaws.Unspelling.{spelling_or_not}
use Rattle.sia_events.proofs.Shared.TransactionDecisions.{place_within}
use Rattle.sia_events.proofs.Writing.WellFormed.{accepted_short, accepted_none, at_index}

-- a text stands for one history at most
pub one_history : (text : List ℕ) → OneHistory text
one_history text h others a b = spellings_injective h others (sym a ∙ b)

-- where each token spells an event, the tokens are the spellings of some events
all_spelled : (ts : List (List ℕ)) → ((i : ℕ) (w : List ℕ) → slice_get ts i ≡ Some w → (e : Event) × (w ≡ spell e)) → (h : List Event) × (ts ≡ map spell h)
all_spelled [] each = ([], refl)
all_spelled (w ∷ ts) each =
    let first = each 0 w refl in
    let rest = all_spelled ts (λ i v at. each (suc i) v at) in
    let a = first.1 in
    let b = rest.1 in
    (first.0 ∷ rest.0, λ i. a i ∷ b i)

-- an accepted text stands for a history
pub accepted_has_history : (limits : Limits) (text : List ℕ) → IsAccepted limits text → (h : List Event) × StandsFor text h
accepted_has_history limits text a = all_spelled (tokens text) (λ i w at. elim (spelling_or_not w) [
  | inl is ↦ is
  | inr none ↦ absurd (accepted_none limits text a (suc i) BadEvent (w, at, λ e form. none e))
])

-- no token of an accepted text has a reason under greater limits
none_more : (limits others : Limits) (text : List ℕ) → AreWithin limits others → IsAccepted limits text → (i : ℕ) (r : Reason) → ¬ HasReason others (tokens text) i r
none_more limits others text within a i TooManyEvents has =
    let many : i ≡ others.events + 1 = has.2 in
    let there : i ≤ length (tokens text) = (place_within (tokens text) i has.0 has.1).1 in
    let found = at_index (tokens text) limits.events (omega arith) in
    accepted_none limits text a (suc limits.events) TooManyEvents (found.0, found.1, omega arith)
none_more limits others text within a i s has = accepted_none limits text a i s has

-- a text with the same tokens, no longer than an accepted one, is accepted
accepted_alike : (limits others : Limits) (text other : List ℕ) → AreWithin limits others → tokens other ≡ tokens text → length other ≤ length text → IsAccepted limits text → IsAccepted others other
accepted_alike limits others text other within same short a NoMemory refusal = refusal
accepted_alike limits others text other within same short a TextTooLong refusal = let most = within.bytes in omega (arith, accepted_short limits AnyForm text a)
accepted_alike limits others text other within same short a (Refused i r) refusal =
    none_more limits others text within a i r (subst (λ ts. HasReason others ts i r) same refusal.1.has)

-- what some limits accept, greater ones accept
pub greater_accept : (text : List ℕ) → GreaterLimitsAccept text
greater_accept text limits others within a = accepted_alike limits others text text within refl (omega arith) a

-- the history of an accepted text is well-formed
pub accepted_well_formed : (limits : Limits) (text : List ℕ) (h : List Event) → AreWithin limits greatest → IsAccepted limits text → StandsFor text h → IsWellFormed h
accepted_well_formed limits text h within a stands = accepted_alike limits greatest text (canonical h) within (canonical_stands h ∙ sym stands) (canonical_shortest h text stands) a

pub has_history : (limits : Limits) (text : List ℕ) → AreWithin limits greatest → HasHistory limits text
has_history limits text within a =
    let found = accepted_has_history limits text a in
    (found.0, found.1, accepted_well_formed limits text found.0 within a found.1)
