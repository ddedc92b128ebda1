-- A text has one refusal.
use Rattle.std.proofs.Common.{◌≡◌, ℕ, ◌≤◌, List, [], ◌∷◌, slice_get, Some, refl, ap, sym, subst, ◌∙◌, arith, rules}
use Rattle.sia_events.specs.Limits.{Limits}
use Rattle.sia_events.specs.declared.fault.Reason.{Reason}
use Rattle.sia_events.specs.declared.fault.Reason.TheVariants.{TooManyEvents, BadEvent, BadNumber, AlreadyEnded, AlreadyBegun, EmptyRange, BadList, NotWritten, BadStart}
use Rattle.sia_events.specs.declared.fault.TextFault.{TextFault}
use Rattle.sia_events.specs.declared.fault.TextFault.TheVariants.{NoMemory, TextTooLong, Refused}
use Rattle.sia_events.specs.Text.{tokens}
use Rattle.sia_events.specs.Refusals.{reason_number, HasReasonIn, IsFirstFaultIn, IsRefusalIn, AnyForm, IsRefusal}
use Rattle.sia_events.specs.declared.event.Event.{Event}

-- the reasons at their numbers, from 2
abbrev reasons : List Reason
reasons = BadEvent ∷ BadEvent ∷ TooManyEvents ∷ BadEvent ∷ BadNumber ∷ AlreadyEnded ∷ AlreadyBegun ∷ EmptyRange ∷ BadList ∷ NotWritten ∷ BadStart ∷ []

numbered : (r : Reason) → slice_get reasons (reason_number r) ≡ Some r
numbered q0 = search rules

-- the number tells the reason
same_reason : (r s : Reason) → reason_number r ≡ reason_number s → r ≡ s
same_reason r s e = let p : Some r ≡ Some s = sym (numbered r) ∙ ap (slice_get reasons) e ∙ numbered s in cc

-- two first faults are one
pub one_fault : (limits : Limits) (Form : Event → Type 0) (ts : List (List ℕ)) (i j : ℕ) (r s : Reason) → IsFirstFaultIn limits Form ts i r → IsFirstFaultIn limits Form ts j s → (i ≡ j) × (r ≡ s)
one_fault limits Form ts i j r s f g =
    let below : i ≤ j = f.first j s g.has in
    let above : j ≤ i = g.first i r f.has in
    let same : i ≡ j = omega arith in
    let less : reason_number r ≤ reason_number s = f.least s (subst (λ n. HasReasonIn limits Form ts n s) (sym same) g.has) in
    search (rules, same_reason)

pub one_refusal_in : (limits : Limits) (Form : Event → Type 0) (text : List ℕ) (f g : TextFault) → IsRefusalIn limits Form text f → IsRefusalIn limits Form text g → f ≡ g
one_refusal_in limits Form text NoMemory g p q = absurd p
one_refusal_in limits Form text TextTooLong TextTooLong p q = refl
one_refusal_in limits Form text TextTooLong (Refused j s) p q = absurd (omega (arith, q.0))
one_refusal_in limits Form text (Refused i r) TextTooLong p q = absurd (omega (arith, p.0))
one_refusal_in limits Form text (Refused i r) (Refused j s) p q = let e = one_fault limits Form (tokens text) i j r s p.1 q.1 in let a = e.0 in let b = e.1 in cc
one_refusal_in limits Form text _ NoMemory p q = absurd q

-- two refusals of one text are one
pub one_refusal : (limits : Limits) (text : List ℕ) (f g : TextFault) → IsRefusal limits text f → IsRefusal limits text g → f ≡ g
one_refusal limits text f g p q = one_refusal_in limits AnyForm text f g p q
