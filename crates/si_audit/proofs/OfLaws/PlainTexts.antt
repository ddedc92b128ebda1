-- The rule of named starts doesn't touch a text in which no token has the form of one.
use Rattle.std.proofs.Common.{◌≡◌, ◌⊎◌, ◌↔◌, inl, inr, ℕ, List, Some, ap, ◌∙◌, arith}
use Rattle.sia_events.specs.Limits.{Limits}
use Rattle.sia_events.specs.declared.event.Event.{Event}
use Rattle.sia_events.specs.declared.fault.Reason.{Reason}
use Rattle.sia_events.specs.declared.fault.TextFault.{TextFault}
use Rattle.sia_events.specs.declared.fault.TextFault.TheVariants.{Refused}
use Rattle.sia_events.specs.Laws.{IsPlain, NamesStart}
use Rattle.sia_events.specs.Places.{at_place}
use Rattle.sia_events.specs.Refusals.{AnyForm, HasReasonIn, IsAccepted, IsAcceptedIn, IsRefusal, IsRefusalIn, TokenHas}
use Rattle.sia_events.specs.Text.{spell, tokens}
use Rattle.sia_events.proofs.OfLaws.NamedStarts.{named_starts_only_add}
use Rattle.si_audit.specs.declared.options.Form.{Form}
use Rattle.si_audit.specs.Laws.{IsPlainReport, PlainTextLaw}
use Rattle.si_audit.specs.Report.{IsReport}

-- whether an event names a start can be told
plain_or_not : (e : Event) → IsPlain e ⊎ ¬ IsPlain e
plain_or_not e = grind arith

module _ (limits : Limits) (text : List ℕ) (none : (i : ℕ) → ¬ NamesStart text i) where
  -- what a token spells is plain
  plain : (i : ℕ) (w : List ℕ) → at_place (tokens text) i ≡ Some w → (e : Event) → w ≡ spell e → IsPlain e
  plain i w at e is = elim (plain_or_not e) [ inl so ↦ so | inr names ↦ absurd (none i (e, names, at ∙ ap Some is)) ]

  -- so it has the same reasons
  alike : (i : ℕ) (w : List ℕ) → at_place (tokens text) i ≡ Some w → (r : Reason) → TokenHas limits AnyForm (tokens text) i w r ↔ TokenHas limits IsPlain (tokens text) i w r
  alike i w at r = grind (arith, plain)

  reason_alike : (i : ℕ) (r : Reason) → HasReasonIn limits AnyForm (tokens text) i r ↔ HasReasonIn limits IsPlain (tokens text) i r
  reason_alike i r = (λ x. (x.0, x.1, (alike i x.0 x.1 r).0 x.2), λ x. (x.0, x.1, (alike i x.0 x.1 r).1 x.2))

  refusal_alike : (fault : TextFault) → IsRefusal limits text fault ↔ IsRefusalIn limits IsPlain text fault
  refusal_alike (Refused i r) = (
    λ (short, f). (short, record { has = (reason_alike i r).0 f.has; first = λ j s x. f.first j s ((reason_alike j s).1 x); least = λ s x. f.least s ((reason_alike i s).1 x) }),
    λ (short, f). (short, record { has = (reason_alike i r).1 f.has; first = λ j s x. f.first j s ((reason_alike j s).0 x); least = λ s x. f.least s ((reason_alike i s).0 x) }),
  )
  refusal_alike fault = (λ x. x, λ x. x)

  accepted_plain : IsAccepted limits text → IsAcceptedIn limits IsPlain text
  accepted_plain a fault x = a fault ((refusal_alike fault).1 x)

  report_alike : (form : Form) (bytes : List ℕ) → IsReport limits form text bytes ↔ IsPlainReport limits form text bytes
  report_alike form bytes = grind (arith, refusal_alike, accepted_plain)

pub plain_text : (limits : Limits) (form : Form) (text : List ℕ) → PlainTextLaw limits form text
plain_text limits form text none = record {
  reports = report_alike limits text none form;
  starts = λ a h stands. (named_starts_only_add limits text).starts (accepted_plain limits text none a) h stands;
}
