-- Reading what was written gives the history back.
use Rattle.std.proofs.Common.{inl, inr, List, Ok, Err, refl, ap}
use Rattle.sia_events.specs.declared.event.Event.{Event}
use Rattle.sia_events.specs.declared.fault.TextFault.TheVariants.{NoMemory, TextTooLong, Refused}
use Rattle.sia_events.specs.Limits.{Limits}
use Rattle.sia_events.specs.Text.{canonical}
use Rattle.sia_events.specs.Refusals.{IsAccepted}
use Rattle.sia_events.specs.Laws.{RoundTrip}
use Rattle.sia_events.proofs.Shared.Canonical.{canonical_stands}
use Rattle.sia_events.proofs.OfLaws.Histories.{one_history}

pub round_trip : (limits : Limits) (h : List Event) → IsAccepted limits (canonical h) → RoundTrip limits h
round_trip limits h w (Ok read) reads = inl (ap (λ (events : List Event). Ok events) (one_history (canonical h) read h reads.1 (canonical_stands h)))
round_trip limits h w (Err NoMemory) reads = inr refl
round_trip limits h w (Err TextTooLong) refusal = absurd (w TextTooLong refusal)
round_trip limits h w (Err (Refused i r)) refusal = absurd (w (Refused i r) refusal)
