-- What a token is judged to, by what it spells and by the first reason.
use Rattle.std.proofs.Common.{◌≡◌, ◌≢◌, ℕ, List, length, Option, Err, Ok, refl}
use Rattle.sia_events.specs.Limits.{Limits}
use Rattle.sia_events.specs.declared.event.Event.{Event}
use Rattle.sia_events.specs.declared.fault.Reason.{Reason}
use Rattle.sia_events.specs.declared.fault.Reason.TheVariants.{TooManyEvents}
use Rattle.sia_events.specs.Parsing.{event_at}
use Rattle.sia_events.specs.Known.{fault_of}
use Rattle.sia_events.specs.Judging.{judged, unless}
use Rattle.std.proofs.lemmas.Bool.{eq-eqb, ne_eqb}

pub judged_read : (limits : Limits) (events : List Event) (token : List ℕ) (e : Event) (fault : Option Reason) → length events ≢ limits.events → event_at token ≡ Ok e → fault ≡ fault_of events (length events) e → judged limits events token ≡ unless fault e
unfolding judged
judged_read limits events token e fault few read is = rw (ne_eqb (length events) limits.events few, read, is) refl

pub judged_full : (limits : Limits) (events : List Event) (token : List ℕ) → length events ≡ limits.events → judged limits events token ≡ Err TooManyEvents
unfolding judged
judged_full limits events token full = rw (eq-eqb (length events) limits.events full) refl

pub judged_unread : (limits : Limits) (events : List Event) (token : List ℕ) (reason : Reason) → length events ≢ limits.events → event_at token ≡ Err reason → judged limits events token ≡ Err reason
unfolding judged
judged_unread limits events token reason few read = rw (ne_eqb (length events) limits.events few, read) refl
