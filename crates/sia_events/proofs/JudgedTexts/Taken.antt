-- What taking in the event of a token answers.
use Rattle.std.proofs.Common.{◌≡◌, ◌≢◌, ℕ, List, [], ◌∷◌, ◌++◌, length, Some, None, refl, sym, arith}
use Rattle.std.specs.Prelude.{Result, Ok, Err, ⊤, OnOk, IfErr}
use Rattle.sia_events.specs.declared.event.Event.{Event}
use Rattle.sia_events.specs.declared.fault.Refusal.{Refusal}
use Rattle.sia_events.specs.declared.fault.Refusal.TheVariants as refusals
use Rattle.sia_events.specs.declared.draft.Draft.{Draft}
use Rattle.sia_events.specs.Limits.{Limits}
use Rattle.sia_events.specs.Parsing.{Fails, event_at}
use Rattle.sia_events.specs.Judging.{judged}
use Rattle.sia_events.specs.LogTables.{events_of}
use Rattle.sia_events.specs.Drafts.{Knows, Takes, Stays}
use Rattle.sia_events.proofs.JudgedTexts.OneToken.{judged_read, judged_unread}

pub taken : (limits : Limits) (d e : Draft) (ev : Event) (token : List ℕ) (r : Result ⊤ Refusal) → length (events_of d.tables) ≢ limits.events → event_at token ≡ Ok ev → Takes d e ev r → OnOk r ((x : Event) × (judged limits (events_of d.tables) token ≡ Ok x) × (events_of e.tables ≡ events_of d.tables ++ x ∷ []))
unfolding Takes
taken limits d e ev token (Ok done) room read takes = (ev, judged_read limits (events_of d.tables) token ev None room read (sym takes.0), takes.1)
taken limits d e ev token (Err fault) room read takes = tt

pub knows_after : (d e : Draft) (ev : Event) (r : Result ⊤ Refusal) → Takes d e ev r → OnOk r (Knows e)
unfolding Takes
knows_after d e ev r takes = grind (arith)

pub refused : (limits : Limits) (d e : Draft) (ev : Event) (token : List ℕ) (r : Result ⊤ Refusal) → length (events_of d.tables) ≢ limits.events → event_at token ≡ Ok ev → Takes d e ev r → IfErr r (λ fault. Fails fault (judged limits (events_of d.tables) token))
unfolding Takes
refused limits d e ev token (Err (refusals.Bad reason)) room read takes = judged_read limits (events_of d.tables) token ev (Some reason) room read (sym takes.0)
refused limits d e ev token _ room read takes = tt

pub stays : (d e : Draft) (ev : Event) (r : Result ⊤ Refusal) → Takes d e ev r → IfErr r (λ fault. Stays fault (events_of d.tables) (events_of e.tables))
unfolding Takes
stays d e ev (Err (refusals.Bad reason)) takes = takes.1
stays d e ev _ takes = tt

-- a token that gives no event
pub fails_unread : (limits : Limits) (events : List Event) (token : List ℕ) (fault : Refusal) → length events ≢ limits.events → Fails fault (event_at token) → Fails fault (judged limits events token)
fails_unread limits events token (refusals.Bad reason) room fails = judged_unread limits events token reason room fails
fails_unread limits events token refusals.NoMemory room fails = tt

pub stays_same : (fault : Refusal) (events : List Event) → Stays fault events events
stays_same (refusals.Bad reason) events = refl
stays_same refusals.NoMemory events = tt
