-- In a well-formed history a transaction starts before each of its events, so before its commit or abort.
use Rattle.std.proofs.Common.{◌≡◌, ℕ, ◌+◌, ◌-◌, ◌<◌, ◌≤◌, List, Option, Some, None, refl, arith}
use Rattle.std.specs.Prelude.{MatchOption}
use Rattle.sia_events.specs.declared.event.Event.{Event}
use Rattle.sia_events.specs.declared.event.Event.TheVariants.{Commit}
use Rattle.sia_events.specs.declared.fault.Reason.TheVariants.{BadStart}
use Rattle.sia_events.specs.Places.{at_place}
use Rattle.sia_events.specs.Events.{named_start}
use Rattle.sia_events.specs.Refusals.{IsWellFormed}
use Rattle.sia_events.specs.Transactions.{ActsAt, StartsAt, CommitsAt}
use Rattle.sia_events.proofs.Shared.Decisions.{at_most}
use Rattle.sia_events.proofs.Shared.TransactionDecisions.{place_within}
use Rattle.sia_events.proofs.Writing.WellFormed.{event_has_none}

-- a named start is at most the number of events before the event that names it
pub named_start_below : (h : List Event) → IsWellFormed h → (p n : ℕ) (e : Event) → at_place h p ≡ Some e → named_start e ≡ Some n → n < p
named_start_below h wf p n e at name = grind (arith, at_most n (p - 1) (λ less. event_has_none h wf p e at BadStart (n, name, less)), place_within)

-- a transaction starts before each of its events
pub start_below : (h : List Event) → IsWellFormed h → (t s p : ℕ) → StartsAt h t s → ActsAt h t p → s < p
start_below h wf t s p a b = of_name (named_start a.1) refl a.3
  where
    first_at_most : a.0 ≤ p
    first_at_most = a.2.2 p b

    of_name : (o : Option ℕ) → named_start a.1 ≡ o → MatchOption o (s + 1 ≡ a.0) (λ n. s ≡ n) → s < p
    of_name None name is = omega (arith, first_at_most)
    of_name (Some n) name is =
        let below : n < a.0 = named_start_below h wf a.0 n a.1 a.2.0 name in
        omega (arith, first_at_most)

-- a transaction starts before it commits
pub start_below_commit : (h : List Event) → IsWellFormed h → (t s c : ℕ) → StartsAt h t s → CommitsAt h t c → s < c
start_below_commit h wf t s c a b = start_below h wf t s c a (Commit t, b, refl)
