-- What a read of a well-formed history saw was written before it.
use Rattle.std.proofs.Common.{◌≢◌, ℕ, List, subst, rules}
use Rattle.sia_events.specs.declared.event.Event.{Event}
use Rattle.sia_events.specs.Events.{actor}
use Rattle.sia_events.specs.Refusals.{IsTxn, IsInRange, IsWellFormed}
use Rattle.sia_events.specs.Transactions.{ActsAt, IsCommitted, WroteBefore}
use Rattle.sia_events.specs.Reads.{SawAt}
use Rattle.sia_events.specs.Dependencies.{IsCommittedWriter}
use Rattle.sia_events.proofs.Writing.WellFormed.{seen_was_written, event_in_range}

-- a version other than 0 that was seen was written before
pub saw_written : (h : List Event) → IsWellFormed h → (p t k v : ℕ) → SawAt h p t k v → v ≢ 0 → WroteBefore h v k p
saw_written h wf p t k v saw other = seen_was_written h wf p k v saw.0 saw.1 saw.3 other

-- so a committed one is of a committed writer of the key
pub saw_writer : (h : List Event) → IsWellFormed h → (p t k v : ℕ) → SawAt h p t k v → v ≢ 0 → IsCommitted h v → IsCommittedWriter h k v
saw_writer h wf p t k v saw other done = let w = saw_written h wf p t k v saw other in ((w.0, w.2), done)

actor_in_range : (e : Event) → IsInRange e → IsTxn (actor e)
actor_in_range q0 r = search rules

-- what has an event is a transaction by its number
pub actor_is_txn : (h : List Event) → IsWellFormed h → (t p : ℕ) → ActsAt h t p → IsTxn t
actor_is_txn h wf t p a = subst IsTxn a.2 (actor_in_range a.0 (event_in_range h wf p a.0 a.1))
