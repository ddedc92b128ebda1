-- The keys of a well-formed history's entries take 64 bits, and a rank tells the key.
use Rattle.std.proofs.Common.{ℕ, ◌<◌, ◌^◌, List, arith}
use Rattle.sia_events.specs.declared.event.Event.{Event}
use Rattle.sia_events.specs.declared.event.Event.TheVariants.{Begin, Read, Range, Write, Commit, Abort}
use Rattle.sia_events.specs.Events.{Saw}
use Rattle.sia_events.specs.Reads.{SawAt}
use Rattle.sia_events.specs.Transactions.{Wrote}
use Rattle.sia_events.specs.Refusals.{IsInRange, IsWellFormed}
use Rattle.sia_events.proofs.Writing.WellFormed.{event_in_range}
use Rattle.sia_parts.specs.declared.finding.Kind.{Kind}
use Rattle.sia_parts.specs.declared.finding.Kind.TheVariants.{Ww, Wr, Rw}
use Rattle.sia_parts.specs.Entries.{EdgeOfKind}

key_in_event : (e : Event) (k v : ℕ) → IsInRange e → Saw e k v → k < 2 ^ 64
key_in_event (Begin t start) k v r s = absurd s
key_in_event (Read t key saw) k v r s = let e = s.0 in let b = r.1 in omega arith
key_in_event (Range t lo hi listed) k v r s = let e = s.1 in let b = r.2 in omega arith
key_in_event (Write t key) k v r s = absurd s
key_in_event (Commit t) k v r s = absurd s
key_in_event (Abort t) k v r s = absurd s

pub seen_key : (h : List Event) → IsWellFormed h → (p t k v : ℕ) → SawAt h p t k v → k < 2 ^ 64
seen_key h wf p t k v saw = key_in_event saw.0 k v (event_in_range h wf p saw.0 saw.1) saw.3

pub written_key : (h : List Event) → IsWellFormed h → (t k : ℕ) → Wrote h t k → k < 2 ^ 64
written_key h wf t k wrote = (event_in_range h wf wrote.0 (Write t k) wrote.1).1

pub edge_key : (h : List Event) → IsWellFormed h → (kind : Kind) (t u k : ℕ) → EdgeOfKind h kind t u k → k < 2 ^ 64
edge_key h wf Ww t u k e = written_key h wf t k e.0
edge_key h wf Wr t u k e = written_key h wf t k e.1.0
edge_key h wf Rw t u k e = written_key h wf u k e.2.0
