-- Transactions of a history: where they start and end, what they wrote, whose commits they see, and which overlap.
-- Starts and commits are those of Berenson et al. (1995). That they are places in the recorded list of events, and every
-- comparison of them, is this project's own.
use Rattle.std.specs.Prelude.{◌≡◌, ℕ, ◌+◌, ◌<◌, ◌≤◌, List, Some, MatchOption}
use Rattle.sia_events.specs.declared.event.Event.{Event}
use Rattle.sia_events.specs.declared.event.Event.TheVariants.{Write, Commit, Abort}
use Rattle.sia_events.specs.Places.{at_place}
use Rattle.sia_events.specs.Events.{actor, named_start}

-- the event at place p is one of t
abbrev pub ActsAt : List Event → ℕ → ℕ → Type 0
ActsAt h t p = (e : Event) × (at_place h p ≡ Some e) × (actor e ≡ t)

-- t has an event
abbrev pub HasEvent : List Event → ℕ → Type 0
HasEvent h t = (p : ℕ) × ActsAt h t p

-- e, at place p, is the first event of t
abbrev pub IsFirstEvent : List Event → ℕ → ℕ → Event → Type 0
IsFirstEvent h t p e = (at_place h p ≡ Some e) × (actor e ≡ t) × ((q : ℕ) → ActsAt h t q → p ≤ q)

-- t starts at s, when s events have been recorded: its first event names s, or names no start and stands right after s events
abbrev pub StartsAt : List Event → ℕ → ℕ → Type 0
StartsAt h t s = (p : ℕ) × (e : Event) × IsFirstEvent h t p e × MatchOption (named_start e) (s + 1 ≡ p) (λ n. s ≡ n)

-- t commits at place p
abbrev pub CommitsAt : List Event → ℕ → ℕ → Type 0
CommitsAt h t p = at_place h p ≡ Some (Commit t)

-- t aborts at place p
abbrev pub AbortsAt : List Event → ℕ → ℕ → Type 0
AbortsAt h t p = at_place h p ≡ Some (Abort t)

abbrev pub IsCommitted : List Event → ℕ → Type 0
IsCommitted h t = (p : ℕ) × CommitsAt h t p

abbrev pub IsAborted : List Event → ℕ → Type 0
IsAborted h t = (p : ℕ) × AbortsAt h t p

-- t has events and no end
abbrev pub IsOpen : List Event → ℕ → Type 0
IsOpen h t = HasEvent h t × ¬ IsCommitted h t × ¬ IsAborted h t

-- t writes key k at place p
abbrev pub WritesAt : List Event → ℕ → ℕ → ℕ → Type 0
WritesAt h t k p = at_place h p ≡ Some (Write t k)

-- t wrote key k, at any place
abbrev pub Wrote : List Event → ℕ → ℕ → Type 0
Wrote h t k = (p : ℕ) × WritesAt h t k p

-- t wrote key k before place p
abbrev pub WroteBefore : List Event → ℕ → ℕ → ℕ → Type 0
WroteBefore h t k p = (q : ℕ) × (q < p) × WritesAt h t k q

-- u's commit is among the events before t's start
abbrev pub Sees : List Event → ℕ → ℕ → Type 0
Sees h t u = (s : ℕ) × (c : ℕ) × StartsAt h t s × CommitsAt h u c × (c ≤ s)

-- t starts before u commits
abbrev pub StartsBeforeCommit : List Event → ℕ → ℕ → Type 0
StartsBeforeCommit h t u = (s : ℕ) × (c : ℕ) × StartsAt h t s × CommitsAt h u c × (s < c)

-- t commits before u does
abbrev pub CommitsBefore : List Event → ℕ → ℕ → Type 0
CommitsBefore h t u = (c : ℕ) × (d : ℕ) × CommitsAt h t c × CommitsAt h u d × (c < d)

-- t and u overlap: both committed, and each started before the other committed
abbrev pub Overlap : List Event → ℕ → ℕ → Type 0
Overlap h t u = StartsBeforeCommit h t u × StartsBeforeCommit h u t
