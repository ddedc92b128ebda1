-- What the reader knows of the events so far, and the reasons of the next event by it.
use Rattle.std.specs.Prelude.{ℕ, ◌+◌, Bool, true, false, ◌&&◌, ◌||◌, not, List, [], ◌∷◌, ◌==◌, nat_lt, Option, Some, None, if◌then◌else◌}
use Rattle.std.specs.List.{list_any, list_all}
use Rattle.sia_events.specs.declared.event.Event.{Event}
use Rattle.sia_events.specs.declared.event.Event.TheVariants.{Begin, Read, Range, Write, Commit, Abort}
use Rattle.sia_events.specs.declared.fault.Reason.{Reason}
use Rattle.sia_events.specs.declared.fault.Reason.TheVariants.{AlreadyEnded, AlreadyBegun, EmptyRange, BadList, NotWritten, BadStart}
use Rattle.sia_events.specs.Events.{actor}

-- the event is one of t
abbrev pub acts : ℕ → Event → Bool
acts t e = t == actor e

-- the event ends t
abbrev pub ends : ℕ → Event → Bool
ends t (Commit u) = t == u
ends t (Abort u) = t == u
ends t (Begin u start) = false
ends t (Read u k v) = false
ends t (Range u lo hi listed) = false
ends t (Write u k) = false

-- the event writes the version of that key, the key first
abbrev pub writes : ℕ × ℕ → Event → Bool
writes p (Write u k) = (p.0 == k) && (p.1 == u)
writes p (Begin u start) = false
writes p (Read u k v) = false
writes p (Range u lo hi listed) = false
writes p (Commit u) = false
writes p (Abort u) = false

-- the version of that key is 0 or was written
unfoldable pub is_explained : List Event → ℕ × ℕ → Bool
is_explained events p = (p.1 == 0) || list_any (writes p) events

-- the least key that may follow in a list of keys from lo on
abbrev pub least_after : Option ℕ → ℕ → ℕ
least_after None lo = lo
least_after (Some k) lo = k + 1

-- the listed keys lie from least to hi, each greater than the one before it
abbrev pub goes_up : ℕ → ℕ → List (ℕ × ℕ) → Bool
goes_up least hi [] = true
goes_up least hi (p ∷ ps) = not (nat_lt p.0 least) && (not (nat_lt hi p.0) && goes_up (p.0 + 1) hi ps)

-- the first reason of a begin whose transaction hasn't ended
abbrev pub begin_fault : List Event → ℕ → ℕ → Option ℕ → Option Reason
begin_fault events n t None = if list_any (acts t) events then Some AlreadyBegun else None
begin_fault events n t (Some start) = if list_any (acts t) events then Some AlreadyBegun else (if nat_lt n start then Some BadStart else None)

-- the same of an item read
unfoldable pub read_fault : List Event → ℕ → ℕ → Option Reason
read_fault events k v = if is_explained events (k, v) then None else Some NotWritten

-- the same of a range read
unfoldable pub range_fault : List Event → ℕ → ℕ → List (ℕ × ℕ) → Option Reason
range_fault events lo hi listed = if nat_lt hi lo then Some EmptyRange else (if goes_up lo hi listed then (if list_all (is_explained events) listed then None else Some NotWritten) else Some BadList)

-- the same of any event
unfoldable pub own_fault : List Event → ℕ → Event → Option Reason
own_fault events n (Begin t start) = begin_fault events n t start
own_fault events n (Read t k v) = read_fault events k v
own_fault events n (Range t lo hi listed) = range_fault events lo hi listed
own_fault events n (Write t k) = None
own_fault events n (Commit t) = None
own_fault events n (Abort t) = None

-- the first reason of an event whose numbers are in their ranges, where n events stand before it
unfoldable pub fault_of : List Event → ℕ → Event → Option Reason
fault_of events n e = if list_any (ends (actor e)) events then Some AlreadyEnded else own_fault events n e
