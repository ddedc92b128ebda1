-- Orders of the committed transactions, the serial replay of a history by one, and serializability.
-- Serializability is that of the field: the outcome is one of some serial order of the committed transactions. The version
-- order is fixed here (by commit), so that what is replayed is this project's own definition.
use Rattle.std.specs.Prelude.{◌≡◌, ◌⊎◌, ℕ, ◌<◌, Bool, false, List, reverse, take, filter, find, flat_map, slice_get, Some, option_map, unwrap_or, ◌==◌}
use Rattle.std.specs.List.{enumerate_from}
use Rattle.sia_events.specs.declared.event.Event.{Event}
use Rattle.sia_events.specs.declared.event.Event.TheVariants.{Begin, Read, Range, Write, Commit, Abort}
use Rattle.sia_events.specs.Lists.{HoldsExactly}
use Rattle.sia_events.specs.Events.{actor, Saw}
use Rattle.sia_events.specs.Transactions.{IsCommitted}
use Rattle.sia_events.specs.Dependencies.{IsVersionBefore}

-- each committed transaction once, and nothing else
abbrev pub IsOrder : List Event → List ℕ → Type 0
IsOrder h order = HoldsExactly (IsCommitted h) order

-- t stands before u in the order
abbrev pub StandsBefore : List ℕ → ℕ → ℕ → Type 0
StandsBefore order t u = (i : ℕ) × (j : ℕ) × (i < j) × (slice_get order i ≡ Some t) × (slice_get order j ≡ Some u)

-- where Edge holds of two, the first stands before the second
abbrev pub Keeps : (ℕ → ℕ → Type 0) → List ℕ → Type 0
Keeps Edge order = (t : ℕ) (u : ℕ) → Edge t u → StandsBefore order t u

-- the events of t, each with its place
abbrev pub events_of : List Event → ℕ → List (ℕ × Event)
events_of h t = filter (λ e. actor e.1 == t) (enumerate_from 1 h)

-- one transaction after another, each with its events in the history's order
abbrev pub serial : List Event → List ℕ → List (ℕ × Event)
serial h order = flat_map (events_of h) order

-- the event writes key k
abbrev pub is_write_of : ℕ → Event → Bool
is_write_of k (Write t key) = k == key
is_write_of k (Begin t start) = false
is_write_of k (Read t key saw) = false
is_write_of k (Range t lo hi listed) = false
is_write_of k (Commit t) = false
is_write_of k (Abort t) = false

-- who wrote k last before index i, or 0
abbrev pub found_at : List (ℕ × Event) → ℕ → ℕ → ℕ
found_at events i k = unwrap_or (option_map (λ e. actor e.1) (find (λ e. is_write_of k e.1) (reverse (take i events)))) 0

-- t's version of k may come after version v
abbrev pub MayFollow : List Event → ℕ → ℕ → ℕ → Type 0
MayFollow h k v t = (v ≡ 0) ⊎ (v ≡ t) ⊎ IsVersionBefore h k v t

-- the event at index i is right at k: a read saw what is found there, a write follows it in the version order
abbrev pub IsRightAt : List Event → List (ℕ × Event) → ℕ → Event → ℕ → Type 0
IsRightAt h events i (Write t key) k = k ≡ key → MayFollow h k (found_at events i k) t
IsRightAt h events i e k = (v : ℕ) → Saw e k v → v ≡ found_at events i k

-- each event before index n is right at each key
abbrev pub IsRightBelow : List Event → List (ℕ × Event) → ℕ → Type 0
IsRightBelow h events n = (i : ℕ) (place : ℕ) (e : Event) (k : ℕ) → i < n → slice_get events i ≡ Some (place, e) → IsRightAt h events i e k

-- each event of the serial history is right
abbrev pub Replays : List Event → List ℕ → Type 0
Replays h order = (n : ℕ) → IsRightBelow h (serial h order) n

-- some order replays the history
abbrev pub IsSerializable : List Event → Type 0
IsSerializable h = (order : List ℕ) × IsOrder h order × Replays h order

-- the first event that isn't right stands at this place of the history; at key, the least where it isn't, the version found was found
abbrev pub IsFirstMismatch : List Event → List ℕ → ℕ → ℕ → ℕ → Type 0
IsFirstMismatch h order place key found = (i : ℕ) × (e : Event) × (slice_get (serial h order) i ≡ Some (place, e))
    × IsRightBelow h (serial h order) i
    × ¬ IsRightAt h (serial h order) i e key
    × ((k : ℕ) → k < key → IsRightAt h (serial h order) i e k)
    × (found ≡ found_at (serial h order) i key)
