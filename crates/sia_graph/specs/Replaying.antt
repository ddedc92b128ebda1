-- A replay one event at a time: what is found at each key, which events are right, and what the first that isn't tells.
use Rattle.std.specs.Prelude.{◌≡◌, ◌⊎◌, ◌↔◌, ℕ, ◌+◌, ◌<◌, ◌==◌, cond, List, [], ◌∷◌, drop, slice_index, length, Option, Some, None, unwrap_or, ⊤}
use Rattle.std.specs.BTreeMap.{BTreeMap, get}
use Rattle.std.specs.Ordering.{nat_cmp}
use Rattle.sia_events.specs.declared.event.Event.{Event}
use Rattle.sia_events.specs.declared.event.Event.TheVariants.{Write}
use Rattle.sia_events.specs.Places.{at_place}
use Rattle.sia_events.specs.Events.{actor, Saw}
use Rattle.sia_events.specs.Transactions.{CommitsAt, Wrote}
use Rattle.sia_events.specs.Replay.{MayFollow, is_write_of}
use Rattle.sia_graph.specs.declared.serial_replay.Mismatch.{Mismatch}

-- what the event saw at k is what was found
abbrev pub Agrees : (ℕ → ℕ) → Event → ℕ → Type 0
Agrees found e k = (v : ℕ) → Saw e k v → v ≡ found k

-- the event is right at k, where found is what each key has
abbrev pub IsRight : List Event → (ℕ → ℕ) → Event → ℕ → Type 0
IsRight h found (Write t key) k = k ≡ key → MayFollow h k (found k) t
IsRight h found e k = Agrees found e k

-- what each key has after the event
abbrev pub after : (ℕ → ℕ) → Event → ℕ → ℕ
after found e k = cond (is_write_of k e) (actor e) (found k)

-- at key, and at no lesser one, the event isn't right; this was found there
abbrev pub IsWrongAt : List Event → (ℕ → ℕ) → Event → ℕ → ℕ → Type 0
IsWrongAt h found e key version = ¬ IsRight h found e key × ((k : ℕ) → k < key → IsRight h found e k) × (version ≡ found key)

abbrev pub AllRight : List Event → (ℕ → ℕ) → List (ℕ × Event) → Type 0
AllRight h found [] = ⊤
AllRight h found (x ∷ xs) = ((k : ℕ) → IsRight h found x.1 k) × AllRight h (after found x.1) xs

abbrev pub IsFirstWrong : List Event → (ℕ → ℕ) → List (ℕ × Event) → Mismatch → Type 0
IsFirstWrong h found [] m = ⊥
IsFirstWrong h found (x ∷ xs) m = ((x.0 ≡ m.place) × IsWrongAt h found x.1 m.key m.found)
    ⊎ (((k : ℕ) → IsRight h found x.1 k) × IsFirstWrong h (after found x.1) xs m)

-- what a replay of the events tells
abbrev pub Tells : List Event → (ℕ → ℕ) → List (ℕ × Event) → Option Mismatch → Type 0
Tells h found events None = AllRight h found events
Tells h found events (Some m) = IsFirstWrong h found events m

-- what the map has for each key
abbrev pub version_in : BTreeMap ℕ ℕ → ℕ → ℕ
version_in m k = unwrap_or (get nat_cmp m k) 0

-- each version in the map was written
abbrev pub AreWritten : List Event → BTreeMap ℕ ℕ → Type 0
AreWritten h m = (k v : ℕ) → get nat_cmp m k ≡ Some v → Wrote h v k

-- where each committed transaction commits
abbrev pub AreCommits : List Event → BTreeMap ℕ ℕ → Type 0
AreCommits h m = (t p : ℕ) → (get nat_cmp m t ≡ Some p) ↔ CommitsAt h t p

-- the place of the first event of t, in a list of events counted from n; 0 where there is none
abbrev pub first_at : ℕ → ℕ → List Event → ℕ
first_at t n [] = 0
first_at t n (e ∷ es) = cond (actor e == t) n (first_at t (n + 1) es)

-- where each transaction has its first event after place p
abbrev pub AreFirsts : List Event → ℕ → BTreeMap ℕ ℕ → Type 0
AreFirsts h p m = (t : ℕ) → version_in m t ≡ first_at t (p + 1) (drop p h)

-- for each event after place p, where the next event of its transaction stands
abbrev pub AreNext : List Event → ℕ → List ℕ → Type 0
AreNext h p next = (length next ≡ length h + 1)
    × ((q : ℕ) (e : Event) → p < q → at_place h q ≡ Some e → slice_index next q ≡ first_at (actor e) (q + 1) (drop q h))
