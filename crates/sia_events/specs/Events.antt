-- Events: who acts, what a read saw, and which start a begin names.
-- The notation of histories is that of Berenson, Bernstein, Gray, Melton, O'Neil and O'Neil, "A Critique of ANSI SQL
-- Isolation Levels" (1995). Items are whole-number keys, and a version is named by the transaction that wrote it: these
-- are this project's own choices, as are ranges with listed keys and named starts.
use Rattle.std.specs.Prelude.{◌≡◌, ◌⊎◌, ℕ, ◌≤◌, Option, Contains, None}
use Rattle.sia_events.specs.declared.event.Event.{Event}
use Rattle.sia_events.specs.declared.event.Event.TheVariants.{Begin, Read, Range, Write, Commit, Abort}

-- who acts
abbrev pub actor : Event → ℕ
actor (Begin t start) = t
actor (Read t k v) = t
actor (Range t lo hi listed) = t
actor (Write t k) = t
actor (Commit t) = t
actor (Abort t) = t

-- the start that a begin names, if it names one
abbrev pub named_start : Event → Option ℕ
named_start (Begin t start) = start
named_start (Read t k v) = None
named_start (Range t lo hi listed) = None
named_start (Write t k) = None
named_start (Commit t) = None
named_start (Abort t) = None

-- the event read the key k and saw its version v: a range read covers each key from lo to hi, and saw a listed key at its
-- listed version and an unlisted one at version 0
abbrev pub Saw : Event → ℕ → ℕ → Type 0
Saw (Begin t start) k v = ⊥
Saw (Read t key saw) k v = (k ≡ key) × (v ≡ saw)
Saw (Range t lo hi listed) k v = (lo ≤ k) × (k ≤ hi) × (Contains listed (k, v) ⊎ (((u : ℕ) → ¬ Contains listed (k, u)) × (v ≡ 0)))
Saw (Write t key) k v = ⊥
Saw (Commit t) k v = ⊥
Saw (Abort t) k v = ⊥
