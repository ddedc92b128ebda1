-- Narrow dependencies: of the edges those from a version to the next one, to a reader from the newest version that it looked
-- at, and from a reader to the version after the oldest that it looked at. They are few, and lead in steps wherever all edges
-- lead. The word and the choice are this project's own.
use Rattle.std.specs.Prelude.{◌≡◌, ◌≢◌, ◌⊎◌, ℕ, ◌<◌, ◌≤◌, List}
use Rattle.sia_events.specs.declared.event.Event.{Event}
use Rattle.sia_events.specs.Transactions.{IsCommitted, CommitsAt, Wrote}
use Rattle.sia_events.specs.Reads.{SawAt}

-- version v as of place c: 0 as of 0, and that of a committed transaction as of its commit
abbrev pub IsAsOf : List Event → ℕ → ℕ → Type 0
IsAsOf h v c = ((v ≡ 0) × (c ≡ 0)) ⊎ CommitsAt h v c

-- the committed t saw a version of k that isn't its own, as of place c
abbrev pub Looked : List Event → ℕ → ℕ → ℕ → Type 0
Looked h t k c = IsCommitted h t × (p : ℕ) × (v : ℕ) × SawAt h p t k v × (v ≢ t) × IsAsOf h v c

-- t wrote k, and commits at place c
abbrev pub CommitsVersion : List Event → ℕ → ℕ → ℕ → Type 0
CommitsVersion h k t c = Wrote h t k × CommitsAt h t c

-- of the versions of k that are committed after place c, t's is the first
abbrev pub IsNextVersion : List Event → ℕ → ℕ → ℕ → Type 0
IsNextVersion h k c t = (d : ℕ) × CommitsVersion h k t d × (c < d) × ((u : ℕ) (e : ℕ) → CommitsVersion h k u e → c < e → d ≤ e)

-- u's version of k is the next one after t's
abbrev pub NarrowWwEdge : List Event → ℕ → ℕ → ℕ → Type 0
NarrowWwEdge h t u k = (c : ℕ) × CommitsVersion h k t c × IsNextVersion h k c u

-- t's version of k is the newest that u looked at
abbrev pub NarrowWrEdge : List Event → ℕ → ℕ → ℕ → Type 0
NarrowWrEdge h t u k = (c : ℕ) × CommitsVersion h k t c × Looked h u k c × ((d : ℕ) → Looked h u k d → d ≤ c)

-- u's version of k is the next one after the oldest that t looked at
abbrev pub NarrowRwEdge : List Event → ℕ → ℕ → ℕ → Type 0
NarrowRwEdge h t u k = (t ≢ u) × (c : ℕ) × Looked h t k c × ((d : ℕ) → Looked h t k d → c ≤ d) × IsNextVersion h k c u

-- some narrow edge leads from t to u
abbrev pub HasNarrowEdge : List Event → ℕ → ℕ → Type 0
HasNarrowEdge h t u = (k : ℕ) × (NarrowWwEdge h t u k ⊎ NarrowWrEdge h t u k ⊎ NarrowRwEdge h t u k)
