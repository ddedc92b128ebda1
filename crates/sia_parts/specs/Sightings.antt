-- The read that makes an edge.
use Rattle.std.specs.Prelude.{◌≡◌, ◌≢◌, ◌⊎◌, ◌≤◌, ℕ, List}
use Rattle.sia_events.specs.declared.event.Event.{Event}
use Rattle.sia_events.specs.Dependencies.{IsVersionBefore}
use Rattle.sia_events.specs.Reads.{SawAt}
use Rattle.sia_events.specs.Transactions.{IsCommitted}
use Rattle.sia_parts.specs.declared.finding.Kind.{Kind}
use Rattle.sia_parts.specs.declared.finding.Kind.TheVariants.{Ww, Wr, Rw}

-- version v of k, seen by one of both, gives the edge from t to u
abbrev pub Gives : Kind → List Event → ℕ → ℕ → ℕ → ℕ → Type 0
Gives Ww h t u k v = ⊥
Gives Wr h t u k v = IsCommitted h v × (v ≢ u) × ((t ≡ v) ⊎ IsVersionBefore h k t v)
Gives Rw h t u k v = ((v ≡ 0) ⊎ IsCommitted h v) × (v ≢ t) × IsVersionBefore h k v u

-- which of both reads
abbrev pub reader_of : Kind → ℕ → ℕ → ℕ
reader_of Ww t u = t
reader_of Wr t u = u
reader_of Rw t u = t

-- and whose version the seen one is held against
abbrev pub writer_of : Kind → ℕ → ℕ → ℕ
writer_of Ww t u = t
writer_of Wr t u = t
writer_of Rw t u = u

-- t saw a version of k that has P first at place p, and it was v
abbrev pub IsFirstSight : (ℕ → Type 0) → List Event → ℕ → ℕ → ℕ → ℕ → Type 0
IsFirstSight P h t k p v = SawAt h p t k v × P v × ((q w : ℕ) → SawAt h q t k w → P w → p ≤ q)
