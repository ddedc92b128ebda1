-- The order of versions, and the dependencies (ww, wr and rw edges) between committed transactions.
-- Kinds of dependency: Adya's, as in Fekete, Liarokapis, O'Neil, O'Neil and Shasha, "Making Snapshot Isolation Serializable"
-- (2005), and in Cahill, Roehm and Fekete, "Serializable Isolation for Snapshot Databases" (2008). All pairs of versions
-- count here, neighbours or not. That versions go by commit is in line with Berenson et al. (1995).
use Rattle.std.specs.Prelude.{◌≡◌, ◌≢◌, ◌⊎◌, ℕ, List}
use Rattle.sia_events.specs.declared.event.Event.{Event}
use Rattle.sia_events.specs.Transactions.{IsCommitted, Wrote, CommitsBefore}
use Rattle.sia_events.specs.Reads.{SawAt}

-- t committed, and wrote k
abbrev pub IsCommittedWriter : List Event → ℕ → ℕ → Type 0
IsCommittedWriter h k t = Wrote h t k × IsCommitted h t

-- version v of k is before version w: 0 is before each committed writer's, and these go by commit
abbrev pub IsVersionBefore : List Event → ℕ → ℕ → ℕ → Type 0
IsVersionBefore h k v w = ((v ≡ 0) × IsCommittedWriter h k w) ⊎ (Wrote h v k × Wrote h w k × CommitsBefore h v w)

-- both wrote k, t's version first
abbrev pub WwEdge : List Event → ℕ → ℕ → ℕ → Type 0
WwEdge h t u k = Wrote h t k × Wrote h u k × CommitsBefore h t u

-- u saw t's version of k, or a later one that isn't its own
abbrev pub WrEdge : List Event → ℕ → ℕ → ℕ → Type 0
WrEdge h t u k = (t ≢ u) × IsCommittedWriter h k t × IsCommitted h u
    × (p : ℕ) × (v : ℕ) × SawAt h p u k v × IsCommitted h v × (v ≢ u) × ((t ≡ v) ⊎ IsVersionBefore h k t v)

-- t saw a version of k before u's that isn't its own
abbrev pub RwEdge : List Event → ℕ → ℕ → ℕ → Type 0
RwEdge h t u k = (t ≢ u) × IsCommitted h t × IsCommittedWriter h k u
    × (p : ℕ) × (v : ℕ) × SawAt h p t k v × ((v ≡ 0) ⊎ IsCommitted h v) × (v ≢ t) × IsVersionBefore h k v u

-- some edge leads from t to u
abbrev pub HasEdge : List Event → ℕ → ℕ → Type 0
HasEdge h t u = (k : ℕ) × (WwEdge h t u k ⊎ WrEdge h t u k ⊎ RwEdge h t u k)
