-- Which cycles snapshot isolation allows: those in which two rw edges between overlapping transactions follow one another
-- (Fekete et al. 2005).
use Rattle.std.specs.Prelude.{◌≡◌, ◌⊎◌, ◌+◌, ◌<◌, ℕ, List, length, slice_get, Some, All}
use Rattle.sia_events.specs.declared.event.Event.{Event}
use Rattle.sia_events.specs.Isolation.{IsolationKept}
use Rattle.sia_events.specs.Transactions.{Overlap}
use Rattle.sia_parts.specs.declared.finding.Edge.{Edge}
use Rattle.sia_parts.specs.declared.finding.Kind.TheVariants.{Rw}
use Rattle.sia_parts.specs.Entries.{IsEdge}

-- of edges that lead round one is number i, counted from 0, and other the next one, which is the first behind the last
abbrev pub IsFollowedAt : List Edge → ℕ → Edge → Edge → Type 0
IsFollowedAt edges i one other = (j : ℕ) × (slice_get edges i ≡ Some one) × (slice_get edges j ≡ Some other) × ((j ≡ i + 1) ⊎ ((i + 1 ≡ length edges) × (j ≡ 0)))

-- it is of the kind rw, and its ends overlap
abbrev pub IsRwOverlap : List Event → Edge → Type 0
IsRwOverlap h e = (e.kind ≡ Rw) × Overlap h e.src e.dst

-- number i and the next one are two such edges
abbrev pub IsAllowedAt : List Event → List Edge → ℕ → Type 0
IsAllowedAt h edges i = (one : Edge) × (other : Edge) × IsFollowedAt edges i one other × IsRwOverlap h one × IsRwOverlap h other

abbrev pub IsAllowed : List Event → List Edge → Type 0
IsAllowed h edges = (i : ℕ) × IsAllowedAt h edges i

-- some edges of the history, each of which leads to where the next one starts
pub record LeadRound (h : List Event) (edges : List Edge) : Type 0 where
  pub some : 0 < length edges
  pub are : All (IsEdge h) edges
  pub round : (i : ℕ) (one other : Edge) → IsFollowedAt edges i one other → one.dst ≡ other.src

-- where isolation was kept, every cycle of edges is allowed, whichever edges it takes
abbrev pub CycleLaw : List Event → Type 0
CycleLaw h = IsolationKept h → (edges : List Edge) → LeadRound h edges → IsAllowed h edges
