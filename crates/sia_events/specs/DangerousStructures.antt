-- Pivots, and when a history passes the test of serializable snapshot isolation.
-- Dangerous structures: Fekete et al. (2005), theorem 2.1, and Cahill, Roehm and Fekete (2008), where the transaction in
-- the middle is the pivot, and where of such a structure in a cycle the last transaction commits first.
use Rattle.std.specs.Prelude.{◌≡◌, ◌⊎◌, ℕ, List}
use Rattle.sia_events.specs.declared.event.Event.{Event}
use Rattle.sia_events.specs.Transactions.{CommitsBefore, Overlap}
use Rattle.sia_events.specs.Isolation.{IsolationKept}
use Rattle.sia_events.specs.Dependencies.{RwEdge}

-- t has an rw edge to u, and they overlap
abbrev pub IsVulnerable : List Event → ℕ → ℕ → Type 0
IsVulnerable h t u = Overlap h t u × (k : ℕ) × RwEdge h t u k

-- an rw edge from an overlapping transaction comes in, and one to an overlapping transaction goes out. The two may be one
abbrev pub IsPivot : List Event → ℕ → Type 0
IsPivot h t = ((in_from : ℕ) × IsVulnerable h in_from t) × ((out_to : ℕ) × IsVulnerable h t out_to)

-- of a dangerous structure in_from, t, out_to with the pivot t in the middle, out_to commits first
abbrev pub IsFirst : List Event → ℕ → ℕ → Type 0
IsFirst h t out_to = IsVulnerable h t out_to × CommitsBefore h out_to t
    × (in_from : ℕ) × IsVulnerable h in_from t × ((out_to ≡ in_from) ⊎ CommitsBefore h out_to in_from)

abbrev pub NoPivot : List Event → Type 0
NoPivot h = (t : ℕ) → ¬ IsPivot h t

abbrev pub NoFirst : List Event → Type 0
NoFirst h = (t out_to : ℕ) → ¬ IsFirst h t out_to

-- no bad read, no bad write, and no dangerous structure whose last transaction commits first
abbrev pub PassesSsi : List Event → Type 0
PassesSsi h = IsolationKept h × NoFirst h
