-- Dangerous structures by commits alone, for a history that keeps isolation: what overlaps need not be looked at. So for each
-- t the first commit of what comes after a version that t saw, and the last commit of those with an rw edge to t, decide.
use Rattle.std.specs.Prelude.{◌≡◌, ◌≢◌, ◌⊎◌, ◌↔◌, ℕ, List}
use Rattle.sia_events.specs.declared.event.Event.{Event}
use Rattle.sia_events.specs.Transactions.{IsCommitted, CommitsBefore}
use Rattle.sia_events.specs.Reads.{SawAt}
use Rattle.sia_events.specs.Isolation.{IsolationKept}
use Rattle.sia_events.specs.Dependencies.{IsVersionBefore, RwEdge}
use Rattle.sia_events.specs.DangerousStructures.{IsFirst, PassesSsi}

-- t has an rw edge to u
abbrev pub HasRwEdge : List Event → ℕ → ℕ → Type 0
HasRwEdge h t u = (k : ℕ) × RwEdge h t u k

-- some rw edge leads to t from out_to, or from one that commits after it
abbrev pub IsEnteredFrom : List Event → ℕ → ℕ → Type 0
IsEnteredFrom h t out_to = (in_from : ℕ) × HasRwEdge h in_from t × ((out_to ≡ in_from) ⊎ CommitsBefore h out_to in_from)

-- t has an rw edge to out_to, which commits before t; and some rw edge leads to t from out_to, or from one that commits after it
abbrev pub IsFirstByCommits : List Event → ℕ → ℕ → Type 0
IsFirstByCommits h t out_to = HasRwEdge h t out_to × CommitsBefore h out_to t × IsEnteredFrom h t out_to

-- u's version of some key comes after one that t saw there, which isn't t's own; u may be t
abbrev pub IsAfterSeen : List Event → ℕ → ℕ → Type 0
IsAfterSeen h t u = (k : ℕ) × (p : ℕ) × (v : ℕ) × SawAt h p t k v × ((v ≡ 0) ⊎ IsCommitted h v) × (v ≢ t) × IsVersionBefore h k v u

-- such a u commits before t, and some rw edge leads to t from u or from one that commits after u
abbrev pub IsFirstAfterSeen : List Event → ℕ → ℕ → Type 0
IsFirstAfterSeen h t u = IsAfterSeen h t u × CommitsBefore h u t × IsEnteredFrom h t u

-- the law of firsts: where isolation is kept, a first of a dangerous structure is told by commits; and so is what passes
pub record FirstsLaw (h : List Event) : Type 0 where
  pub by_commits : IsolationKept h → (t out_to : ℕ) → IsFirst h t out_to ↔ IsFirstByCommits h t out_to
  pub passes : PassesSsi h ↔ (IsolationKept h × ((t u : ℕ) → ¬ IsFirstAfterSeen h t u))
