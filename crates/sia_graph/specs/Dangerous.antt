-- The dangerous structure that is told of a history that fails the test of serializable snapshot isolation. Which of several
-- structures is told is this project's own choice.
use Rattle.std.specs.Prelude.{◌≡◌, ◌⊎◌, ℕ, ◌≤◌, List}
use Rattle.sia_events.specs.declared.event.Event.{Event}
use Rattle.sia_events.specs.DangerousStructures.{IsFirst, IsVulnerable}
use Rattle.sia_events.specs.Dependencies.{RwEdge}
use Rattle.sia_events.specs.Transactions.{CommitsBefore}
use Rattle.sia_graph.specs.declared.ssi.Dangerous.{Dangerous}

-- x is the least that has P
abbrev pub IsLeast : (ℕ → Type 0) → ℕ → Type 0
IsLeast P x = P x × ((y : ℕ) → P y → x ≤ y)

-- t has a first
abbrev pub HasFirst : List Event → ℕ → Type 0
HasFirst h t = (out_to : ℕ) × IsFirst h t out_to

-- t has a vulnerable edge to the pivot, and is the last or commits after it
abbrev pub MayBeFirst : List Event → ℕ → ℕ → ℕ → Type 0
MayBeFirst h pivot last t = IsVulnerable h t pivot × ((last ≡ t) ⊎ CommitsBefore h last t)

-- the least pivot that has a first, the least of its firsts, the least transaction before it that goes with that one, and of
-- both edges the least key
pub record IsDangerous (h : List Event) (d : Dangerous) : Type 0 where
  pub pivot : IsLeast (HasFirst h) d.pivot
  pub last : IsLeast (IsFirst h d.pivot) d.last
  pub first : IsLeast (MayBeFirst h d.pivot d.last) d.first
  pub first_key : IsLeast (RwEdge h d.first d.pivot) d.first_key
  pub last_key : IsLeast (RwEdge h d.pivot d.last) d.last_key
