-- Up to which place a version commits too early for a transaction: where isolation is kept, this tells the firsts of dangerous
-- structures.
use Rattle.std.specs.Prelude.{◌≡◌, ◌↔◌, ℕ, ◌-◌, ◌<◌, ◌≤◌, List, length, slice_index, slice_index_or}
use Rattle.sia_events.specs.declared.event.Event.{Event}
use Rattle.sia_events.specs.NarrowDependencies.{CommitsVersion}
use Rattle.sia_events.specs.Transactions.{CommitsAt, CommitsBefore}
use Rattle.sia_index.specs.declared.info.KeyVersion.{KeyVersion}
use Rattle.sia_index.specs.declared.info.Lifetime.{Lifetime}
use Rattle.sia_graph.specs.Extremes.{HasRwEdge, IsEnteredFrom}

-- what commits up to the limit commits before t, and some rw edge leads to t from it or from one that commits after it
abbrev pub IsLimit : List Event → ℕ → ℕ → Type 0
IsLimit h t limit = (u : ℕ) (c : ℕ) → CommitsAt h u c → (c ≤ limit) ↔ (CommitsBefore h u t × IsEnteredFrom h t u)

-- an rw edge leads from t to one that commits up to the place
abbrev pub HasEarly : List Event → ℕ → ℕ → Type 0
HasEarly h t place = (u : ℕ) × (c : ℕ) × HasRwEdge h t u × CommitsAt h u c × (c ≤ place)

-- a version of the same key is committed after this one and up to the place
abbrev pub IsFollowedBy : List Event → KeyVersion → ℕ → Type 0
IsFollowedBy h v place = (u : ℕ) × (d : ℕ) × CommitsVersion h v.key u d × (v.commit < d) × (d ≤ place)

-- the values of the first n numbers: how far from the end, or 0 for what commits before the place
pub record AreValuesFrom (place : ℕ) (lifetimes : List Lifetime) (values : List ℕ) (n : ℕ) : Type 0 where
  pub long : length values ≡ n
  pub late : (i : ℕ) (d : Lifetime) → i < n → place ≤ (slice_index_or lifetimes i d).commit → slice_index values i ≡ length lifetimes - i
  pub early : (i : ℕ) (d : Lifetime) → i < n → (slice_index_or lifetimes i d).commit < place → slice_index values i ≡ 0
