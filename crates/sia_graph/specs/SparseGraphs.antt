-- The graph with few steps that leads wherever the edges of a history lead.
use Rattle.std.specs.Prelude.{◌≡◌, ◌≢◌, ◌↔◌, ◌⊎◌, ℕ, ◌+◌, ◌*◌, ◌<◌, ◌≤◌, List, [], Contains, length, slice_index_or}
use Rattle.sia_events.specs.declared.event.Event.{Event}
use Rattle.sia_parts.specs.declared.accesses.Accesses.{Accesses}
use Rattle.sia_parts.specs.Accesses.{SawPosition}
use Rattle.sia_graph.specs.declared.order.Graph.{Graph}
use Rattle.sia_graph.specs.Graphs.{IsGraph, IsGraphEdge}
use Rattle.sia_graph.specs.KeyBlocks.{IsUnderSome}
use Rattle.sia_graph.specs.Makers.{IsFirstMaker, IsMaker, IsMakerBefore, IsNextMaker}
use Rattle.sia_graph.specs.NarrowSteps.{name_of, node_of}
use Rattle.sia_graph.specs.Passed.{IsPassed}
use Rattle.sia_graph.specs.StandIns.{StandForAll}
use Rattle.sia_graph.specs.Taken.{node_list}

-- its nodes that are no blocks stand for the committed transactions, and it leads through blocks wherever the edges lead
pub record IsSparse (h : List Event) (size : ℕ) (txns : List ℕ) (g : Graph) : Type 0 where
  pub graph : IsGraph (2 * size + length txns) g
  pub stands : StandForAll h (2 * size) (node_list size txns) (IsGraphEdge g) (name_of size txns)

-- a block leads to its halves, and the leaf of a key to who made its first version
abbrev pub IsBlockStep : List Event → ℕ → ℕ → ℕ → Type 0
IsBlockStep h size b n = ((0 < b) × (b < size) × ((n ≡ 2 * b) ⊎ (n ≡ 2 * b + 1)))
    ⊎ ((j : ℕ) × (i : ℕ) × (b ≡ size + j) × (j < size) × IsFirstMaker h j i × (n ≡ node_of size i))

-- number i waits for another one: who made a version that i saw, or the version before one that i made
abbrev pub IsWaitedFor : List Event → Accesses → ℕ → ℕ → Type 0
IsWaitedFor h a i m = (m ≢ i) × (q : ℕ) × ((SawPosition a i q × IsMaker h q m) ⊎ (IsMaker h q i × IsMakerBefore h q m))

-- number i is before another one, who made the next version after one that i saw
abbrev pub IsFollowed : List Event → Accesses → ℕ → ℕ → Type 0
IsFollowed h a i m = (m ≢ i) × (q : ℕ) × SawPosition a i q × IsNextMaker h q m

-- n is the node of another one, which is so to position q
abbrev pub IsStepTo : ℕ → ℕ → (ℕ → ℕ → Type 0) → ℕ → ℕ → Type 0
IsStepTo size txn IsSo q n = (m : ℕ) × IsSo q m × (m ≢ txn) × (n ≡ node_of size m)

-- the sources of node x: a block has none
abbrev pub AreSourcesOf : List Event → Accesses → ℕ → ℕ → List ℕ → Type 0
AreSourcesOf h a size x row = (n : ℕ) → Contains row n ↔ ((i : ℕ) × (m : ℕ) × (x ≡ node_of size i) × (n ≡ node_of size m) × IsWaitedFor h a i m)

-- the targets of number i: other transactions, and blocks that are over just the keys that it passed over
pub record AreMemberTargets (h : List Event) (a : Accesses) (size i : ℕ) (row : List ℕ) : Type 0 where
  pub members : (n : ℕ) → 2 * size ≤ n → Contains row n ↔ ((m : ℕ) × (n ≡ node_of size m) × IsFollowed h a i m)
  pub over : (j : ℕ) → j < size → IsUnderSome size row j ↔ IsPassed h a i j
  pub some : (b : ℕ) → b < 2 * size → Contains row b → 0 < b

-- the targets of node x
pub record AreTargetsOf (h : List Event) (a : Accesses) (size x : ℕ) (row : List ℕ) : Type 0 where
  pub block : x < 2 * size → (n : ℕ) → Contains row n ↔ IsBlockStep h size x n
  pub member : (i : ℕ) → x ≡ node_of size i → AreMemberTargets h a size i row

-- the first n nodes have their lists
pub record HasNodes (h : List Event) (a : Accesses) (size n : ℕ) (g : Graph) : Type 0 where
  pub targets_long : length g.targets ≡ n
  pub sources_long : length g.sources ≡ n
  pub targets : (x : ℕ) → x < n → AreTargetsOf h a size x (slice_index_or g.targets x [])
  pub sources : (x : ℕ) → x < n → AreSourcesOf h a size x (slice_index_or g.sources x [])
