-- Nodes that are no members, so that few steps stand for many: the numbers below some floor, here called blocks. Members lead
-- to members through blocks. What is settled with the blocks is, without them, what is settled of the members.
use Rattle.std.specs.Prelude.{ℕ, zero, suc, ◌<◌, ◌≤◌, List, Contains, filter, not, nat_lt}
use Rattle.sia_parts.specs.declared.finding.Edge.{Edge}
use Rattle.sia_graph.specs.Orders.{Leads, IsLeastOrder}
use Rattle.sia_graph.specs.Cycles.{IsStuckSet}
use Rattle.sia_graph.specs.Closures.{IsLeastBy, IsStuckBy}

-- n steps and one more lead from t to u, with blocks alone between
abbrev pub IsWayThrough : ℕ → (ℕ → ℕ → Type 0) → ℕ → ℕ → ℕ → Type 0
IsWayThrough floor Step zero t u = Step t u
IsWayThrough floor Step (suc n) t u = (b : ℕ) × Step t b × (b < floor) × IsWayThrough floor Step n b u

-- a step, or a way through blocks alone, leads from a member to a member
abbrev pub LeadsThrough : ℕ → (ℕ → ℕ → Type 0) → ℕ → ℕ → Type 0
LeadsThrough floor Step t u = (floor ≤ t) × (floor ≤ u) × (n : ℕ) × IsWayThrough floor Step n t u

-- the nodes that are no blocks
abbrev pub IsMemberOf : ℕ → (ℕ → Type 0) → ℕ → Type 0
IsMemberOf floor IsNode t = IsNode t × (floor ≤ t)

-- the list without the blocks
abbrev pub without_blocks : ℕ → List ℕ → List ℕ
without_blocks floor xs = filter (λ t. not (nat_lt t floor)) xs

-- steps join nodes, and between blocks they ascend
pub record HasBlocks (floor : ℕ) (IsNode : ℕ → Type 0) (Step : ℕ → ℕ → Type 0) : Type 0 where
  pub joins : (t u : ℕ) → Step t u → IsNode t × IsNode u
  pub ascends : (t u : ℕ) → Step t u → t < floor → u < floor → t < u

-- without the blocks, the least order of the nodes is that of the members, and so is the stuck set; if any node is stuck, a
-- member is
pub record SettlesMembers (floor : ℕ) (IsNode : ℕ → Type 0) (HasEntry : Edge → Type 0) : Type 0 where
  pub least : (order : List ℕ) → IsLeastOrder IsNode HasEntry order
      → IsLeastBy (IsMemberOf floor IsNode) (LeadsThrough floor (Leads HasEntry)) (without_blocks floor order)
  pub stuck : (set : List ℕ) → IsStuckSet IsNode HasEntry set
      → IsStuckBy (IsMemberOf floor IsNode) (LeadsThrough floor (Leads HasEntry)) (without_blocks floor set)
  pub any_stuck : (set : List ℕ) → IsStuckSet IsNode HasEntry set → (t : ℕ) → Contains set t → (u : ℕ) × Contains (without_blocks floor set) u

-- the law of blocks, for listed nodes and edges
abbrev pub BlocksLaw : ℕ → List ℕ → List Edge → Type 0
BlocksLaw floor ids edges = HasBlocks floor (Contains ids) (Leads (Contains edges)) → SettlesMembers floor (Contains ids) (Contains edges)
