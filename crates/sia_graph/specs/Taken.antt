-- How taking members one after another ends: with the least order of all, or with some that are left.
use Rattle.std.specs.Prelude.{◌≡◌, ◌↔◌, ℕ, ◌+◌, ◌*◌, ◌<◌, Bool, false, List, map, Contains, IsTrue, length, slice_index_or}
use Rattle.std.specs.List.{range_with_len}
use Rattle.sia_parts.specs.declared.finding.Edge.{Edge}
use Rattle.sia_graph.specs.declared.order.Taken.{Taken}
use Rattle.sia_graph.specs.declared.order.Taken.TheVariants.{Whole, Rest}
use Rattle.sia_graph.specs.Blocks.{without_blocks}
use Rattle.sia_graph.specs.Cycles.{IsStuckSet}
use Rattle.sia_graph.specs.declared.order.Graph.{Graph}
use Rattle.sia_graph.specs.Graphs.{IsGraphEdge}
use Rattle.sia_graph.specs.NarrowSteps.{name_of}
use Rattle.sia_graph.specs.Orders.{IsKeepingOrder, IsLeastOrder}
use Rattle.sia_graph.specs.Previous.{IsLeftIn}
use Rattle.sia_graph.specs.Walks.{AreLeft}

-- for each of ids, which are the members, whether it is left; one is, and those that are can't be put in order
pub record AreLeftOver (IsMember : ℕ → Type 0) (IsEdge : Edge → Type 0) (ids : List ℕ) (left : List Bool) : Type 0 where
  pub long : length left ≡ length ids
  pub some : (i : ℕ) × (i < length left) × IsLeftIn left i
  pub none_keeps : (order : List ℕ) → ¬ IsKeepingOrder IsMember IsEdge order
  pub stuck : List ℕ
  pub is_stuck : IsStuckSet IsMember IsEdge stuck
  pub each : AreLeft ids (IsLeftIn left) stuck

-- the least order that keeps every edge, or who is left where none does
abbrev pub IsTaken : (ℕ → Type 0) → (Edge → Type 0) → List ℕ → Taken → Type 0
IsTaken IsMember IsEdge ids (Whole order) = IsLeastOrder IsMember IsEdge order.items
IsTaken IsMember IsEdge ids (Rest left) = AreLeftOver IsMember IsEdge ids left.items

-- the nodes, where blocks are over so many keys
abbrev pub node_list : ℕ → List ℕ → List ℕ
node_list size txns = range_with_len 0 (2 * size + length txns)

-- the same of the nodes, of which some may be left
pub record AreLeftNodes (size : ℕ) (txns : List ℕ) (graph : Graph) (left : List Bool) : Type 0 where
  pub long : length left ≡ length txns
  pub set : List ℕ
  pub is_stuck : IsStuckSet (Contains (node_list size txns)) (IsGraphEdge graph) set
  pub some : (t : ℕ) × Contains set t
  pub each : (i : ℕ) → i < length txns → IsTrue (slice_index_or left i false) ↔ Contains set (2 * size + i)

abbrev pub AreTakenNodes : ℕ → List ℕ → Graph → Taken → Type 0
AreTakenNodes size txns graph (Whole order) = (nodes : List ℕ) × IsLeastOrder (Contains (node_list size txns)) (IsGraphEdge graph) nodes
    × (order.items ≡ map (name_of size txns) (without_blocks (2 * size) nodes))
AreTakenNodes size txns graph (Rest left) = AreLeftNodes size txns graph left.items
