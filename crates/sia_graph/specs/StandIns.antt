-- Few edges between nodes that stand for the committed transactions, under other numbers and with blocks among them, in place
-- of all edges of a history.
use Rattle.std.specs.Prelude.{◌≡◌, ◌↔◌, ℕ, ◌<◌, List, map, Contains}
use Rattle.sia_events.specs.declared.event.Event.{Event}
use Rattle.sia_events.specs.Closures.{HaveSameClosure}
use Rattle.sia_events.specs.Transactions.{IsCommitted}
use Rattle.sia_parts.specs.declared.finding.Edge.{Edge}
use Rattle.sia_parts.specs.Entries.{IsEdge}
use Rattle.sia_graph.specs.Orders.{Leads, IsKeepingOrder, IsLeastOrder}
use Rattle.sia_graph.specs.Cycles.{IsStuckSet}
use Rattle.sia_graph.specs.Blocks.{IsMemberOf, LeadsThrough, HasBlocks, without_blocks}

-- t is the name of a node
abbrev pub IsNameOf : (ℕ → Type 0) → (ℕ → ℕ) → ℕ → Type 0
IsNameOf IsNode name t = (a : ℕ) × IsNode a × (name a ≡ t)

-- the greater node has the greater name
abbrev pub NamesAscend : (ℕ → Type 0) → (ℕ → ℕ) → Type 0
NamesAscend IsNode name = (a : ℕ) (b : ℕ) → IsNode a → IsNode b → a < b → name a < name b

-- a step leads from a node with the name t to one with the name u
abbrev pub LeadsByName : (ℕ → ℕ) → (ℕ → ℕ → Type 0) → ℕ → ℕ → Type 0
LeadsByName name Step t u = (a : ℕ) × (b : ℕ) × (name a ≡ t) × (name b ≡ u) × Step a b

-- the nodes that are no blocks stand for the committed transactions, in their order, and reach what the edges reach
pub record StandForAll (h : List Event) (floor : ℕ) (ids : List ℕ) (HasEntry : Edge → Type 0) (name : ℕ → ℕ) : Type 0 where
  pub blocks : HasBlocks floor (Contains ids) (Leads HasEntry)
  pub ascend : NamesAscend (IsMemberOf floor (Contains ids)) name
  pub named : (t : ℕ) → IsCommitted h t ↔ IsNameOf (IsMemberOf floor (Contains ids)) name t
  pub reach : HaveSameClosure (Leads (IsEdge h)) (LeadsByName name (LeadsThrough floor (Leads HasEntry)))

-- what is settled of the nodes is, by name and without the blocks, settled of the history: the least order, the stuck set, and
-- that no order keeps every edge
pub record SettlesHistory (h : List Event) (floor : ℕ) (ids : List ℕ) (edges : List Edge) (name : ℕ → ℕ) : Type 0 where
  pub least : (order : List ℕ) → IsLeastOrder (Contains ids) (Contains edges) order
      → IsLeastOrder (IsCommitted h) (IsEdge h) (map name (without_blocks floor order))
  pub stuck : (set : List ℕ) → IsStuckSet (Contains ids) (Contains edges) set → IsStuckSet (IsCommitted h) (IsEdge h) (map name (without_blocks floor set))
  pub none_keeps : (set : List ℕ) → IsStuckSet (Contains ids) (Contains edges) set → (t : ℕ) → Contains set t
      → (order : List ℕ) → ¬ IsKeepingOrder (IsCommitted h) (IsEdge h) order

-- the law of stand-ins
abbrev pub StandInLaw : List Event → Type 0
StandInLaw h = (floor : ℕ) (ids : List ℕ) (edges : List Edge) (name : ℕ → ℕ) → StandForAll h floor ids (Contains edges) name → SettlesHistory h floor ids edges name
