-- Narrow edges settle what all edges settle: by blocks, by names and by closures.
use Rattle.std.proofs.Common.{ℕ, List, map, subst, arith, rules, ◌↔◌, Contains}
use Rattle.sia_events.specs.declared.event.Event.{Event}
use Rattle.sia_events.specs.Closures.{HaveSameClosure}
use Rattle.sia_events.specs.Transactions.{IsCommitted}
use Rattle.sia_parts.specs.declared.finding.Edge.{Edge}
use Rattle.sia_parts.specs.declared.finding.Kind.{Kind}
use Rattle.sia_parts.specs.Entries.{IsEdge, EdgeOfKind}
use Rattle.sia_graph.specs.Orders.{Leads, IsKeepingOrder, IsLeastOrder}
use Rattle.sia_graph.specs.Cycles.{IsStuckSet}
use Rattle.sia_graph.specs.Closures.{SettlesAlike}
use Rattle.sia_graph.specs.Blocks.{HasBlocks, IsMemberOf, LeadsThrough, without_blocks, SettlesMembers}
use Rattle.sia_graph.specs.StandIns.{IsNameOf, LeadsByName, NamesAscend, StandForAll, StandInLaw}
use Rattle.sia_graph.proofs.Shared.Closures.{settles_alike}
use Rattle.sia_graph.proofs.OfLaws.Blocks.{settles_members, through_joins}
use Rattle.sia_graph.proofs.Shared.Fronts.{no_order}
use Rattle.sia_graph.proofs.Shared.PartedLists.{contains_in, in_contains}
use Rattle.sia_graph.proofs.Shared.Renamed.{in_map, least_named, stuck_named}

by_kind : (h : List Event) (kind : Kind) (t u k : ℕ) → EdgeOfKind h kind t u k → IsCommitted h u
by_kind h kind t u k p = grind arith

edge_into : (h : List Event) (t u : ℕ) → Leads (IsEdge h) t u → IsCommitted h u
edge_into h t u w = subst (λ x. IsCommitted h x) w.3 (by_kind h w.0.kind w.0.src w.0.dst w.0.key w.1)

-- a relation with the closure of the edges of a history
pub settles_edges : (h : List Event) (Step : ℕ → ℕ → Type 0) → HaveSameClosure (Leads (IsEdge h)) Step → SettlesAlike (IsCommitted h) (IsEdge h) Step
settles_edges h Step same = settles_alike (IsCommitted h) (IsEdge h) Step (edge_into h) same

-- nodes stand for members as in the law, and the edges lead to members
pub record StandFor (M : ℕ → Type 0) (E : Edge → Type 0) (floor : ℕ) (ids : List ℕ) (HasEntry : Edge → Type 0) (name : ℕ → ℕ) : Type 0 where
  pub blocks : HasBlocks floor (Contains ids) (Leads HasEntry)
  pub ascend : NamesAscend (IsMemberOf floor (Contains ids)) name
  pub named : (t : ℕ) → M t ↔ IsNameOf (IsMemberOf floor (Contains ids)) name t
  pub reach : HaveSameClosure (Leads E) (LeadsByName name (LeadsThrough floor (Leads HasEntry)))
  pub into : (t u : ℕ) → Leads E t u → M u

module _ (M : ℕ → Type 0) (E : Edge → Type 0) (floor : ℕ) (ids : List ℕ) (HasEntry : Edge → Type 0) (name : ℕ → ℕ) (stand : StandFor M E floor ids HasEntry name) where
  abbrev Member : ℕ → Type 0
  Member = IsMemberOf floor (Contains ids)

  abbrev Through : ℕ → ℕ → Type 0
  Through = LeadsThrough floor (Leads HasEntry)

  pub members : SettlesMembers floor (Contains ids) HasEntry
  members = settles_members floor (Contains ids) HasEntry stand.blocks

  alike : SettlesAlike M E (LeadsByName name Through)
  alike = settles_alike M E (LeadsByName name Through) stand.into stand.reach

  joins : (t u : ℕ) → Through t u → Member t × Member u
  joins = through_joins floor (Contains ids) (Leads HasEntry) stand.blocks

  pub least : (order : List ℕ) → IsLeastOrder (Contains ids) HasEntry order → IsLeastOrder M E (map name (without_blocks floor order))
  least order l = (alike.least (map name (without_blocks floor order))).1
      (least_named name Member stand.ascend M stand.named Through joins (without_blocks floor order) (members.least order l))

  pub stuck : (set : List ℕ) → IsStuckSet (Contains ids) HasEntry set → IsStuckSet M E (map name (without_blocks floor set))
  stuck set s = (alike.stuck (map name (without_blocks floor set))).1
      (stuck_named name Member stand.ascend M stand.named Through joins (without_blocks floor set) (members.stuck set s))

  pub none_keeps : (set : List ℕ) → IsStuckSet (Contains ids) HasEntry set → (t : ℕ) → Contains set t → (order : List ℕ) → ¬ IsKeepingOrder M E order
  none_keeps set s t c order =
      let u = members.any_stuck set s t c in
      no_order M E (λ x. Contains (map name (without_blocks floor set)) x) (stuck set s).self_fed (name u.0)
      (in_contains (name u.0) (map name (without_blocks floor set)) (in_map name (without_blocks floor set) u.0 (contains_in (without_blocks floor set) u.0 u.1))) order

-- the committed transactions of a history are such members
pub of_history : (h : List Event) (floor : ℕ) (ids : List ℕ) (HasEntry : Edge → Type 0) (name : ℕ → ℕ) → StandForAll h floor ids HasEntry name → StandFor (IsCommitted h) (IsEdge h) floor ids HasEntry name
of_history h floor ids HasEntry name stand = record { blocks = stand.blocks; ascend = stand.ascend; named = stand.named; reach = stand.reach; into = edge_into h }

pub stand_in_holds : (h : List Event) → StandInLaw h
stand_in_holds h floor ids edges name stand = search (rules, arith, of_history, least, stuck, none_keeps)
