-- Relations with the same closure. What is settled by one of two such relations is settled alike by the other, so few pairs
-- may stand for many edges.
use Rattle.std.specs.Prelude.{◌↔◌, ℕ, List, Contains}
use Rattle.sia_events.specs.declared.event.Event.{Event}
use Rattle.sia_events.specs.Closures.{HaveSameClosure}
use Rattle.sia_events.specs.Lists.{HoldsExactly, Precedes}
use Rattle.sia_events.specs.Transactions.{IsCommitted}
use Rattle.sia_events.specs.Replay.{Keeps}
use Rattle.sia_parts.specs.declared.finding.Edge.{Edge}
use Rattle.sia_parts.specs.Entries.{IsEdge}
use Rattle.sia_graph.specs.Orders.{Leads, IsKeepingOrder, IsLeastOrder}
use Rattle.sia_graph.specs.Cycles.{IsStuckSet}

-- each member once and nothing else, and it keeps the relation
abbrev pub IsOrderBy : (ℕ → Type 0) → (ℕ → ℕ → Type 0) → List ℕ → Type 0
IsOrderBy IsMember Step order = HoldsExactly IsMember order × Keeps Step order

-- and no list that does so is before it
abbrev pub IsLeastBy : (ℕ → Type 0) → (ℕ → ℕ → Type 0) → List ℕ → Type 0
IsLeastBy IsMember Step order = IsOrderBy IsMember Step order × ((other : List ℕ) → IsOrderBy IsMember Step other → ¬ Precedes other order)

-- some members, each with a step from one of them
abbrev pub IsFedBy : (ℕ → Type 0) → (ℕ → ℕ → Type 0) → List ℕ → Type 0
IsFedBy IsMember Step set = (t : ℕ) → Contains set t → IsMember t × (s : ℕ) × Contains set s × Step s t

-- the greatest such set
pub record IsStuckBy (IsMember : ℕ → Type 0) (Step : ℕ → ℕ → Type 0) (stuck : List ℕ) : Type 0 where
  pub fed : IsFedBy IsMember Step stuck
  pub greatest : (set : List ℕ) → IsFedBy IsMember Step set → (t : ℕ) → Contains set t → Contains stuck t

-- the relation settles what the edges settle: the same orders keep both, one of them is the least, and one set is stuck
pub record SettlesAlike (IsMember : ℕ → Type 0) (HasEntry : Edge → Type 0) (Step : ℕ → ℕ → Type 0) : Type 0 where
  pub kept : (order : List ℕ) → IsKeepingOrder IsMember HasEntry order ↔ IsOrderBy IsMember Step order
  pub least : (order : List ℕ) → IsLeastOrder IsMember HasEntry order ↔ IsLeastBy IsMember Step order
  pub stuck : (set : List ℕ) → IsStuckSet IsMember HasEntry set ↔ IsStuckBy IsMember Step set

-- the pair of t and u is listed
abbrev pub IsPair : List (ℕ × ℕ) → ℕ → ℕ → Type 0
IsPair pairs t u = Contains pairs (t, u)

-- the law of closures: pairs with the closure of the edges settle what the edges settle
abbrev pub ClosureLaw : List Event → Type 0
ClosureLaw h = (pairs : List (ℕ × ℕ)) → HaveSameClosure (Leads (IsEdge h)) (IsPair pairs) → SettlesAlike (IsCommitted h) (IsEdge h) (IsPair pairs)
