-- What the front of an order keeps, while an order is made one transaction at a time.
use Rattle.std.specs.Prelude.{◌≡◌, ◌⊎◌, ℕ, ◌<◌, ◌==◌, ◌||◌, Bool, false, List, [], ◌∷◌, slice_get, Some, ⊤}
use Rattle.sia_parts.specs.declared.finding.Edge.{Edge}
use Rattle.sia_graph.specs.Orders.{Leads, IsKeepingOrder}

-- t is in the list
abbrev pub stands : List ℕ → ℕ → Bool
stands [] t = false
stands (x ∷ xs) t = x == t || stands xs t

-- xs is before ys, or ys goes on from xs
abbrev pub IsNoLater : List ℕ → List ℕ → Type 0
IsNoLater [] ys = ⊤
IsNoLater (x ∷ xs) [] = ⊥
IsNoLater (x ∷ xs) (y ∷ ys) = (x < y) ⊎ ((x ≡ y) × IsNoLater xs ys)

-- members, each once; whoever has an edge to one of them stands before it; and no order that keeps every edge is before them
pub record IsFront (IsMember : ℕ → Type 0) (IsEdge : Edge → Type 0) (front : List ℕ) : Type 0 where
  pub members : (t i : ℕ) → slice_get front i ≡ Some t → IsMember t
  pub once : (t i j : ℕ) → slice_get front i ≡ Some t → slice_get front j ≡ Some t → i ≡ j
  pub closed : (s t i : ℕ) → Leads IsEdge s t → slice_get front i ≡ Some t → (j : ℕ) × (j < i) × (slice_get front j ≡ Some s)
  pub no_later : (order : List ℕ) → IsKeepingOrder IsMember IsEdge order → IsNoLater front order
