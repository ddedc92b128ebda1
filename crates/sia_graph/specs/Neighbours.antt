-- The neighbours of one pivot, by their numbers: the ends of its vulnerable edges.
use Rattle.std.specs.Prelude.{ℕ, List, [], ◌∷◌}
use Rattle.sia_events.specs.declared.event.Event.{Event}
use Rattle.sia_events.specs.DangerousStructures.{IsFirst, IsPivot}
use Rattle.sia_events.specs.Lists.{ListsBy}
use Rattle.sia_index.specs.Numbers.{IsCommittedAt}
use Rattle.sia_graph.specs.declared.neighbours.Neighbour.{Neighbour}
use Rattle.sia_graph.specs.declared.neighbours.Role.{Role}
use Rattle.sia_graph.specs.declared.neighbours.Role.TheVariants.{In, Out, First}
use Rattle.sia_graph.specs.Links.{IsVulnerableAt}

-- what number j is to number i: a vulnerable edge leads from it or to it, or it commits first in a dangerous structure around i
abbrev pub HasRole : List Event → ℕ → Role → ℕ → Type 0
HasRole h i In j = IsVulnerableAt h j i
HasRole h i Out j = IsVulnerableAt h i j
HasRole h i First j = (t : ℕ) × (u : ℕ) × IsCommittedAt h i t × IsCommittedAt h j u × IsFirst h t u

abbrev pub IsPivotAt : List Event → ℕ → Type 0
IsPivotAt h i = (t : ℕ) × IsCommittedAt h i t × IsPivot h t

abbrev pub role_number : Role → ℕ
role_number In = 0
role_number Out = 1
role_number First = 2

abbrev pub neighbour_rank : Neighbour → List ℕ
neighbour_rank n = role_number n.role ∷ n.txn ∷ []

-- all neighbours of number i in each of their roles, by role and then by number, if it is a pivot, and else none
abbrev pub AreNeighbours : List Event → ℕ → List Neighbour → Type 0
AreNeighbours h i found = ListsBy neighbour_rank (λ n. IsPivotAt h i × HasRole h i n.role n.txn) found
