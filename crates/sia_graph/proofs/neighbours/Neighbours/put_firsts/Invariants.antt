-- The firsts of the rows so far stand behind all rows.
use Rattle.std.specs.Prelude.{◌≡◌, ◌+◌, ◌≤◌, ◌++◌, List, count_by, length, take, vec_capacity}
use Rattle.sia_parts.specs.Sights.{Adds}
use Rattle.sia_parts.proofs.Shared.Adding.{FromFirst}
use Rattle.sia_graph.specs.declared.neighbours.Neighbour.{Neighbour}
use Rattle.sia_graph.specs.Found.{is_out}
use Rattle.sia_graph.proofs.OfPivots.PivotRows.{IsFirstOf}
use Rattle.sia_graph.proofs.neighbours.Neighbours.put_firsts.Given as goal

abbrev pub invariant-loop-i : goal.invariant-loop-i
invariant-loop-i l = ((more : List Neighbour) × (l.rows.items ≡ l.fn.rows.items ++ more)) × Adds (FromFirst (IsFirstOf l.self.evidence.index.now l.number) l.fn.rows.items l.i) l.fn.rows.items l.rows.items
    × (length l.rows.items ≤ length l.fn.rows.items + count_by is_out (take l.i l.fn.rows.items)) × (vec_capacity l.rows ≡ vec_capacity l.fn.rows)
