-- The edges from the sources so far, and of one source those of the rows so far.
use Rattle.std.specs.Prelude.{◌≡◌, ◌≤◌, ◌++◌, map, take, vec_capacity}
use Rattle.sia_parts.specs.EdgeRows.{ListsEdgesBetween, edge_of, row_bound}
use Rattle.sia_parts.specs.Parts.{IsWithin}
use Rattle.sia_parts.proofs.edges.edges_at.Given as goal

abbrev pub invariant-loop-source : goal.invariant-loop-source
invariant-loop-source l = ListsEdgesBetween l.fn.ix (IsWithin l.fn.within) 0 l.source l.all.items × (row_bound l.edges ≤ vec_capacity l.rows)

abbrev pub invariant-loop-row : goal.invariant-loop-row
invariant-loop-row l = l.all.items ≡ l.initial.all.items ++ map (edge_of l.txns l.keys l.source) (take l.row-index l.row-items)
