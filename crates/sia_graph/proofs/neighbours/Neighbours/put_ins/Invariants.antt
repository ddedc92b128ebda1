-- The rows at the versions so far: at most as many as there are looks before the last one, and range misses before the place.
use Rattle.std.specs.Prelude.{◌≤◌, ◌+◌, ℕ, length}
use Rattle.sia_parts.specs.EdgeRows.{noted_before}
use Rattle.sia_parts.proofs.Shared.Adding.{FromFirst}
use Rattle.sia_graph.specs.Found.{PutsMore}
use Rattle.sia_graph.proofs.OfNeighbours.Ins.{GoneTo, IsInAt}
use Rattle.sia_graph.proofs.neighbours.Neighbours.put_ins.Given as goal

abbrev pub invariant-loop-position : goal.invariant-loop-position
invariant-loop-position l = (low : ℕ) × GoneTo l.fn.self l.number l.position-items l.position-index low l.passed × (l.passed ≤ length l.fn.self.passings.items)
    × PutsMore (FromFirst (IsInAt l.fn.self l.number) l.position-items l.position-index) (noted_before l.fn.self.looks.now low + l.passed) l.fn.rows l.rows
