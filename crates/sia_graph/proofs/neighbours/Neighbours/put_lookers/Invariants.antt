-- The rows of who saw the versions so far, from the last one back.
use Rattle.std.specs.Prelude.{◌≤◌}
use Rattle.sia_parts.specs.EdgeRows.{noted_between}
use Rattle.sia_parts.proofs.Shared.Adding.{FromFirst}
use Rattle.sia_graph.specs.Found.{IsLookerRow, PutsMore}
use Rattle.sia_graph.proofs.OfNeighbours.Lookers.{IsLookRow}
use Rattle.sia_graph.proofs.neighbours.Neighbours.put_lookers.Given as goal

abbrev pub invariant-loop-look : goal.invariant-loop-look
invariant-loop-look l = PutsMore (FromFirst (IsLookRow l.fn.self l.number) l.look-items l.look-index) l.look-index l.initial.rows l.rows

abbrev pub invariant-loop-position : goal.invariant-loop-position
invariant-loop-position l = (l.from ≤ l.position) × (l.position ≤ l.to) × PutsMore (IsLookerRow l.fn.self l.number l.position l.to) (noted_between l.fn.self.looks.now l.position l.to) l.fn.rows l.rows
