-- The rows of the range misses so far.
use Rattle.std.specs.Prelude.{◌≤◌, ◌-◌}
use Rattle.sia_graph.specs.Found.{IsPasserRow, PutsMore}
use Rattle.sia_graph.proofs.neighbours.Neighbours.put_passers.Given as goal

abbrev pub invariant-loop-next : goal.invariant-loop-next
invariant-loop-next l = (l.from ≤ l.at) × (l.at ≤ l.to) × PutsMore (IsPasserRow l.fn.self l.number l.key l.from l.at) (l.at - l.from) l.fn.rows l.rows

abbrev pub decreases-loop-next : goal.decreases-loop-next
decreases-loop-next l = l.to - l.at
