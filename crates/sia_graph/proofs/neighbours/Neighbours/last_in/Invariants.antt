-- The greatest commit of the ins so far.
use Rattle.sia_parts.proofs.Shared.Adding.{FromFirst}
use Rattle.sia_graph.specs.Late.{IsLastOf}
use Rattle.sia_graph.specs.Found.{InCommits}
use Rattle.sia_graph.proofs.neighbours.Neighbours.last_in.Given as goal

abbrev pub invariant-loop-row : goal.invariant-loop-row
invariant-loop-row l = IsLastOf (FromFirst (InCommits l.self.evidence.index.now) l.rows l.row-index) l.last
