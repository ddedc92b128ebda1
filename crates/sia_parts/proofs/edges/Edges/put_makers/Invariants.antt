-- The rows to those who made the versions so far.
use Rattle.std.specs.Prelude.{◌+◌}
use Rattle.sia_parts.specs.EdgeRows.{Puts}
use Rattle.sia_parts.proofs.EdgeRows.EdgeLoops.{MakersBelow}
use Rattle.sia_parts.proofs.edges.Edges.put_makers.Given as goal

abbrev pub invariant-loop-maker : goal.invariant-loop-maker
invariant-loop-maker l = Puts (MakersBelow l.fn.self.index.now l.source l.kind l.position (l.position + 1 + l.maker-index)) l.maker-index l.fn.rows l.rows
