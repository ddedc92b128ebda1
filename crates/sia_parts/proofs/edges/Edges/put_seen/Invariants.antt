-- The rows of the positions so far. A later one before the end is of the key of one of them, and behind it.
use Rattle.std.specs.Prelude.{◌≤◌, length}
use Rattle.sia_parts.specs.declared.finding.Kind.TheVariants.{Rw}
use Rattle.sia_parts.specs.EdgeRows.{IsMakerRow, Puts}
use Rattle.sia_parts.proofs.Shared.Adding.{FromFirst}
use Rattle.sia_parts.proofs.EdgeRows.AccessRows.{EndsKey}
use Rattle.sia_parts.proofs.edges.Edges.put_seen.Given as goal

abbrev pub invariant-loop-position : goal.invariant-loop-position
invariant-loop-position l = EndsKey l.fn.self.index.now l.position-items l.position-index l.end × (l.end ≤ length l.fn.self.readings.now)
    × Puts (FromFirst (IsMakerRow l.fn.self.index.now l.source Rw) l.position-items l.position-index) l.end l.fn.rows l.rows
