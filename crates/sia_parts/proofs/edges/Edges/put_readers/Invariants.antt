-- The rows to the readers of the versions so far.
use Rattle.sia_parts.specs.EdgeRows.{IsReadingRow, Puts, noted_between}
use Rattle.sia_parts.proofs.Shared.Adding.{FromFirst}
use Rattle.sia_parts.proofs.EdgeRows.EdgeLoops.{ReadersBelow}
use Rattle.sia_parts.proofs.edges.Edges.put_readers.Given as goal

abbrev pub invariant-loop-seen : goal.invariant-loop-seen
invariant-loop-seen l = Puts (ReadersBelow l.fn.self l.source l.position l.seen) (noted_between l.fn.self.readings.now l.position l.seen) l.fn.rows l.rows

abbrev pub invariant-loop-reader : goal.invariant-loop-reader
invariant-loop-reader l = Puts (FromFirst (IsReadingRow l.source l.key) l.reader-items l.reader-index) l.reader-index l.initial.rows l.rows
