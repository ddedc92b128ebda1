-- A new reader has read the empty text.
use Rattle.sia_events.proofs.Reading.Progresses.{text_none}
use Rattle.sia_events.proofs.reader.TextReader.with_limits.Goals as goal

pub invariant_of-result : goal.invariant_of-result
invariant_of-result c = λ found open_still few. (c.new.ensures.knows, rw (c.new.ensures.none, c.new-2.ensures.items) (text_none c.args.limits))
