-- All rows so far are found.
use Rattle.std.proofs.Common.{map}
use Rattle.sia_events.specs.Finding.{FindsBelow}
use Rattle.sia_events.proofs.finder.Finder.put_from.Given as goal

abbrev pub invariant-loop-number : goal.invariant-loop-number
invariant-loop-number g l = FindsBelow l.fn.self (map g.R.Named.named l.rows) l.first → FindsBelow l.self (map g.R.Named.named l.rows) l.number
