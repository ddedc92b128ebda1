-- The events so far.
use Rattle.std.proofs.Common.{◌≡◌, map, take}
use Rattle.sia_events.specs.Numbering.{names_of, pair_at}
use Rattle.sia_events.proofs.history.History.of.Given as goal

abbrev pub invariant-loop-before : goal.invariant-loop-before
invariant-loop-before l = l.events.items ≡ take l.before l.fn.log

abbrev pub invariant-loop-pair : goal.invariant-loop-pair
invariant-loop-pair l = l.pairs.items ≡ map (pair_at (names_of l.fn.log)) (take l.pair-index l.pair-items)
