-- None of the slots so far is free.
use Rattle.std.proofs.Common.{◌≡◌}
use Rattle.sia_events.specs.Finding.{AreTaken}
use Rattle.sia_events.proofs.finder.Finder.put.Given as goal

abbrev pub invariant-loop-step : goal.invariant-loop-step
invariant-loop-step l = AreTaken l.self.slots.items l.home l.step × (l.self ≡ l.fn.self)
