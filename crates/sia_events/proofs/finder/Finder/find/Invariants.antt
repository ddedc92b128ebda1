-- None of the slots so far is free, or has a row of the name.
use Rattle.std.proofs.Common.{ℕ, ◌+◌, ◌<◌, map}
use Rattle.sia_events.specs.Finding.{IsOther}
use Rattle.sia_events.proofs.finder.Finder.find.Given as goal

abbrev pub invariant-loop-step : goal.invariant-loop-step
invariant-loop-step g l = (e : ℕ) → e < l.step → IsOther l.self.slots.items (map g.R.Named.named l.rows) (l.home + e) l.name
