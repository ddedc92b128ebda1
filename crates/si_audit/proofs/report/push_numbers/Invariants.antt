use Rattle.std.proofs.Common.{◌≡◌, ◌++◌, map, take}
use Rattle.sia_events.specs.Text.{numeral}
use Rattle.si_audit.specs.Spaced.{spaced}
use Rattle.si_audit.proofs.report.push_numbers.Given as goal

abbrev pub invariant-loop-n : goal.invariant-loop-n
invariant-loop-n l = l.out.items ≡ l.fn.out.items ++ spaced (map numeral (take l.n-index l.numbers))
