-- The bad writes of the positions so far.
use Rattle.std.proofs.Common.{[], ◌≤◌}
use Rattle.sia_parts.specs.Sights.{Adds}
use Rattle.sia_parts.proofs.Shared.BadWrites.{BadBetween}
use Rattle.sia_parts.proofs.audit.bad_writes_of.Given as goal

abbrev pub invariant-loop-second : goal.invariant-loop-second
invariant-loop-second l = record {
  stop : l.second ≤ l.to;
  adds : Adds (BadBetween l.scope.ix.now l.from l.second) [] l.bad.items;
}
