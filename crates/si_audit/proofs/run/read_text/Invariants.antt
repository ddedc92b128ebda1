use Rattle.std.proofs.Common.{◌≡◌, ◌+◌, ◌-◌, ◌≤◌, List, ℕ, IsFalse, length}
use Rattle.std.specs.Io.KnownBytes.{Consumes}
use Rattle.si_audit.specs.Engine.{IsFed}
use Rattle.si_audit.proofs.run.read_text.Given as goal

abbrev pub invariant-reading : goal.invariant-reading
invariant-reading g l = record {
  front : List ℕ;
  consumed : Consumes (g.R.Source.remaining l.fn.source) (g.R.Source.remaining l.source) front;
  counted : length front ≡ l.count;
  fed : IsFed l.fn.o.limits l.fn.o l.auditor front;
  given : g.R.Source.reads l.source ≤ g.R.Source.reads l.fn.source + l.count;
  given_few : g.R.Source.reads l.source ≤ g.R.Source.reads l.fn.source + l.fn.o.limits.bytes + 1;
  sound : IsFalse (g.R.Source.has_failed l.source);
}

abbrev pub decreases-reading : goal.decreases-reading
decreases-reading g l = l.fn.o.limits.bytes + 1 - l.count
