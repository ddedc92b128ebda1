use Rattle.std.proofs.Common.{◌≡◌, List, ℕ, ◌++◌, IsFalse, length}
use Rattle.std.specs.Io.KnownBytes.{Appends}
use Rattle.si_audit.proofs.run.write_bytes.Given as goal

abbrev pub invariant-writing : goal.invariant-writing
invariant-writing g l = record {
  front : List ℕ;
  split : l.fn.bytes ≡ front ++ l.rest;
  appended : Appends (g.W.Sink.taken l.fn.writer) (g.W.Sink.taken l.writer) front;
  sound : IsFalse (g.W.Sink.has_failed l.writer);
  open_still : IsFalse (g.W.Sink.has_refused l.writer);
}

abbrev pub decreases-writing : goal.decreases-writing
decreases-writing g l = length l.rest
