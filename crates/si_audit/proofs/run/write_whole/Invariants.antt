-- What was written is a front of the report, whose rest is yet to be given.
use Rattle.std.proofs.Common.{◌≡◌, List, ℕ, ◌++◌, IsFalse}
use Rattle.std.specs.Io.KnownBytes.{Appends}
use Rattle.si_audit.specs.Left.{IsYet, bytes_left}
use Rattle.si_audit.proofs.run.write_whole.Given as goal

abbrev pub invariant-giving : goal.invariant-giving
invariant-giving g l = record {
  written : (bytes : List ℕ) → IsYet l.initial.report bytes → (front : List ℕ) × (rest : List ℕ) × (bytes ≡ front ++ rest) × IsYet l.report rest × Appends (g.W.Sink.taken l.fn.writer) (g.W.Sink.taken l.writer) front;
  sound : IsFalse (g.W.Sink.has_failed l.writer);
  open_still : IsFalse (g.W.Sink.has_refused l.writer);
}

abbrev pub decreases-giving : goal.decreases-giving
decreases-giving g l = bytes_left l.report
