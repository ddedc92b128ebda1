-- The parts so far are answered, each as owed.
use Rattle.std.proofs.Common.{◌≡◌, length}
use Rattle.sia_pool.specs.Answers.{AnswersEach}
use Rattle.si_audit.specs.Found.{IsFoundAt}
use Rattle.si_audit.proofs.crew.AloneCrew.find.Given as goal

abbrev pub invariant-loop-part : goal.invariant-loop-part
invariant-loop-part l = record {
  len : length l.found.items ≡ l.part;
  owed : AnswersEach (IsFoundAt l.job.log.now l.job.parts.now) l.part l.found.items;
}
