use Rattle.std.proofs.Common.{take}
use Rattle.si_audit.specs.Explained.{TellsAll}
use Rattle.si_audit.specs.Reasons.{TellsStep}
use Rattle.si_audit.proofs.Shared.Telling.{IsToldBehind}
use Rattle.si_audit.proofs.explain.push_steps.Given as goal

abbrev pub invariant-loop-e : goal.invariant-loop-e
invariant-loop-e l = IsToldBehind (TellsAll (TellsStep l.of.history.now) (take l.e-index l.edges)) l.fn.out.items l.out.items
