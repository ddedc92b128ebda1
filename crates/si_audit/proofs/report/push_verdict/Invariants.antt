use Rattle.std.proofs.Common.{◌≡◌, ◌++◌, flat_map, take}
use Rattle.si_audit.specs.Lines.{step_words}
use Rattle.si_audit.specs.Spaced.{spaced}
use Rattle.si_audit.proofs.report.push_verdict.Given as goal

abbrev pub invariant-loop-s : goal.invariant-loop-s
invariant-loop-s l = l.out.items ≡ l.initial.out.items ++ flat_map (λ s. spaced (step_words s)) (take l.s-index l.steps)
