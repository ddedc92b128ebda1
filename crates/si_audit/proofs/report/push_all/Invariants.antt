use Rattle.std.proofs.Common.{take}
use Rattle.si_audit.specs.Explained.{TellsAll, WithReasons, TellsIf}
use Rattle.si_audit.proofs.Shared.Telling.{IsToldBehind}
use Rattle.si_audit.proofs.report.push_all.Given as goal

abbrev pub invariant-loop-x : goal.invariant-loop-x
invariant-loop-x g l = IsToldBehind (TellsAll (WithReasons g.T.Finding.line (TellsIf l.fn.of g.T.Finding.tells)) (take l.x-index l.found)) l.fn.out.items l.out.items
