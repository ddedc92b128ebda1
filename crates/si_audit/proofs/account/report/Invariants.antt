use Rattle.std.proofs.Common.{◌≡◌, ◌++◌, take, flat_map}
use Rattle.si_audit.specs.Lines.{edge_line}
use Rattle.si_audit.proofs.account.report.Given as goal

abbrev pub invariant-loop-e : goal.invariant-loop-e
invariant-loop-e l = l.out.items ≡ l.initial.out.items ++ flat_map edge_line (take l.e-index l.e-items)
