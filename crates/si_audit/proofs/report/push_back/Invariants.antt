use Rattle.std.proofs.Common.{◌≡◌, ◌++◌, take, flat_map}
use Rattle.si_audit.specs.Lines.{pivot_line}
use Rattle.si_audit.proofs.report.push_back.Given as goal

abbrev pub invariant-loop-p : goal.invariant-loop-p
invariant-loop-p l = l.out.items ≡ l.fn.out.items ++ flat_map pivot_line (take l.p-index l.pivots)
