use Rattle.si_audit.proofs.explain.UnexplainedFinding.push_line.Goals as goal

pub returns : goal.returns
returns c = rw (c.number.ensures, c.number-2.ensures, c.number-3.ensures) at c.push_line.ensures
