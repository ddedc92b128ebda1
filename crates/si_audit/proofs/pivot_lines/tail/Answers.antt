use Rattle.std.proofs.Common.{ap, sym}
use Rattle.std.proofs.lemmas.List.{drop_more}
use Rattle.sia_graph.specs.declared.neighbours.Neighbour.{Neighbour}
use Rattle.sia_graph.specs.declared.neighbours.Role.TheVariants.{In}
use Rattle.si_audit.specs.PivotLines.{end_number}
use Rattle.si_audit.proofs.pivot_lines.tail.Goals as goal

pub returns-then-row-rows : goal.returns-then-row-rows
returns-then-row-rows c =
    let none : Neighbour = record { role = In; txn = 0 } in
    sym (ap end_number (drop_more c.args.rows.now c.args.row none c.if-row-rows.true))
