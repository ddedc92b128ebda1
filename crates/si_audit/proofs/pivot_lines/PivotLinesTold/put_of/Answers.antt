use Rattle.std.proofs.Common.{arith}
use Rattle.sia_parts.proofs.EdgeRows.EdgeLists.{has_number}
use Rattle.si_audit.proofs.OfReport.PivotsInTurn.{text_of_rows}
use Rattle.si_audit.proofs.pivot_lines.PivotLinesTold.put_of.Goals as goal

pub put_of-requires-clause-number : goal.put_of-requires-clause-number
put_of-requires-clause-number c =
    let e = c.args.self.now in
    let count = c.requires.ready.count in
    let below = c.requires.number in
    has_number e.neighbours.evidence.index.now e.txns.now c.requires.ready.txns c.args.number (omega arith)

pub returns-clause-rows : goal.returns-clause-rows
returns-clause-rows c =
    let e = c.args.self.now in
    let ready = c.requires.ready in
    text_of_rows e.neighbours.evidence.index.now e.spelled.now ready.spelled e.txns.now ready.txns c.args.number c.put_of.new.rows.items c.put_of.ensures.found
