use Rattle.std.proofs.Common.{subst, arith}
use Rattle.sia_parts.specs.EdgeRows.{AreEdgesFrom}
use Rattle.sia_parts.specs.Parts.{IsWithin}
use Rattle.sia_parts.proofs.EdgeRows.EdgeLists.{has_number}
use Rattle.si_audit.proofs.OfReport.EdgesInTurn.{text_from}
use Rattle.si_audit.proofs.edge_lines.EdgeLinesTold.put_of.Goals as goal

pub put_from-requires-clause-source : goal.put_from-requires-clause-source
put_from-requires-clause-source c =
    let e = c.args.self.now in
    let (txns, are, count) = c.requires.ready.count in
    let below = c.requires.number in
    has_number e.edges.index.now txns are c.args.number (omega arith)

pub returns-clause-rows : goal.returns-clause-rows
returns-clause-rows c =
    let e = c.args.self.now in
    let ready = c.requires.ready in
    let (txns, are, count) = ready.count in
    let below = c.requires.number in
    let rows = c.put_from.new.rows.items in
    text_from e.edges.index.now e.spelled.now ready.spelled txns are c.args.number (omega arith) rows
    (subst (λ part. AreEdgesFrom e.edges.index.now (IsWithin part) c.args.number rows) ready.within c.put_from.ensures.edges)
