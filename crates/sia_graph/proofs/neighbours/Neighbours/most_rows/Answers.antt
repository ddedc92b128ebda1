-- Each position has a list of those who saw the version there.
use Rattle.std.proofs.Common.{ℕ, length, ap, arith}
use Rattle.sia_parts.proofs.EdgeRows.Room.{one_count}
use Rattle.sia_graph.proofs.neighbours.Neighbours.most_rows.Goals as goal

pub returns : goal.returns
returns c =
    let same = one_count c.args.self.now.evidence.index.now _ _ c.position_count-positions.ensures c.requires.looks.long in
    let long = ap (length {A = ℕ}) c.rows.ensures in
    omega arith
