-- Each position has a list of those who are noted there.
use Rattle.std.proofs.Common.{ℕ, length, ap, arith}
use Rattle.sia_parts.proofs.EdgeRows.Room.{one_count}
use Rattle.sia_parts.proofs.edges.Edges.most_rows.Goals as goal

pub returns : goal.returns
returns c =
    let same = one_count c.args.self.now.index.now _ _ c.position_count.ensures c.requires.readings.long in
    let long = ap (length {A = ℕ}) c.rows.ensures in
    omega arith
