use Rattle.std.proofs.Common.{◌<◌, ◌^◌, arith, rules, slice_index_or}
use Rattle.si_audit.proofs.OfReport.EdgesInTurn.{numeral_short}
use Rattle.si_audit.proofs.spelled.Spelled.of.Goals as goal

pub of-requires : goal.of-requires
of-requires c =
    let small : c.from.result < 2 ^ 32 = search rules in
    omega (arith, numeral_short 10 c.from.result (omega arith) (omega arith) (omega arith))

pub of-requires-in-loop-key : goal.of-requires-in-loop-key
of-requires-in-loop-key c =
    let fits : slice_index_or c.written_keys-written.result.now c.loop-key.key-index 0 < 2 ^ 64 = search rules in
    omega (arith, numeral_short 20 (slice_index_or c.written_keys-written.result.now c.loop-key.key-index 0) (omega arith) (omega arith) fits)
