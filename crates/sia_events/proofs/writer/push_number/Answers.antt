-- The digits are at the front of what is copied, and what is cut off is behind them.
use Rattle.std.proofs.Common.{◌≡◌, ◌++◌, ◌+◌, ◌-◌, List, ℕ, length, take, drop, arith}
use Rattle.std.proofs.Math.Seq.{take-append-add, take-append_seam}
use Rattle.std.proofs.lemmas.Fmt.{length-decimal-le}
use Rattle.std.proofs.lemmas.List.{take-take}
use Rattle.std.proofs.lemmas.Result.{on_ok_weaker}
use Rattle.sia_events.proofs.Writing.Decimals.{numeral_decimal}
use Rattle.sia_events.proofs.Writing.Writing.{when_ok}
use Rattle.sia_events.proofs.writer.push_number.Goals as goal

pub write_digits-start-requires : goal.write_digits-start-requires
write_digits-start-requires c = (length-decimal-le 20 c.args.n (omega arith) (omega arith) (omega arith), omega arith)

-- as many bytes as the digits are, of what was copied
kept : (out block digits old : List ℕ) (start end : ℕ) → start + length digits ≡ 20 → drop start block ≡ digits ++ old → end ≡ length out + length digits
    → take end (out ++ take (start + 20 - start) (drop start block)) ≡ out ++ digits
kept out block digits old start end long written is = grind (arith, take-append-add, take-take, take-append_seam)

pub returns : goal.returns
returns c = grind (arith, kept, numeral_decimal, on_ok_weaker, when_ok)
