use Rattle.std.proofs.Common.{arith, ap, length}
use Rattle.std.proofs.lemmas.Fmt.{length-decimal-le}
use Rattle.std.proofs.lemmas.Grind.{common_steps}
use Rattle.sia_events.proofs.Writing.Decimals.{numeral_decimal}
use Rattle.si_audit.proofs.sheet.Word.of.Goals as goal

pub write_digits-start-requires : goal.write_digits-start-requires
write_digits-start-requires g c = (length-decimal-le 20 c.args.n (omega arith) (omega arith) (omega arith), omega arith)

pub append-end-requires-2 : goal.append-end-requires-2
append-end-requires-2 g c = grind (arith, common_steps, ap length (numeral_decimal c.args.n c.ranges.n.fits))

pub append-requires : goal.append-requires
append-requires g c = grind (arith, common_steps, ap length (numeral_decimal c.args.n c.ranges.n.fits))

pub overflow_cast-bytes : goal.overflow_cast-bytes
overflow_cast-bytes g c = grind (arith, common_steps, ap length (numeral_decimal c.args.n c.ranges.n.fits))

pub invariant_of-result : goal.invariant_of-result
invariant_of-result g c = grind (arith, common_steps, ap length (numeral_decimal c.args.n c.ranges.n.fits))

pub returns : goal.returns
returns g c = grind (arith, common_steps, numeral_decimal c.args.n c.ranges.n.fits, ap length (numeral_decimal c.args.n c.ranges.n.fits))
