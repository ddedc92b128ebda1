-- The loops stop where the digits end, and keep their number where 64 bits hold it.
use Rattle.std.proofs.Common.{sym, arith}
use Rattle.sia_events.proofs.TokensRead.Digits.{digits_end, narrow_small, narrow_great, few_digits}
use Rattle.sia_events.proofs.number.digits.Goals as goal

pub overflow_mul-value : goal.overflow_mul-value
overflow_mul-value c = grind (arith, few_digits c.loop-len.value c.loop-len.len c.loop-len.invariant.small (omega (arith, c.loop-len-test.true)))

pub overflow_add-value : goal.overflow_add-value
overflow_add-value c = grind (arith, few_digits c.loop-len.value c.loop-len.len c.loop-len.invariant.small (omega (arith, c.loop-len-test.true)), c.in-Some.ensures)

pub returns-in_default-clause-len : goal.returns-in_default-clause-len
returns-in_default-clause-len c = sym (digits_end c.args.text.now c.loop-len.len c.loop-len.invariant.within c.loop-len.invariant.digits (λ less. c.in_default.ensures))

pub returns-in_default-clause-value : goal.returns-in_default-clause-value
returns-in_default-clause-value c = grind (arith, few_digits, digits_end, narrow_small)

pub returns-then-fits-clause-len : goal.returns-then-fits-clause-len
returns-then-fits-clause-len c = sym (digits_end c.args.text.now c.loop-digit.len c.loop-digit.invariant.within c.loop-digit.invariant.digits (λ less. c.in_default-digit_at.ensures))

pub returns-then-fits-clause-value : goal.returns-then-fits-clause-value
returns-then-fits-clause-value c = grind (arith, digits_end, narrow_small)

pub returns-else-fits-clause-len : goal.returns-else-fits-clause-len
returns-else-fits-clause-len c = sym (digits_end c.args.text.now c.loop-digit.len c.loop-digit.invariant.within c.loop-digit.invariant.digits (λ less. c.in_default-digit_at.ensures))

pub returns-else-fits-clause-value : goal.returns-else-fits-clause-value
returns-else-fits-clause-value c = grind (arith, digits_end, narrow_great)
