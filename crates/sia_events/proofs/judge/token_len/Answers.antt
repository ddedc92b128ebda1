-- The blocks and then the loop pass bytes up to the first separator, or to the end.
use Rattle.std.proofs.Common.{◌≡◌, length, sym, ◌∙◌, ap, nat_le, w8, arith}
use Rattle.std.specs.Int.{trailing_zeros, w64}
use Rattle.std.specs.Simd.Lanes.{chunk}
use Rattle.std.proofs.lemmas.List.Sums.{position_or_len_is}
use Rattle.std.proofs.lemmas.Simd.{length-chunk, bitmask_splat, leading_from_mask_l, trailing_mask_l}
use Rattle.sia_events.specs.Text.{is_separator}
use Rattle.sia_events.proofs.JudgedTexts.PlainBytes.{unbroken_further}
use Rattle.sia_events.proofs.judge.token_len.Goals.{else-loop-len-test, then-loop-len-test+then-low-ne0}
use Rattle.sia_events.proofs.judge.token_len.Goals as goal

pub loop-len-preserved : goal.loop-len-preserved
loop-len-preserved c =
    let v = chunk c.loop-len.len 16 c.args.text.now in
    let long : length v ≡ 16 = length-chunk c.loop-len.len 16 c.args.text.now c.loop-len-test.true in
    let hits = bitmask_splat w8 nat_le v 16 32 long (omega arith) in
    let none = sym (leading_from_mask_l (λ x. nat_le x 32) v (sym hits ∙ c.if-low-ne0.false) ∙ long) in
    unbroken_further c.args.text.now c.loop-len.len 16 c.loop-len-test.true none c.loop-len.invariant

pub loop-len-2-init : goal.loop-len-2-init
loop-len-2-init c = elim c.loop-len-test.branch [
  | else-loop-len-test w ↦ rw w.len-is c.loop-len.invariant
  | then-loop-len-test+then-low-ne0 w ↦
      let v = chunk c.loop-len.len 16 c.args.text.now in
      let long : length v ≡ 16 = length-chunk c.loop-len.len 16 c.args.text.now w.loop-len-test.true in
      let hits = bitmask_splat w8 nat_le v 16 32 long (omega arith) in
      let some = w.if-low-ne0.true in
      rw w.len-is (unbroken_further c.args.text.now c.loop-len.len _ w.loop-len-test.true (ap (trailing_zeros w64) hits ∙ trailing_mask_l (λ x. nat_le x 32) 64 v (omega arith) (omega arith)) c.loop-len.invariant)
]

pub returns-else-not-is_separator-clause-len : goal.returns-else-not-is_separator-clause-len
returns-else-not-is_separator-clause-len c = sym (position_or_len_is is_separator c.args.text.now c.loop-len-2.len 0 c.loop-len-2.invariant.within c.loop-len-2.invariant.passed (λ less. sym (c.if-not-is_separator.ensures)))

pub returns-after-loop-len-2-clause-len : goal.returns-after-loop-len-2-clause-len
returns-after-loop-len-2-clause-len c = sym (position_or_len_is is_separator c.args.text.now c.loop-len-2.len 0 c.loop-len-2.invariant.within c.loop-len-2.invariant.passed (λ less. absurd (omega arith)))
