-- The digits passed so far, and the number that they stand for.
use Rattle.std.proofs.Common.{◌≡◌, ℕ, ◌-◌, ◌^◌, ◌<◌, ◌≤◌, true, false, length, take, slice_index}
use Rattle.sia_events.specs.Parsing.{is_digit, digits_value}
use Rattle.sia_events.proofs.number.digits.Given as goal

abbrev pub invariant-loop-len : goal.invariant-loop-len
invariant-loop-len l = record {
  within : l.len ≤ length l.text;
  digits : (k : ℕ) → k < l.len → is_digit (slice_index l.text k) ≡ true;
  small : l.value < 10 ^ l.len;
  kept : l.value ≡ digits_value (take l.len l.text);
}

abbrev pub decreases-loop-len : goal.decreases-loop-len
decreases-loop-len l = 19 - l.len

abbrev pub invariant-loop-digit : goal.invariant-loop-digit
invariant-loop-digit l = record {
  within : l.len ≤ length l.text;
  digits : (k : ℕ) → k < l.len → is_digit (slice_index l.text k) ≡ true;
  kept : l.fits ≡ true → l.value ≡ digits_value (take l.len l.text);
  lost : l.fits ≡ false → 2 ^ 64 ≤ digits_value (take l.len l.text);
}

abbrev pub decreases-loop-digit : goal.decreases-loop-digit
decreases-loop-digit l = length l.text - l.len
