-- The digits that bytes begin with.
use Rattle.std.proofs.Common.{◌≡◌, ℕ, ◌<◌, ◌≤◌, ◌^◌, true, false, List, length, get_or, Some, None, refl, arith, nat_lt}
use Rattle.std.proofs.lemmas.List.Sums.{prefix_len_is}
use Rattle.std.proofs.lemmas.Bool.Decides.{nat_tests}
use Rattle.std.proofs.Math.Nat.{pow-le-pow_right}
use Rattle.sia_events.specs.Parsing.{is_digit, digits_len, narrow}

-- a loop has passed digits, and stops at the end or at another byte
pub digits_end : (bytes : List ℕ) (len : ℕ) → len ≤ length bytes → ((k : ℕ) → k < len → is_digit (get_or bytes k 0) ≡ true) → (len < length bytes → is_digit (get_or bytes len 0) ≡ false) → digits_len bytes ≡ len
digits_end bytes len within digits stops = prefix_len_is is_digit bytes len 0 within digits stops

pub narrow_small : (n : ℕ) → n < 2 ^ 64 → narrow n ≡ Some n
narrow_small n h = let e : nat_lt n (2 ^ 64) ≡ true = grind (arith, nat_tests) in rw e refl

pub narrow_great : (n : ℕ) → 2 ^ 64 ≤ n → narrow n ≡ None
narrow_great n h = let e : nat_lt n (2 ^ 64) ≡ false = grind (arith, nat_tests) in rw e refl

-- a number of at most 18 digits
pub few_digits : (n len : ℕ) → n < 10 ^ len → len < 19 → n < 1000000000000000000
few_digits n len small few = grind (arith, pow-le-pow_right)
