-- Numerals are what `{n}` and itoa write.
use Rattle.std.proofs.Common.{◌≡◌, ℕ, zero, suc, ◌+◌, ◌/◌, ◌%◌, ◌^◌, ◌<◌, ◌≤◌, Bool, true, false, List, [], ◌∷◌, ◌++◌, refl, ap, sym, ◌∙◌, arith, nat_lt, decimal}
use Rattle.std.proofs.lemmas.Fmt.{decimal_by_steps}
use Rattle.std.proofs.lemmas.Bool.Decides.{nat_tests}
use Rattle.sia_events.specs.Text.{digits_within, numeral}
use Rattle.sia_events.proofs.Shared.Numerals.{digits_by}

one_digit : (k n : ℕ) → n < 10 → digits_within (suc k) n ≡ (48 + n) ∷ []
one_digit k n small = let e : nat_lt n 10 ≡ true = grind (arith, nat_tests) in ap (digits_by k n) e

more_digits : (k n : ℕ) → 10 ≤ n → digits_within (suc k) n ≡ digits_within k (n / 10) ++ (48 + n % 10) ∷ []
more_digits k n big = let e : nat_lt n 10 ≡ false = grind (arith, nat_tests) in ap (digits_by k n) e

-- how many digits are asked for doesn't matter once there are enough
enough : (j k n : ℕ) → n < j → n < k → digits_within j n ≡ digits_within k n
enough zero k n p q = absurd (omega arith)
enough (suc j) zero n p q = absurd (omega arith)
enough (suc j) (suc k) n p q = by_size (nat_lt n 10) refl (λ big. enough j k (n / 10) (omega arith) (omega arith))
  where
    by_size : (b : Bool) → nat_lt n 10 ≡ b → (10 ≤ n → digits_within j (n / 10) ≡ digits_within k (n / 10)) → digits_within (suc j) n ≡ digits_within (suc k) n
    by_size true e rest = let small : n < 10 = grind (arith, nat_tests) in one_digit j n small ∙ sym (one_digit k n small)
    by_size false e rest =
        let big : 10 ≤ n = grind (arith, nat_tests) in
        more_digits j n big ∙ ap (λ (ds : List ℕ). ds ++ (48 + n % 10) ∷ []) (rest big) ∙ sym (more_digits k n big)

pub numeral_digit : (n : ℕ) → n < 10 → numeral n ≡ (48 + n) ∷ []
unfolding numeral
numeral_digit n small = enough (n + 1) (suc n) n (omega arith) (omega arith) ∙ one_digit n n small

pub numeral_step : (n : ℕ) → 10 ≤ n → numeral n ≡ numeral (n / 10) ++ (48 + n % 10) ∷ []
unfolding numeral
numeral_step n big = grind (arith, enough, more_digits)

-- a number of 64 bits is written so
pub numeral_decimal : (n : ℕ) → n < 2 ^ 64 → numeral n ≡ decimal n
numeral_decimal n fits = decimal_by_steps (λ m ds. numeral m ≡ ds) numeral_digit
    (λ m ds big e. numeral_step m big ∙ ap (λ (xs : List ℕ). xs ++ (48 + m % 10) ∷ []) e) n fits
