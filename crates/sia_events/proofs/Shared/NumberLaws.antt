-- A number that is read is spelled so, and a numeral is read again.
use Rattle.std.proofs.Common.{◌≡◌, ◌==◌, ◌⊎◌, inl, inr, ℕ, zero, suc, ◌+◌, ◌-◌, ◌/◌, ◌%◌, ◌<◌, ◌≤◌, Bool, true, false, List, [], ◌∷◌, ◌++◌, length, take, drop, Ok, Err, refl, ap, sym, subst, ◌∙◌, append_assoc, arith, nat_lt, nat_le}
use Rattle.std.proofs.lemmas.List.{append-nil}
use Rattle.std.proofs.lemmas.Bool.{cases_lt, and_parts, leb-true, false_from_ne_true}
use Rattle.std.proofs.lemmas.Bool.Decides.{nat_tests}
use Rattle.sia_events.specs.Text.{numeral}
use Rattle.sia_events.specs.declared.fault.Reason.TheVariants.{BadEvent}
use Rattle.sia_events.specs.Parsing.{is_digit, digits_len, lacks_numeral, narrow, number_at}
use Rattle.sia_events.proofs.Shared.Numerals.{IsDigit, AreDigits, StopsDigits, value_of, value_of-numeral, numeral-digits, value_of-append}
use Rattle.sia_events.proofs.Writing.Decimals.{numeral_digit, numeral_step}
use Rattle.std.proofs.Math.Seq.{take-append_seam, drop-append_seam}

pub digit_passes : (c : ℕ) → IsDigit c → is_digit c ≡ true
digit_passes c d = let low : 48 ≤ c = d.0 in let high : c ≤ 57 = d.1 in grind (arith, nat_tests)

passes_digit : (c : ℕ) → is_digit c ≡ true → IsDigit c
passes_digit c p = let parts = and_parts (nat_le 48 c) (nat_le c 57) p in (leb-true 48 c parts.0, leb-true c 57 parts.1)

stops_no_digit : (c : ℕ) → ¬ IsDigit c → is_digit c ≡ false
stops_no_digit c n = false_from_ne_true (is_digit c) (λ e. n (passes_digit c e))

-- digits, and then no digit
digits_len-append : (ds after : List ℕ) → AreDigits ds → StopsDigits after → digits_len (ds ++ after) ≡ length ds
digits_len-append [] [] a s = refl
digits_len-append [] (c ∷ after) a s = rw (stops_no_digit c s) refl
digits_len-append (d ∷ ds) after a s = rw (digit_passes d a.0) (let e = digits_len-append ds after a.1 s in omega arith)

-- what bytes begin with: digits, and then no digit
pub record SplitsDigits (bytes ds rest : List ℕ) : Type 0 where
  pub whole : bytes ≡ ds ++ rest
  pub digits : AreDigits ds
  pub stops : StopsDigits rest
  pub front : take (digits_len bytes) bytes ≡ ds
  pub back : drop (digits_len bytes) bytes ≡ rest
  pub len : digits_len bytes ≡ length ds

pub splits : (bytes : List ℕ) → (ds : List ℕ) × (rest : List ℕ) × SplitsDigits bytes ds rest
splits [] = ([], [], record { whole = refl; digits = tt; stops = tt; front = refl; back = refl; len = refl })
splits (c ∷ bytes) = by_test (splits bytes) (is_digit c) refl
  where
    by_test : ((ds : List ℕ) × (rest : List ℕ) × SplitsDigits bytes ds rest) → (b : Bool) → is_digit c ≡ b → (ds : List ℕ) × (rest : List ℕ) × SplitsDigits (c ∷ bytes) ds rest
    by_test h true e =
        let s = h.2 in
        let l : digits_len (c ∷ bytes) ≡ suc (digits_len bytes) = rw e (omega arith) in (
          c ∷ h.0,
          h.1,
          record {
            whole = ap (λ (xs : List ℕ). c ∷ xs) s.whole;
            digits = (passes_digit c e, s.digits);
            stops = s.stops;
            front = ap (λ n. take n (c ∷ bytes)) l ∙ ap (λ (xs : List ℕ). c ∷ xs) s.front;
            back = ap (λ n. drop n (c ∷ bytes)) l ∙ s.back;
            len = l ∙ ap suc s.len;
          },
        )
    by_test h false e =
        let l : digits_len (c ∷ bytes) ≡ 0 = rw e refl in (
          [],
          c ∷ bytes,
          record {
            whole = refl;
            digits = tt;
            stops = λ d. (let t : true ≡ false = sym (digit_passes c d) ∙ e in cc);
            front = ap (λ n. take n (c ∷ bytes)) l;
            back = ap (λ n. drop n (c ∷ bytes)) l;
            len = l;
          },
        )

-- digits with no leading zero are the numeral of their value
abbrev IsNumeral : List ℕ → Type 0
IsNumeral [] = ⊥
IsNumeral (c ∷ []) = Unit {0}
IsNumeral (c ∷ d ∷ ds) = 48 < c

one_more : (front : List ℕ) (c : ℕ) → IsDigit c → 0 < value_of front → numeral (value_of front) ≡ front → numeral (value_of (front ++ c ∷ [])) ≡ front ++ c ∷ []
one_more front c d positive e = grind (arith, value_of, value_of-append, numeral_step)

more_digits : (front ds : List ℕ) → AreDigits ds → 0 < value_of front → numeral (value_of front) ≡ front → numeral (value_of (front ++ ds)) ≡ front ++ ds
more_digits front [] a positive e = rw append-nil e
more_digits front (c ∷ ds) a positive e =
    let regrouped : front ++ (c ∷ ds) ≡ (front ++ c ∷ []) ++ ds = sym (append_assoc front (c ∷ []) ds) in
    let grows : 0 < value_of (front ++ c ∷ []) = omega (arith, value_of-append front c) in
    subst (λ (xs : List ℕ). numeral (value_of xs) ≡ xs) (sym regrouped) (more_digits (front ++ c ∷ []) ds a.1 grows (one_more front c a.0 positive e))

one_numeral : (c : ℕ) → IsDigit c → numeral (value_of (c ∷ [])) ≡ c ∷ []
one_numeral c d = grind (arith, value_of, numeral_digit)

numeral_of_digits : (ds : List ℕ) → AreDigits ds → IsNumeral ds → numeral (value_of ds) ≡ ds
numeral_of_digits [] a n = absurd n
numeral_of_digits (c ∷ []) a n = one_numeral c a.0
numeral_of_digits (c ∷ d ∷ ds) a n =
    let v : value_of (c ∷ []) ≡ c - 48 = omega arith in
    more_digits (c ∷ []) (d ∷ ds) a.1 (omega arith) (one_numeral c a.0)

-- a numeral has no leading zero
IsNumeral-append : (ds : List ℕ) (c : ℕ) → IsNumeral ds → 0 < value_of ds → AreDigits ds → IsNumeral (ds ++ c ∷ [])
IsNumeral-append ds c n positive a = grind (arith, value_of)

numeral_numeral_below : (limit n : ℕ) → n < limit → IsNumeral (numeral n)
numeral_numeral_below zero n below = absurd (omega arith)
numeral_numeral_below (suc limit) n below = elim (cases_lt n 10) [
  | inl small ↦ subst IsNumeral (sym (numeral_digit n small)) tt
  | inr big ↦
      let tens : IsNumeral (numeral (n / 10)) = numeral_numeral_below limit (n / 10) (omega arith) in
      let positive : 0 < value_of (numeral (n / 10)) = rw value_of-numeral (omega arith) in
      subst IsNumeral (sym (numeral_step n big)) (IsNumeral-append (numeral (n / 10)) (48 + n % 10) tens positive (numeral-digits (n / 10)))
]

pub numeral_numeral : (n : ℕ) → IsNumeral (numeral n)
numeral_numeral n = numeral_numeral_below (n + 1) n (omega arith)

-- what lacks_numeral tests, of the digits that the bytes begin with
lacks : List ℕ → Bool
lacks [] = true
lacks (c ∷ []) = false
lacks (c ∷ d ∷ ds) = c == 48

lacks_numeral_is : (bytes ds rest : List ℕ) → SplitsDigits bytes ds rest → lacks_numeral bytes ≡ lacks ds
unfolding lacks
lacks_numeral_is bytes ds rest s = grind (arith, nat_lt)

lacks_none : (ds : List ℕ) → IsNumeral ds → lacks ds ≡ false
unfolding lacks
lacks_none ds n = grind (arith)

not_lacking : (ds : List ℕ) → AreDigits ds → lacks ds ≡ false → IsNumeral ds
unfolding lacks
not_lacking ds a e = grind (arith)

-- a number stands at the front of the bytes, and what follows it
pub record BeginsWith (bytes : List ℕ) (n : ℕ) (rest : List ℕ) : Type 0 where
  pub whole : bytes ≡ numeral n ++ rest
  pub stops : StopsDigits rest
  pub read : number_at bytes ≡ Ok (narrow n, rest)

abbrev pub HasNumber : List ℕ → Type 0
HasNumber bytes = (number_at bytes ≡ Err BadEvent) ⊎ ((n : ℕ) × (rest : List ℕ) × BeginsWith bytes n rest)

-- what the digits give is read
reads : (bytes ds rest : List ℕ) → SplitsDigits bytes ds rest → lacks ds ≡ false → number_at bytes ≡ Ok (narrow (value_of ds), rest)
unfolding number_at
reads bytes ds rest s e = rw (lacks_numeral_is bytes ds rest s ∙ e, s.front, s.back) refl

-- where the bytes begin with a number it is read
pub number_cases : (bytes : List ℕ) → HasNumber bytes
unfolding number_at
number_cases bytes = by_digits (splits bytes).0 (splits bytes).1 (splits bytes).2 (lacks (splits bytes).0) refl
  where
    by_digits : (ds rest : List ℕ) → SplitsDigits bytes ds rest → (b : Bool) → lacks ds ≡ b → HasNumber bytes
    by_digits ds rest s true e = inl (rw (lacks_numeral_is bytes ds rest s ∙ e) refl)
    by_digits ds rest s false e = inr (
      value_of ds,
      rest,
      record {
        whole = s.whole ∙ ap (λ (xs : List ℕ). xs ++ rest) (sym (numeral_of_digits ds s.digits (not_lacking ds s.digits e)));
        stops = s.stops;
        read = reads bytes ds rest s e;
      },
    )

-- a numeral is read, whatever follows it that is no digit
pub number_again : (n : ℕ) (rest : List ℕ) → StopsDigits rest → number_at (numeral n ++ rest) ≡ Ok (narrow n, rest)
number_again n rest stops =
    let len : digits_len (numeral n ++ rest) ≡ length (numeral n) = digits_len-append (numeral n) rest (numeral-digits n) stops in
    let s : SplitsDigits (numeral n ++ rest) (numeral n) rest = record {
      whole = refl;
      digits = numeral-digits n;
      stops = stops;
      front = rw len (take-append_seam (numeral n) rest);
      back = rw len (drop-append_seam (numeral n) rest);
      len = len;
    } in
    reads (numeral n ++ rest) (numeral n) rest s (lacks_none (numeral n) (numeral_numeral n)) ∙ ap (λ m. Ok (narrow m, rest)) (value_of-numeral n)
