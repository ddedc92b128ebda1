-- A pair is read from the bytes that spell it alone, and so it is read again where these stand again.
use Rattle.std.proofs.Common.{inl, inr, ◌≡◌, ℕ, zero, suc, ◌+◌, ◌-◌, ◌%◌, ◌^◌, ◌<◌, ◌≤◌, Bool, true, false, not, cond, List, [], ◌∷◌, ◌++◌, length, take, drop, map, get_or, Some, Result, Ok, Err, refl, ap, sym, subst, ◌∙◌, append_assoc, map-id, nat_eq, w8, arith}
use Rattle.std.specs.Int.{trailing_zeros, w64}
use Rattle.std.specs.List.{prefix_len}
use Rattle.std.specs.Simd.Lanes.{mask_l, zip2, top}
use Rattle.std.proofs.lemmas.Simd.{leading_from_mask_l, trailing_mask_l, tops_compared, mask_l-mod, length-zip2, get_or-zip2}
use Rattle.std.proofs.lemmas.Bool.{cases_eq}
use Rattle.std.proofs.lemmas.Bool.Decides.{nat_tests}
use Rattle.std.proofs.lemmas.List.{take-append-drop, length-append, length-take-le, get_or-take}
use Rattle.std.proofs.lemmas.List.Sums.{prefix_len_passes, prefix_len-le-length, prefix_len-drop_no}
use Rattle.std.proofs.Math.Seq.{take-append_seam}
use Rattle.sia_events.specs.declared.fault.Reason.{Reason}
use Rattle.sia_events.specs.declared.fault.Reason.TheVariants.{BadEvent}
use Rattle.sia_events.specs.Parsing.{is_digit, digits_len, after_byte, pair_at, SpellsPair}
use Rattle.sia_events.specs.Text.{numeral}
use Rattle.sia_events.proofs.Shared.Numerals.{StopsDigits}
use Rattle.sia_events.proofs.Shared.Spelling.{colon}
use Rattle.sia_events.proofs.Shared.NumberLaws.{digit_passes, number_again}
use Rattle.sia_events.proofs.Shared.EventLaws.{pair_cases}

abbrev pub differ : ℕ → ℕ → Bool
differ a b = not (nat_eq a b)

-- what a mask of 16 lanes that differ stands for
pub compared : (xs ys : List ℕ) → length xs ≡ 16 → length ys ≡ 16 → mask_l (map (top 7) (zip2 (λ a b. cond (differ a b) 255 0) xs ys)) % 2 ^ 64 ≡ mask_l (map (λ (b : Bool). b) (zip2 differ xs ys))
compared xs ys p q =
    let long : length (zip2 differ xs ys) ≡ 16 = length-zip2 differ xs ys (p ∙ sym q) ∙ p in
    ap (λ (ms : List Bool). mask_l ms % 2 ^ 64) (tops_compared w8 differ xs ys) ∙ mask_l-mod (zip2 differ xs ys) 64 (omega arith) ∙ ap mask_l (sym (map-id (zip2 differ xs ys)))

pub same_lanes : (text bytes : List ℕ) (len : ℕ) → 16 ≤ length text → length bytes ≡ 16 → len ≡ prefix_len not (zip2 differ (take 16 text) bytes) → (k : ℕ) → k < len → get_or text k 0 ≡ get_or bytes k 0
same_lanes text bytes len room few counted k below =
    let first = length-take-le 16 text room in
    let long : length (zip2 differ (take 16 text) bytes) ≡ 16 = length-zip2 differ (take 16 text) bytes (first ∙ sym few) ∙ first in
    let most = prefix_len-le-length not (zip2 differ (take 16 text) bytes) in
    let within : k < 16 = omega arith in
    let passes : not (get_or (zip2 differ (take 16 text) bytes) k false) ≡ true = prefix_len_passes not (zip2 differ (take 16 text) bytes) k false (omega arith) in
    let is : get_or (zip2 differ (take 16 text) bytes) k false ≡ differ (get_or (take 16 text) k 0) (get_or bytes k 0) = get_or-zip2 differ (take 16 text) bytes k 0 0 false (omega arith) (omega arith) in
    let at = get_or-take 16 text k 0 within in
    let tested : not (differ (get_or (take 16 text) k 0) (get_or bytes k 0)) ≡ true = ap not (sym is) ∙ passes in
    let equal : get_or (take 16 text) k 0 ≡ get_or bytes k 0 = grind (arith, nat_tests) in
    sym at ∙ equal

ok_parts : {A B : Type 0} {a c : A} {b d : B} → ◌≡◌ {A = Result (A × B) Reason} (Ok (a, b)) (Ok (c, d)) → (a ≡ c) × (b ≡ d)
ok_parts {A} {B} {a} {c} {b} {d} e = let p : ◌≡◌ {A = A × B} (a, b) (c, d) = cc in (ap (λ x. x.0) p, ap (λ x. x.1) p)

stopped : (more : List ℕ) → digits_len more ≡ 0 → StopsDigits more
stopped [] stops = tt
stopped (c ∷ cs) stops = λ d. (let some : digits_len (c ∷ cs) ≡ suc (digits_len cs) = rw (digit_passes c d) (omega arith) in omega arith)

abbrev IsSpelled : List ℕ → List ℕ → ℕ → ℕ → Type 0
IsSpelled bytes rest key saw = (spelled : List ℕ) × (bytes ≡ spelled ++ rest) × SpellsPair spelled key saw

-- a pair is read from its bytes alone
pub pair_again : (bytes rest : List ℕ) (key saw : ℕ) → pair_at bytes ≡ Ok (Some (key, saw), rest) → IsSpelled bytes rest key saw
unfolding pair_at after_byte
pair_again bytes rest key saw read = elim (pair_cases bytes) [
  | inl bad ↦ absurd (let t : Err BadEvent ≡ Ok (Some (key, saw), rest) = sym bad ∙ read in cc)
  | inr h ↦
      let k = numeral h.0.0 in
      let v = numeral h.0.1 in
      let parts = ok_parts (sym h.2.read ∙ read) in (
        k ++ (58 ∷ v),
        h.2.whole ∙ ap (λ (xs : List ℕ). k ++ (58 ∷ (v ++ xs))) parts.1 ∙ sym (append_assoc k (58 ∷ v) rest),
        λ more stops.
            rw (append_assoc k (58 ∷ v) more, number_again h.0.0 (58 ∷ (v ++ more)) colon, number_again h.0.1 more (stopped more stops)) (ap (λ o. Ok (o, more)) parts.0),
      )
]

-- what stands before the rest
pub spelled_before : (bytes rest : List ℕ) (key saw : ℕ) → pair_at bytes ≡ Ok (Some (key, saw), rest) → SpellsPair (take (length bytes - length rest) bytes) key saw
spelled_before bytes rest key saw read =
    let h = pair_again bytes rest key saw read in
    let spelled : List ℕ = h.0 in
    let long : length bytes ≡ length spelled + length rest = ap length h.1 ∙ length-append spelled rest in
    let len : length bytes - length rest ≡ length spelled = omega arith in
    let front : take (length bytes - length rest) bytes ≡ spelled = ap (λ n. take n bytes) len ∙ ap (λ (xs : List ℕ). take (length spelled) xs) h.1 ∙ take-append_seam spelled rest in
    subst (λ (xs : List ℕ). SpellsPair xs key saw) (sym front) h.2

same_front : (n : ℕ) (xs ys : List ℕ) → n ≤ length xs → n ≤ length ys → ((k : ℕ) → k < n → get_or xs k 0 ≡ get_or ys k 0) → take n xs ≡ take n ys
same_front zero xs ys p q same = refl
same_front (suc n) [] ys p q same = absurd (omega arith)
same_front (suc n) (x ∷ xs) [] p q same = absurd (omega arith)
same_front (suc n) (x ∷ xs) (y ∷ ys) p q same =
    let e : x ≡ y = same 0 (omega arith) in
    let t = same_front n xs ys (omega arith) (omega arith) (λ k below. same (suc k) (omega arith)) in
    λ i. e i ∷ t i

-- the same bytes stand there again
pub spelled_again : (text bytes : List ℕ) (len key saw : ℕ) → len < length text → len ≤ length bytes → ((k : ℕ) → k < len → get_or text k 0 ≡ get_or bytes k 0) → is_digit (get_or text len 0) ≡ false → SpellsPair (take len bytes) key saw → pair_at text ≡ Ok (Some (key, saw), drop len text)
spelled_again text bytes len key saw within long same stops spells =
    let front : take len text ≡ take len bytes = same_front len text bytes (omega arith) long same in
    let whole : text ≡ take len bytes ++ drop len text = sym (take-append-drop len text) ∙ ap (λ xs. xs ++ drop len text) front in
    ap pair_at whole ∙ spells (drop len text) (prefix_len-drop_no is_digit text len 0 within stops)

-- so many lanes are the same as the lowest bit of the mask says, and no more than there are
pub few_same : (ms : List Bool) (m least : ℕ) → length ms ≡ 16 → m ≡ mask_l (map (λ (b : Bool). b) ms) → least ≤ trailing_zeros w64 m → least ≤ 16 → least ≤ prefix_len not ms
few_same ms m least long is low few = elim (cases_eq m 0) [
  | inl none ↦ let all = leading_from_mask_l (λ (b : Bool). b) ms (sym is ∙ none) in omega (arith, all, long)
  | inr some ↦ let first = ap (trailing_zeros w64) is ∙ trailing_mask_l (λ (b : Bool). b) 64 ms (omega arith) (omega arith) in omega (arith, first)
]
