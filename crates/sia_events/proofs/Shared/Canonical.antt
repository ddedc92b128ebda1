-- The tokens of the canonical text are the spellings.
use Rattle.std.proofs.Common.{◌≡◌, ℕ, ◌≤◌, Option, true, false, cond, List, [], ◌∷◌, ◌++◌, map, refl, ap, sym, subst, ◌∙◌, arith, rules}
use Rattle.std.specs.List.{join_with_byte, AllByRecursion}
use Rattle.std.proofs.lemmas.Bool.Decides.{nat_tests}
use Rattle.sia_events.specs.declared.event.Event.{Event}
use Rattle.sia_events.specs.Text.{numeral, spell, is_separator, goes_on, onto_first, with_byte, tokens, canonical}
use Rattle.sia_events.proofs.Shared.Numerals.{IsDigit, AreDigits, numeral-digits}
use Rattle.sia_events.proofs.Shared.Spelling.{pairs_text, list_text, start_text, event_text, regrouped}
use Rattle.sia_events.proofs.OfLaws.Unspelling.{spell_injective}

-- no byte is a separator
abbrev pub HasNoSeparator : List ℕ → Type 0
HasNoSeparator bs = AllByRecursion (λ c. is_separator c ≡ false) bs

pub HasNoSeparator-append : (xs ys : List ℕ) → HasNoSeparator xs → HasNoSeparator ys → HasNoSeparator (xs ++ ys)
HasNoSeparator-append [] ys p q = q
HasNoSeparator-append (x ∷ xs) ys p q = (p.0, HasNoSeparator-append xs ys p.1 q)

digit_unbroken : (c : ℕ) → IsDigit c → is_separator c ≡ false
digit_unbroken c d = let low : 48 ≤ c = d.0 in grind (arith, nat_tests)

digits_unbroken : (bs : List ℕ) → AreDigits bs → HasNoSeparator bs
digits_unbroken [] d = tt
digits_unbroken (c ∷ bs) d = (digit_unbroken c d.0, digits_unbroken bs d.1)

-- a numeral, and bytes after it
numeral_unbroken : (n : ℕ) (ys : List ℕ) → HasNoSeparator ys → HasNoSeparator (numeral n ++ ys)
numeral_unbroken n ys p = HasNoSeparator-append (numeral n) ys (digits_unbroken (numeral n) (numeral-digits n)) p

pairs_unbroken : (p : ℕ × ℕ) (ps : List (ℕ × ℕ)) (after : List ℕ) → HasNoSeparator after → HasNoSeparator (pairs_text p ps after)
pairs_unbroken p [] after a = numeral_unbroken p.0 (58 ∷ (numeral p.1 ++ after)) (refl, numeral_unbroken p.1 after a)
pairs_unbroken p (q ∷ ps) after a = numeral_unbroken p.0 (58 ∷ (numeral p.1 ++ (44 ∷ pairs_text q ps after))) (refl, numeral_unbroken p.1 (44 ∷ pairs_text q ps after) (refl, pairs_unbroken q ps after a))

list_unbroken : (ps : List (ℕ × ℕ)) → HasNoSeparator (list_text ps)
list_unbroken q0 = search (rules, pairs_unbroken)

start_unbroken : (start : Option ℕ) → HasNoSeparator (start_text start)
start_unbroken q0 = search (rules, numeral_unbroken)

event_unbroken : (e : Event) → HasNoSeparator (event_text e)
event_unbroken q0 = search (rules, numeral_unbroken, start_text, start_unbroken, list_text, list_unbroken)

-- a token: it isn't empty
abbrev pub IsToken : List ℕ → Type 0
IsToken [] = ⊥
IsToken (c ∷ cs) = HasNoSeparator (c ∷ cs)

token_of_text : (e : Event) → IsToken (event_text e)
token_of_text q0 = search (rules, event_unbroken)

pub spell_token : (e : Event) → IsToken (spell e)
spell_token e = subst IsToken (sym (regrouped e)) (token_of_text e)

-- a byte at the end of a token, and before more of one
pub ends_token : (c : ℕ) (after : List ℕ) (ts : List (List ℕ)) → is_separator c ≡ false → goes_on after ≡ false → with_byte c after ts ≡ (c ∷ []) ∷ ts
ends_token c after ts p q = ap (λ b. cond b ts (cond (goes_on after) (onto_first c ts) ((c ∷ []) ∷ ts))) p ∙ ap (λ b. cond b (onto_first c ts) ((c ∷ []) ∷ ts)) q

pub goes_on_token : (c : ℕ) (after : List ℕ) (ts : List (List ℕ)) → is_separator c ≡ false → goes_on after ≡ true → with_byte c after ts ≡ onto_first c ts
goes_on_token c after ts p q = ap (λ b. cond b ts (cond (goes_on after) (onto_first c ts) ((c ∷ []) ∷ ts))) p ∙ ap (λ b. cond b (onto_first c ts) ((c ∷ []) ∷ ts)) q

pub goes_on_unbroken : (d : ℕ) (ds : List ℕ) → is_separator d ≡ false → goes_on (d ∷ ds) ≡ true
goes_on_unbroken d ds p = ap (λ b. cond b false true) p

-- a token and what follows it: nothing, or a space and more
first_token : (w rest : List ℕ) → IsToken w → tokens (w ++ (32 ∷ rest)) ≡ w ∷ tokens rest
first_token [] rest t = absurd t
first_token (c ∷ []) rest t = ends_token c (32 ∷ rest) (tokens rest) t.0 refl
first_token (c ∷ d ∷ w) rest t = grind (arith, goes_on_token, goes_on_unbroken, first_token (d ∷ w) rest t.1)

only_token : (w : List ℕ) → IsToken w → tokens w ≡ w ∷ []
only_token [] t = absurd t
only_token (c ∷ []) t = ends_token c [] [] t.0 refl
only_token (c ∷ d ∷ w) t = grind (arith, goes_on_token, goes_on_unbroken, only_token (d ∷ w) t.1)

tokens_joined : (ws : List (List ℕ)) → AllByRecursion IsToken ws → tokens (join_with_byte 32 ws) ≡ ws
tokens_joined [] a = refl
tokens_joined (w ∷ []) a = only_token w a.0
tokens_joined (w ∷ v ∷ ws) a = first_token w (join_with_byte 32 (v ∷ ws)) a.0 ∙ ap (λ ts. w ∷ ts) (tokens_joined (v ∷ ws) a.1)

spellings_tokens : (h : List Event) → AllByRecursion IsToken (map spell h)
spellings_tokens [] = tt
spellings_tokens (e ∷ h) = (spell_token e, spellings_tokens h)

-- the canonical text stands for its history
pub canonical_stands : (h : List Event) → tokens (canonical h) ≡ map spell h
canonical_stands h = tokens_joined (map spell h) (spellings_tokens h)

pub spellings_injective : (g h : List Event) → ◌≡◌ {A = List (List ℕ)} (map spell g) (map spell h) → g ≡ h
spellings_injective [] [] p = refl
spellings_injective [] (f ∷ h) p = cc
spellings_injective (e ∷ g) [] p = cc
spellings_injective (e ∷ g) (f ∷ h) p =
    let first : spell e ≡ spell f = cc in
    let rest : ◌≡◌ {A = List (List ℕ)} (map spell g) (map spell h) = cc in
    let a = spell_injective e f first in
    let b = spellings_injective g h rest in
    λ i. a i ∷ b i

-- no two histories have one canonical text
pub one_text : (g h : List Event) → canonical g ≡ canonical h → g ≡ h
one_text g h p = spellings_injective g h (sym (canonical_stands g) ∙ ap tokens p ∙ canonical_stands h)
