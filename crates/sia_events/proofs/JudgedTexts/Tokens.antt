-- The tokens of a text that is read from left to right.
use Rattle.std.proofs.Common.{◌≡◌, ◌⊎◌, inr, ℕ, ◌+◌, ◌<◌, Bool, true, false, cond, List, [], ◌∷◌, ◌++◌, length, take, drop, get_or, zero, suc, ◌≤◌, append-nil, refl, ap, sym, subst, ◌∙◌, append_assoc, arith}
use Rattle.std.specs.List.{position_or_len}
use Rattle.std.proofs.lemmas.List.Sums.{split_at_first, passes_at_first}
use Rattle.sia_events.specs.Text.{is_separator, goes_on, onto_first, with_byte, tokens}
use Rattle.sia_events.specs.Judging.{as_token, IsSplitAfter}
use Rattle.sia_events.proofs.Shared.Canonical.{HasNoSeparator, goes_on_unbroken, ends_token, goes_on_token}

-- nothing, or bytes up to a separator
abbrev pub IsClosed : List ℕ → Type 0
IsClosed closed = (closed ≡ []) ⊎ ((front : List ℕ) × (c : ℕ) × (closed ≡ front ++ c ∷ []) × (is_separator c ≡ true))

pub skipped : (c : ℕ) (after : List ℕ) (ts : List (List ℕ)) → is_separator c ≡ true → with_byte c after ts ≡ ts
skipped c after ts e = ap (λ b. cond b ts (cond (goes_on after) (onto_first c ts) ((c ∷ []) ∷ ts))) e

goes_on-append : (front : List ℕ) (c : ℕ) (after : List ℕ) → is_separator c ≡ true → goes_on (front ++ c ∷ after) ≡ goes_on (front ++ c ∷ [])
goes_on-append [] c after e = refl
goes_on-append (d ∷ front) c after e = refl

-- where a token goes on there is one
abbrev HasFirst : List (List ℕ) → Type 0
HasFirst ts = (t : List ℕ) × (more : List (List ℕ)) × (ts ≡ t ∷ more)

with_byte_first : (c : ℕ) (after : List ℕ) (ts : List (List ℕ)) → is_separator c ≡ false → HasFirst (with_byte c after ts)
with_byte_first c after ts e = subst HasFirst (sym (ap (λ b. cond b ts (cond (goes_on after) (onto_first c ts) ((c ∷ []) ∷ ts))) e)) (by_next (goes_on after) ts)
  where
    by_next : (b : Bool) (us : List (List ℕ)) → HasFirst (cond b (onto_first c us) ((c ∷ []) ∷ us))
    by_next true [] = (c ∷ [], [], refl)
    by_next true (u ∷ us) = (c ∷ u, us, refl)
    by_next false us = (c ∷ [], us, refl)

goes_on_first : (bs : List ℕ) → goes_on bs ≡ true → HasFirst (tokens bs)
goes_on_first [] e = absurd cc
goes_on_first (c ∷ cs) e = grind (arith, with_byte_first)

with_byte-append : (d : ℕ) (after : List ℕ) (ts us : List (List ℕ)) → (goes_on after ≡ true → HasFirst ts) → with_byte d after (ts ++ us) ≡ with_byte d after ts ++ us
with_byte-append d after ts us first = by_tests (is_separator d) (goes_on after) refl
  where
    onto : (vs : List (List ℕ)) → HasFirst vs → onto_first d (vs ++ us) ≡ onto_first d vs ++ us
    onto [] h = let p = h.2 in absurd cc
    onto (v ∷ vs) h = refl

    by_tests : (a b : Bool) → goes_on after ≡ b → cond a (ts ++ us) (cond b (onto_first d (ts ++ us)) ((d ∷ []) ∷ (ts ++ us))) ≡ cond a ts (cond b (onto_first d ts) ((d ∷ []) ∷ ts)) ++ us
    by_tests true b e = refl
    by_tests false true e = onto ts (first e)
    by_tests false false e = refl

-- the tokens before a separator, and those after it
tokens_past : (front : List ℕ) (c : ℕ) (after : List ℕ) → is_separator c ≡ true → tokens (front ++ c ∷ after) ≡ tokens (front ++ c ∷ []) ++ tokens after
tokens_past [] c after e = skipped c after (tokens after) e ∙ ap (λ (ts : List (List ℕ)). ts ++ tokens after) (sym (skipped c [] [] e))
tokens_past (d ∷ front) c after e =
    let h = tokens_past front c after e in
    let same = goes_on-append front c after e in
    ap (with_byte d (front ++ c ∷ after)) h
    ∙ ap (λ b. cond (is_separator d) (tokens (front ++ c ∷ []) ++ tokens after) (cond b (onto_first d (tokens (front ++ c ∷ []) ++ tokens after)) ((d ∷ []) ∷ (tokens (front ++ c ∷ []) ++ tokens after)))) same
    ∙ with_byte-append d (front ++ c ∷ []) (tokens (front ++ c ∷ [])) (tokens after) (goes_on_first (front ++ c ∷ []))

-- the tokens of a text that is cut after a separator
pub tokens-append : (closed after : List ℕ) → IsClosed closed → tokens (closed ++ after) ≡ tokens closed ++ tokens after
tokens-append closed after h = grind (arith, append_assoc, tokens_past)

pub stops_at : (c : ℕ) (after : List ℕ) → is_separator c ≡ true → goes_on (c ∷ after) ≡ false
stops_at c after p = ap (λ b. cond b false true) p

-- bytes without a separator are one token, or none
pub tokens_unbroken : (w : List ℕ) → HasNoSeparator w → tokens w ≡ as_token w
tokens_unbroken [] t = refl
tokens_unbroken (c ∷ []) t = ends_token c [] [] t.0 refl
tokens_unbroken (c ∷ d ∷ w) t = grind (arith, goes_on_token, goes_on_unbroken, tokens_unbroken (d ∷ w) t.1)

-- so are they with a separator after them
pub tokens_ended : (w : List ℕ) (s : ℕ) → HasNoSeparator w → is_separator s ≡ true → tokens (w ++ s ∷ []) ≡ as_token w
tokens_ended [] s t e = skipped s [] [] e
tokens_ended (c ∷ []) s t e = ap (with_byte c (s ∷ [])) (skipped s [] [] e) ∙ ends_token c (s ∷ []) [] t.0 (stops_at s [] e)
tokens_ended (c ∷ d ∷ w) s t e = grind (arith, goes_on_token, goes_on_unbroken, tokens_ended (d ∷ w) s t.1 e)

-- a closed text goes on to the next separator
pub closes : (closed w : List ℕ) (s : ℕ) → is_separator s ≡ true → IsClosed (closed ++ (w ++ s ∷ []))
closes closed w s e = inr (closed ++ w, s, sym (append_assoc closed w (s ∷ [])), e)

pub tokens_more : (closed w : List ℕ) (s : ℕ) → IsClosed closed → HasNoSeparator w → is_separator s ≡ true → tokens (closed ++ (w ++ s ∷ [])) ≡ tokens closed ++ as_token w
tokens_more closed w s ends t e = tokens-append closed (w ++ s ∷ []) ends ∙ ap (λ (ts : List (List ℕ)). tokens closed ++ ts) (tokens_ended w s t e)

pub tokens_rest : (closed w : List ℕ) → IsClosed closed → HasNoSeparator w → tokens (closed ++ w) ≡ tokens closed ++ as_token w
tokens_rest closed w ends t = tokens-append closed w ends ∙ ap (λ (ts : List (List ℕ)). tokens closed ++ ts) (tokens_unbroken w t)

-- no separator comes before the first
pub unbroken_front : (bs : List ℕ) → HasNoSeparator (take (position_or_len is_separator bs) bs)
unbroken_front [] = tt
unbroken_front (c ∷ bs) = by_test (is_separator c) refl (unbroken_front bs)
  where
    by_test : (b : Bool) → is_separator c ≡ b → HasNoSeparator (take (position_or_len is_separator bs) bs) → HasNoSeparator (take (position_or_len is_separator (c ∷ bs)) (c ∷ bs))
    by_test true e rest = let none : position_or_len is_separator (c ∷ bs) ≡ 0 = rw e refl in rw none tt
    by_test false e rest = let more : position_or_len is_separator (c ∷ bs) ≡ suc (position_or_len is_separator bs) = rw e (omega arith) in rw more (e, rest)

pub all_unbroken : (bs : List ℕ) → position_or_len is_separator bs ≡ length bs → HasNoSeparator bs
all_unbroken bs e = subst HasNoSeparator (ap (λ n. take n bs) e ∙ take_all bs) (unbroken_front bs)
  where
    take_all : (xs : List ℕ) → take (length xs) xs ≡ xs
    take_all [] = refl
    take_all (x ∷ xs) = ap (λ (ys : List ℕ). x ∷ ys) (take_all xs)

pub splits_after : (text : List ℕ) → position_or_len is_separator text < length text → IsSplitAfter text (take (position_or_len is_separator text) text) (drop (position_or_len is_separator text + 1) text)
splits_after text some = record {
  separator = get_or text (position_or_len is_separator text) 0;
  whole = split_at_first is_separator text 0 some;
  unbroken = unbroken_front text;
  separates = passes_at_first is_separator text 0 some;
}

-- a text of the same tokens, which goes on with these bytes
abbrev pub GoesOn : List ℕ → List ℕ → List (List ℕ) → Type 0
GoesOn text rest ts = (closed : List ℕ) × (text ≡ closed ++ rest) × IsClosed closed × (tokens closed ≡ ts)

-- separators after a closed text make no token
pub past_gap : (closed text : List ℕ) (n : ℕ) → n ≤ length text → ((k : ℕ) → k < n → is_separator (get_or text k 0) ≡ true) → IsClosed closed → GoesOn (closed ++ text) (drop n text) (tokens closed)
past_gap closed text zero within gap ends = (closed, refl, ends, refl)
past_gap closed [] (suc n) within gap ends = absurd (omega arith)
past_gap closed (c ∷ text) (suc n) within gap ends =
    let separates : is_separator c ≡ true = gap 0 (omega arith) in
    let more = past_gap (closed ++ c ∷ []) text n (omega arith) (λ k below. gap (suc k) (omega arith)) (closes closed [] c separates) in
    (more.0, sym (append_assoc closed (c ∷ []) text) ∙ more.1, more.2, more.3 ∙ tokens_more closed [] c ends tt separates ∙ append-nil (tokens closed))
