-- No text is shorter than its tokens with one byte between each two: so of a history's texts the canonical one is shortest.
use Rattle.std.proofs.Common.{◌≡◌, ℕ, suc, ◌≤◌, Bool, List, [], ◌∷◌, length, refl, sym, subst, arith, rules}
use Rattle.std.specs.List.{join_with_byte}
use Rattle.sia_events.specs.declared.event.Event.{Event}
use Rattle.sia_events.specs.Text.{is_separator, onto_first, tokens, canonical, StandsFor}
use Rattle.sia_events.specs.Laws.{CanonicalLaw}
use Rattle.sia_events.proofs.Shared.Canonical.{ends_token, goes_on_token, goes_on_unbroken, canonical_stands, one_text}
use Rattle.sia_events.proofs.JudgedTexts.Tokens.{skipped, stops_at}

-- how long the tokens are with one byte between each two
abbrev joined : List (List ℕ) → ℕ
joined ts = length (join_with_byte 32 ts)

-- a byte more in the first token
joined_onto : (c : ℕ) (ts : List (List ℕ)) → joined (onto_first c ts) ≡ suc (joined ts)
joined_onto c q1 = search rules

-- a token of one byte more
joined_byte : (c : ℕ) (ts : List (List ℕ)) → joined ((c ∷ []) ∷ ts) ≤ suc (suc (joined ts))
joined_byte c q1 = search rules

-- by an equation between lists of tokens
by_tokens : (ts us : List (List ℕ)) (n : ℕ) → ts ≡ us → joined us ≤ n → joined ts ≤ n
by_tokens ts us n e le = subst (λ vs. joined vs ≤ n) (sym e) le

last_byte : (c : ℕ) (b : Bool) → is_separator c ≡ b → joined (tokens (c ∷ [])) ≤ 1
last_byte c q1 p = search (rules, by_tokens, skipped, ends_token)

-- two bytes and more: the second is a separator, or it goes on with the first one's token
two_bytes : (c d : ℕ) (ds : List ℕ) (a b : Bool) → is_separator c ≡ a → is_separator d ≡ b → joined (tokens (d ∷ ds)) ≤ suc (length ds) → joined (tokens ds) ≤ length ds → joined (tokens (c ∷ d ∷ ds)) ≤ suc (suc (length ds))
two_bytes c d ds q3 b p q one two = search (rules, by_tokens, skipped, goes_on_token, goes_on_unbroken, joined_onto, ends_token, stops_at, joined_byte)

-- a text is as long as its tokens so joined, or longer
pub tokens_shorter : (cs : List ℕ) → joined (tokens cs) ≤ length cs
tokens_shorter [] = omega arith
tokens_shorter (c ∷ []) = last_byte c (is_separator c) refl
tokens_shorter (c ∷ d ∷ ds) = two_bytes c d ds (is_separator c) (is_separator d) refl refl (tokens_shorter (d ∷ ds)) (tokens_shorter ds)

pub canonical_shortest : (h : List Event) (text : List ℕ) → StandsFor text h → length (canonical h) ≤ length text
canonical_shortest h text stands = subst (λ ts. joined ts ≤ length text) stands (tokens_shorter text)

pub canonical_law : (h : List Event) → CanonicalLaw h
canonical_law h = record { stands = canonical_stands h; shortest = canonical_shortest h; one = one_text h }
