-- The place behind each byte of a text, and that a token with a number has one.
use Rattle.std.proofs.Common.{◌≡◌, ◌≢◌, ◌⊎◌, inl, inr, ℕ, ◌+◌, ◌<◌, ◌≤◌, Bool, true, false, cond, not, List, [], ◌∷◌, ◌++◌, length, reverse, refl, ap, sym, subst, ◌∙◌, arith}
use Rattle.std.specs.Prelude.{count_by, min}
use Rattle.std.specs.List.{position_or_len}
use Rattle.std.proofs.lemmas.Bool.Decides.{nat_tests}
use Rattle.std.proofs.lemmas.List.{append-nil, length-append, length-reverse, reverse-append, append_cancel_left}
use Rattle.std.proofs.lemmas.List.Elements.{recursion_from_All}
use Rattle.std.proofs.lemmas.List.Sums.{sum_by-append, count_by-le-length, prefix_len-le-length}
use Rattle.sia_events.specs.Text.{is_separator, goes_on, onto_first, tokens}
use Rattle.sia_events.specs.Locations.{is_line_feed, IsPlaceAfter, IsTokenAt}
use Rattle.sia_events.proofs.Shared.Canonical.{HasNoSeparator, ends_token, goes_on_token, goes_on_unbroken}
use Rattle.sia_events.proofs.JudgedTexts.Tokens.{IsClosed, tokens-append}

-- ---- one more byte

lines_more : (front : List ℕ) (c : ℕ) (b : Bool) → is_line_feed c ≡ b → count_by is_line_feed (front ++ c ∷ []) ≡ count_by is_line_feed front + cond b 1 0
lines_more front c b e = grind (arith, sum_by-append)

columns_more : (front : List ℕ) (c : ℕ) (b : Bool) → is_line_feed c ≡ b → position_or_len is_line_feed (reverse (front ++ c ∷ [])) ≡ cond (not b) (1 + position_or_len is_line_feed (reverse front)) 0
columns_more front c b e = ap (position_or_len is_line_feed) (reverse-append front (c ∷ [])) ∙ ap (λ t. cond (not t) (1 + position_or_len is_line_feed (reverse front)) 0) e

-- behind a line feed the next line begins
pub place_feed : (front : List ℕ) (line column c next : ℕ) → length front < 17179869184 → c ≡ 10 → next ≡ min (line + 1) 18446744073709551615 → IsPlaceAfter front line column → IsPlaceAfter (front ++ c ∷ []) next 1
place_feed front line column c next few is counts p = grind (arith, lines_more, columns_more, count_by-le-length)

-- any other byte takes one column
byte_on : (front : List ℕ) (line column c : ℕ) → is_line_feed c ≡ false → IsPlaceAfter front line column → IsPlaceAfter (front ++ c ∷ []) line (column + 1)
byte_on front line column c e p = grind (arith, lines_more, columns_more)

-- columns are no more than bytes
pub few_columns : (front : List ℕ) (line column : ℕ) → IsPlaceAfter front line column → column ≤ length front + 1
few_columns front line column p = grind (arith, prefix_len-le-length, length-reverse)

pub place_on : (front : List ℕ) (line column c next : ℕ) → length front < 17179869184 → c ≢ 10 → next ≡ min (column + 1) 18446744073709551615 → IsPlaceAfter front line column → IsPlaceAfter (front ++ c ∷ []) line next
place_on front line column c next few other counts p = grind (arith, few_columns front line column p, byte_on front line column c (grind (arith, nat_tests)) p)

no_feed : (c : ℕ) → is_separator c ≡ false → is_line_feed c ≡ false
no_feed c e = grind (arith, nat_tests)

pub column_on : (front : List ℕ) (line column c : ℕ) → is_separator c ≡ false → IsPlaceAfter front line column → IsPlaceAfter (front ++ c ∷ []) line (column + 1)
column_on front line column c e p = byte_on front line column c (no_feed c e) p

-- ---- one place for a number

-- of two texts one goes on from the other
both_ways : (a b c d : List ℕ) → a ++ b ≡ c ++ d → ((mid : List ℕ) × (c ≡ a ++ mid) × (b ≡ mid ++ d)) ⊎ ((mid : List ℕ) × (a ≡ c ++ mid) × (d ≡ mid ++ b))
both_ways [] b c d e = inl (c, refl, e)
both_ways (x ∷ a) b [] d e = inr (x ∷ a, refl, sym e)
both_ways (x ∷ a) b (y ∷ c) d e =
    let first : x ≡ y = cc in
    let after : a ++ b ≡ c ++ d = cc in
    elim (both_ways a b c d after) [
      | inl h ↦ inl (h.0, (let more = h.1 in cc), h.2)
      | inr h ↦ inr (h.0, (let more = h.1 in cc), h.2)
    ]

-- whether a text is empty or ends with a separator
abbrev is_ended : List ℕ → Bool
is_ended [] = true
is_ended (c ∷ []) = is_separator c
is_ended (c ∷ d ∷ cs) = is_ended (d ∷ cs)

is_ended-append : (front : List ℕ) (c : ℕ) (cs : List ℕ) → is_ended (front ++ c ∷ cs) ≡ is_ended (c ∷ cs)
is_ended-append (x ∷ y ∷ front) c cs = is_ended-append (y ∷ front) c cs
is_ended-append _ c cs = refl

closed_ended : (closed : List ℕ) → IsClosed closed → is_ended closed ≡ true
closed_ended closed h = grind (arith, is_ended-append)

unbroken_unended : (c : ℕ) (cs : List ℕ) → HasNoSeparator (c ∷ cs) → is_ended (c ∷ cs) ≡ false
unbroken_unended c [] t = t.0
unbroken_unended c (d ∷ cs) t = unbroken_unended d cs t.1

-- bytes of a token after a text leave it open
none_after : (closed mid : List ℕ) → IsClosed (closed ++ mid) → HasNoSeparator mid → mid ≡ []
none_after closed [] ends t = refl
none_after closed (c ∷ cs) ends t =
    let a = closed_ended (closed ++ c ∷ cs) ends in
    let b = is_ended-append closed c cs ∙ unbroken_unended c cs t in
    let wrong : true ≡ false = sym a ∙ b in cc

unbroken_front : (xs ys : List ℕ) → HasNoSeparator (xs ++ ys) → HasNoSeparator xs
unbroken_front [] ys t = tt
unbroken_front (x ∷ xs) ys t = (t.0, unbroken_front xs ys t.1)

-- a text is cut after its last separator in one way
pub one_cut : (closed rest front token : List ℕ) → closed ++ rest ≡ front ++ token → IsClosed closed → IsClosed front → HasNoSeparator rest → HasNoSeparator token → closed ≡ front
one_cut closed rest front token whole a b t u = elim (both_ways closed rest front token whole) [
  | inl h ↦
      let none : h.0 ≡ [] = none_after closed h.0 (subst IsClosed h.1 b) (unbroken_front h.0 token (subst HasNoSeparator h.2 t)) in
      sym (h.1 ∙ ap (λ (m : List ℕ). closed ++ m) none ∙ append-nil closed)
  | inr h ↦
      let none : h.0 ≡ [] = none_after front h.0 (subst IsClosed h.1 a) (unbroken_front h.0 rest (subst HasNoSeparator h.2 u)) in
      h.1 ∙ ap (λ (m : List ℕ). front ++ m) none ∙ append-nil front
]

length_onto : (c : ℕ) (ts : List (List ℕ)) → 0 < length (onto_first c ts)
length_onto c ts = grind (arith)

-- bytes that begin with a token have one
pub tokens_some : (c : ℕ) (cs : List ℕ) → is_separator c ≡ false → 0 < length (tokens (c ∷ cs))
tokens_some c cs e = grind (arith, goes_on_token, length_onto, ends_token)

-- the number of a token tells what is before it
no_longer : (front token rest mid after : List ℕ) → IsClosed front → token ≢ [] → HasNoSeparator token → token ++ rest ≡ mid ++ after → length (tokens (front ++ mid)) ≡ length (tokens front) → mid ≡ []
no_longer front token rest [] after ends some t whole same = refl
no_longer front [] rest (m ∷ ms) after ends some t whole same = absurd (some refl)
no_longer front (x ∷ xs) rest (m ∷ ms) after ends some t whole same = grind (arith, tokens_some, tokens-append, length-append)

one_token : (t u rest after : List ℕ) → HasNoSeparator t → HasNoSeparator u → goes_on rest ≡ false → goes_on after ≡ false → t ++ rest ≡ u ++ after → t ≡ u
one_token [] [] rest after p q a b e = refl
one_token [] (y ∷ u) rest after p q a b e = let wrong : true ≡ false = sym (goes_on_unbroken y (u ++ after) q.0) ∙ ap goes_on (sym e) ∙ a in cc
one_token (x ∷ t) [] rest after p q a b e = let wrong : true ≡ false = sym (goes_on_unbroken x (t ++ rest) p.0) ∙ ap goes_on e ∙ b in cc
one_token (x ∷ t) (y ∷ u) rest after p q a b e = grind (arith, one_token t u rest after p.1 q.1 a b (let tail : t ++ rest ≡ u ++ after = cc in tail))

unbroken : (text : List ℕ) (n line column : ℕ) (t : List ℕ) → (a : IsTokenAt text n line column t) → HasNoSeparator t
unbroken text n line column t a = recursion_from_All (λ c. is_separator c ≡ false) t a.unbroken

pub one_front : (text : List ℕ) (n l c : ℕ) (t : List ℕ) (d m : ℕ) (u : List ℕ) → (a : IsTokenAt text n l c t) → (b : IsTokenAt text n d m u) → a.front ≡ b.front
one_front text n l c t d m u a b =
    let whole : a.front ++ (t ++ a.rest) ≡ b.front ++ (u ++ b.rest) = sym a.whole ∙ b.whole in
    let first = a.number_is in
    let second = b.number_is in
    elim (both_ways a.front (t ++ a.rest) b.front (u ++ b.rest) whole) [
      | inl h ↦
          let same = ap (λ f. length (tokens f)) h.1 in
          let none = no_longer a.front t a.rest h.0 (u ++ b.rest) a.front_ends a.some (unbroken text n l c t a) h.2 (omega arith) in
          sym (h.1 ∙ ap (λ (x : List ℕ). a.front ++ x) none ∙ append-nil a.front)
      | inr h ↦
          let same = ap (λ f. length (tokens f)) h.1 in
          let none = no_longer b.front u b.rest h.0 (t ++ a.rest) b.front_ends b.some (unbroken text n d m u b) h.2 (omega arith) in
          h.1 ∙ ap (λ (x : List ℕ). b.front ++ x) none ∙ append-nil b.front
    ]

-- a text has one token with a number, at one place
pub one_location : (text : List ℕ) (n l c : ℕ) (t : List ℕ) (d m : ℕ) (u : List ℕ) → IsTokenAt text n l c t → IsTokenAt text n d m u → (l ≡ d) × (c ≡ m) × (t ≡ u)
one_location text n l c t d m u a b =
    let front = one_front text n l c t d m u a b in
    let line_a = a.begins.line_is in
    let line_b = b.begins.line_is in
    let column_a = a.begins.column_is in
    let column_b = b.begins.column_is in
    let lines = ap (count_by is_line_feed) front in
    let columns = ap (λ f. position_or_len is_line_feed (reverse f)) front in
    let rests : t ++ a.rest ≡ u ++ b.rest = append_cancel_left b.front (t ++ a.rest) (u ++ b.rest) (ap (λ f. f ++ (t ++ a.rest)) (sym front) ∙ sym a.whole ∙ b.whole) in
    (omega arith, omega arith, one_token t u a.rest b.rest (unbroken text n l c t a) (unbroken text n d m u b) a.rest_begins b.rest_begins rests)
