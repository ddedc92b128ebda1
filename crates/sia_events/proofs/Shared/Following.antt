-- What a locator keeps after one more byte.
use Rattle.std.proofs.Common.{◌≡◌, ◌≢◌, ◌⊎◌, inl, inr, ℕ, zero, suc, ◌+◌, ◌≤◌, Bool, true, false, cond, List, [], ◌∷◌, ◌++◌, length, take, refl, ap, sym, subst, ◌∙◌, append_assoc, append-nil, arith}
use Rattle.std.specs.Prelude.{min}
use Rattle.std.proofs.lemmas.Bool.{cases_lt}
use Rattle.std.proofs.lemmas.List.{length-append, length-take, take_all}
use Rattle.std.proofs.lemmas.List.Elements.{recursion_from_All, All-from_recursion, All-push}
use Rattle.std.proofs.Math.Seq.{take-length}
use Rattle.sia_events.specs.declared.locating.Place.{Place}
use Rattle.sia_events.specs.Text.{is_separator, goes_on, tokens}
use Rattle.sia_events.specs.Judging.{as_token}
use Rattle.sia_events.specs.Locations.{IsPlaceAfter}
use Rattle.sia_events.specs.Locating.{Located, HasToken, HasEnded, Follows}
use Rattle.sia_events.proofs.Shared.Canonical.{HasNoSeparator}
use Rattle.sia_events.proofs.TokenPlaces.Locations.{column_on}
use Rattle.sia_events.proofs.JudgedTexts.Tokens.{tokens-append, tokens_more, tokens_rest, tokens_unbroken}
use Rattle.sia_events.proofs.Shared.Cuts.{some_cut, tokens_cut}

-- ---- the first bytes of a token

take_front : (n : ℕ) (xs ys : List ℕ) → take n (take n xs ++ ys) ≡ take n (xs ++ ys)
take_front zero xs ys = refl
take_front (suc n) [] ys = refl
take_front (suc n) (x ∷ xs) ys = ap (λ (zs : List ℕ). x ∷ zs) (take_front n xs ys)

pub take_again : (n : ℕ) (xs : List ℕ) → take n (take n xs) ≡ take n xs
take_again n xs = ap (take n) (sym (append-nil (take n xs))) ∙ take_front n xs [] ∙ ap (take n) (append-nil xs)

-- taking no more than there are
pub take_least : (n : ℕ) (xs : List ℕ) → take (min (length xs) n) xs ≡ take n xs
take_least n xs = elim (cases_lt (length xs) n) [
  | inl less ↦ (let least : min (length xs) n ≡ length xs = omega arith in ap (λ k. take k xs) least ∙ take-length xs ∙ sym (take_all n xs (omega arith)))
  | inr more ↦ (let least : min (length xs) n ≡ n = omega arith in ap (λ k. take k xs) least)
]

-- ---- the tokens of a text and one more byte

-- a separator adds none
tokens_gap : (text : List ℕ) (c : ℕ) → is_separator c ≡ true → tokens (text ++ c ∷ []) ≡ tokens text
tokens_gap text c e =
    let h = some_cut text in
    let closed = h.0 in
    let rest = h.1 in
    let cut = h.2 in
    ap (λ (t : List ℕ). tokens (t ++ c ∷ [])) cut.whole ∙ ap tokens (append_assoc closed rest (c ∷ []))
    ∙ tokens_more closed rest c cut.closed_ends (recursion_from_All (λ b. is_separator b ≡ false) rest cut.rest_goes_on) e
    ∙ sym (tokens_cut text closed rest cut)

length_one : (w : List ℕ) → w ≢ [] → length (as_token w) ≡ 1
length_one w some = grind (arith)

-- ---- more text behind a token

has_more : (l now : Located) (text rest more : List ℕ) → now.number ≡ l.number → now.place ≡ l.place → now.token ≡ l.token → goes_on (rest ++ more) ≡ false → HasToken l text rest → HasToken now (text ++ more) (rest ++ more)
has_more l now text rest more number place token begins h =
    let a = h.at in
    record {
      token = h.token;
      at = grind (arith, append_assoc);
      kept = token ∙ h.kept;
      left = refl;
    }

-- a token that has ended stays where it is
pub ended_more : (l now : Located) (text more : List ℕ) → now.number ≡ l.number → now.place ≡ l.place → now.token ≡ l.token → HasEnded l text → HasEnded now (text ++ more)
ended_more l now text more number place token h = grind (arith, has_more l now text (h.0 ∷ h.1) more number place token (ap goes_on (sym h.2.left) ∙ h.2.at.rest_begins) h.2)

-- ---- one more byte

module _ (l : Located) (text : List ℕ) (c : ℕ) (next : Place) (f : Follows l text) (behind : IsPlaceAfter (text ++ c ∷ []) next.line next.column) where
  -- a separator
  pub passed_gap : is_separator c ≡ true → Follows (record { number = l.number; next = next; place = l.place; token = l.token; is_open = false }) (text ++ c ∷ [])
  passed_gap e = record {
    number_is = f.number_is ∙ ap length (sym (tokens_gap text c e));
    next_is = behind;
    unfinished = λ wrong. absurd cc;
    between = λ closed. inr (text, c, refl, e);
    ended = λ closed. by_open l.is_open refl;
  }
    where
      by_open : (b : Bool) → l.is_open ≡ b → (l.number ≡ 0) ⊎ HasEnded (record { number = l.number; next = next; place = l.place; token = l.token; is_open = false }) (text ++ c ∷ [])
      by_open true p = inr (c, [], has_more l (record { number = l.number; next = next; place = l.place; token = l.token; is_open = false }) text [] (c ∷ []) refl refl refl (ap (λ b. cond b false true) e) (f.unfinished p))
      by_open false p = elim (f.ended p) [
        | inl none ↦ inl none
        | inr h ↦ inr (ended_more l (record { number = l.number; next = next; place = l.place; token = l.token; is_open = false }) text (c ∷ []) refl refl refl h)
      ]

  -- one more byte of the token
  whole_on : (h : HasToken l text []) → text ++ c ∷ [] ≡ h.at.front ++ (h.token ++ c ∷ [])
  whole_on h = grind (arith, append-nil, append_assoc)

  token_on : (kept : List ℕ) (h : HasToken l text []) → is_separator c ≡ false → kept ≡ take 60 (l.token ++ c ∷ [])
      → HasToken (record { number = l.number; next = next; place = l.place; token = kept; is_open = l.is_open }) (text ++ c ∷ []) []
  token_on kept h e keeps = record {
    token = h.token ++ c ∷ [];
    at = record {
      front = h.at.front;
      rest = [];
      whole = whole_on h ∙ ap (λ (t : List ℕ). h.at.front ++ t) (sym (append-nil (h.token ++ c ∷ [])));
      some = λ none. (let len = ap length none in omega (arith, length-append h.token (c ∷ [])));
      unbroken = All-push (λ b. is_separator b ≡ false) h.token c h.at.unbroken e;
      front_ends = h.at.front_ends;
      rest_begins = refl;
      number_is = h.at.number_is;
      begins = h.at.begins;
    };
    kept = keeps ∙ ap (λ (t : List ℕ). take 60 (t ++ c ∷ [])) h.kept ∙ take_front 60 h.token (c ∷ []);
    left = refl;
  }

  number_on : (h : HasToken l text []) → is_separator c ≡ false → l.number ≡ length (tokens (text ++ c ∷ []))
  number_on h e =
      let w = h.token ++ c ∷ [] in
      let unbroken : HasNoSeparator w = recursion_from_All (λ b. is_separator b ≡ false) w (All-push (λ b. is_separator b ≡ false) h.token c h.at.unbroken e) in
      let split = ap length (ap tokens (whole_on h) ∙ tokens_rest h.at.front w h.at.front_ends unbroken) in
      let one : length (as_token w) ≡ 1 = length_one w (λ none. (let len = ap length none in omega (arith, length-append h.token (c ∷ [])))) in
      let number = h.at.number_is in
      omega (arith, length-append (tokens h.at.front) (as_token w))

  pub passed_on : (kept : List ℕ) → l.is_open ≡ true → is_separator c ≡ false → kept ≡ take 60 (l.token ++ c ∷ []) → Follows (record { number = l.number; next = next; place = l.place; token = kept; is_open = l.is_open }) (text ++ c ∷ [])
  passed_on kept inside e keeps = record {
    number_is = number_on (f.unfinished inside) e;
    next_is = behind;
    unfinished = λ same. token_on kept (f.unfinished inside) e keeps;
    between = λ closed. absurd (let wrong : true ≡ false = sym inside ∙ closed in cc);
    ended = λ closed. absurd (let wrong : true ≡ false = sym inside ∙ closed in cc);
  }

  -- the first byte of a token
  pub passed_first : (number : ℕ) (kept : List ℕ) → l.is_open ≡ false → is_separator c ≡ false → number ≡ l.number + 1 → kept ≡ c ∷ [] → Follows (record { number = number; next = next; place = l.next; token = kept; is_open = true }) (text ++ c ∷ [])
  passed_first number kept closed e counts keeps =
      let was = f.number_is in
      let split = ap length (tokens-append text (c ∷ []) (f.between closed) ∙ ap (λ (ts : List (List ℕ)). tokens text ++ ts) (tokens_unbroken (c ∷ []) (e, tt))) in
      record {
        number_is = omega (arith, length-append (tokens text) ((c ∷ []) ∷ []));
        next_is = behind;
        unfinished = λ same. record {
          token = c ∷ [];
          at = grind (arith, All-from_recursion);
          kept = keeps;
          left = refl;
        };
        between = λ wrong. absurd cc;
        ended = λ wrong. absurd cc;
      }

-- ---- more bytes of a token

pub passed_rest : (run text kept : List ℕ) (l : Located) (column : ℕ) → length l.token ≤ 60 → kept ≡ take 60 (l.token ++ run) → l.is_open ≡ true → HasNoSeparator run → length text + length run ≤ 17179869184 → Follows l text → column ≡ l.next.column + length run → Follows (record { number = l.number; next = record { line = l.next.line; column = column }; place = l.place; token = kept; is_open = l.is_open }) (text ++ run)
passed_rest [] text kept l column short keeps inside goes_on few f counts =
    let same : l.next.column ≡ column = omega arith in
    let all : l.token ≡ kept = sym (keeps ∙ ap (take 60) (append-nil l.token) ∙ take_all 60 l.token short) in
    subst (λ t. Follows (record { number = l.number; next = record { line = l.next.line; column = column }; place = l.place; token = t; is_open = l.is_open }) (text ++ [])) all
    (subst (λ n. Follows (record { number = l.number; next = record { line = l.next.line; column = n }; place = l.place; token = l.token; is_open = l.is_open }) (text ++ [])) same (subst (Follows l) (sym (append-nil text)) f))
passed_rest (c ∷ cs) text kept l column short keeps inside goes_on few f counts =
    let next : Place = record { line = l.next.line; column = l.next.column + 1 } in
    let token : List ℕ = take 60 (l.token ++ c ∷ []) in
    let one : Located = record { number = l.number; next = next; place = l.place; token = token; is_open = l.is_open } in
    let behind : IsPlaceAfter (text ++ c ∷ []) l.next.line (l.next.column + 1) = column_on text l.next.line l.next.column c goes_on.0 f.next_is in
    let more : kept ≡ take 60 (token ++ cs) = keeps ∙ ap (take 60) (sym (append_assoc l.token (c ∷ []) cs)) ∙ sym (take_front 60 (l.token ++ c ∷ []) cs) in
    subst (Follows (record { number = l.number; next = record { line = l.next.line; column = column }; place = l.place; token = kept; is_open = l.is_open })) (append_assoc text (c ∷ []) cs)
    (passed_rest cs (text ++ c ∷ []) kept one column (omega (arith, length-take 60 (l.token ++ c ∷ []))) more inside goes_on.1 (omega (arith, few, length-append text (c ∷ []))) (passed_on l text c next f behind token inside goes_on.0 refl) (omega (arith, counts)))
