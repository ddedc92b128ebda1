-- A text cut after its last separator.
use Rattle.std.proofs.Common.{◌≡◌, inl, inr, ℕ, Bool, true, false, List, [], ◌∷◌, ◌++◌, refl, ap, sym, subst, ◌∙◌, append_assoc, rules}
use Rattle.std.proofs.lemmas.List.{append-nil}
use Rattle.std.proofs.lemmas.List.Elements.{recursion_from_All, All-nil, All-cons}
use Rattle.sia_events.specs.Limits.{Limits}
use Rattle.sia_events.specs.declared.event.Event.{Event}
use Rattle.sia_events.specs.declared.fault.Reason.{Reason}
use Rattle.sia_events.specs.declared.fault.Refusal.TheVariants as refusals
use Rattle.sia_events.specs.Text.{is_separator, tokens}
use Rattle.sia_events.specs.Judging.{JudgedAll, StopsAt, HaltsIn, as_token}
use Rattle.sia_events.specs.Streaming.{IsCutAtLastSeparator}
use Rattle.sia_events.proofs.JudgedTexts.Tokens.{IsClosed, tokens-append, tokens_rest, tokens_more, closes}
use Rattle.sia_events.proofs.Shared.Canonical.{HasNoSeparator}
use Rattle.sia_events.proofs.JudgedTexts.Judged.{StopsAt-after, StopsAt-more}

-- the tokens of a text are those that a separator follows, and what comes after the last separator
pub tokens_cut : (text closed rest : List ℕ) → IsCutAtLastSeparator text closed rest → tokens text ≡ tokens closed ++ as_token rest
tokens_cut text closed rest cut = ap tokens cut.whole ∙ tokens_rest closed rest cut.closed_ends (recursion_from_All (λ c. is_separator c ≡ false) rest cut.rest_goes_on)

-- some cut of a text
cut_front : (c : ℕ) (text closed rest : List ℕ) → IsCutAtLastSeparator text closed rest → (more : List ℕ) × (left : List ℕ) × IsCutAtLastSeparator (c ∷ text) more left
cut_front c text closed rest cut = by_end closed cut cut.closed_ends (is_separator c) refl
  where
    by_end : (ended : List ℕ) → IsCutAtLastSeparator text ended rest → IsClosed ended → (b : Bool) → is_separator c ≡ b → (more : List ℕ) × (left : List ℕ) × IsCutAtLastSeparator (c ∷ text) more left
    by_end ended k (inr h) b e = (c ∷ ended, rest, record { whole = ap (λ (xs : List ℕ). c ∷ xs) k.whole; rest_goes_on = k.rest_goes_on; closed_ends = inr (c ∷ h.0, h.1, ap (λ (xs : List ℕ). c ∷ xs) h.2, h.3) })
    by_end ended k (inl none) true e = (
      c ∷ [],
      rest,
      record {
        whole = ap (λ (xs : List ℕ). c ∷ xs) (k.whole ∙ ap (λ (xs : List ℕ). xs ++ rest) none);
        rest_goes_on = k.rest_goes_on;
        closed_ends = inr ([], c, refl, e);
      },
    )
    by_end ended k (inl none) false e = search (rules, All-cons)

pub some_cut : (text : List ℕ) → (closed : List ℕ) × (rest : List ℕ) × IsCutAtLastSeparator text closed rest
some_cut [] = ([], [], record { whole = refl; rest_goes_on = All-nil (λ b. is_separator b ≡ false); closed_ends = inl refl })
some_cut (c ∷ text) = let h = some_cut text in cut_front c text h.0 h.1 h.2

-- a cut of what follows a cut text's last separator is one of the whole
pub cut_then : (text closed rest piece more left : List ℕ) → IsCutAtLastSeparator text closed rest → IsCutAtLastSeparator (rest ++ piece) more left → IsCutAtLastSeparator (text ++ piece) (closed ++ more) left
cut_then text closed rest piece more left a b = record {
  whole = ap (λ (xs : List ℕ). xs ++ piece) a.whole ∙ append_assoc closed rest piece ∙ ap (λ (xs : List ℕ). closed ++ xs) b.whole ∙ sym (append_assoc closed more left);
  rest_goes_on = b.rest_goes_on;
  closed_ends = ends b.closed_ends;
}
  where
    ends : IsClosed more → IsClosed (closed ++ more)
    ends (inl none) = subst IsClosed (sym (ap (λ (xs : List ℕ). closed ++ xs) none ∙ append-nil closed)) a.closed_ends
    ends (inr h) = inr (closed ++ h.0, h.1, ap (λ (xs : List ℕ). closed ++ xs) h.2 ∙ sym (append_assoc closed h.0 (h.1 ∷ [])), h.3)

-- where a token is refused, some text follows it
pub stops_in : (limits : Limits) (events middle all : List Event) (text closed token after : List ℕ) (s : ℕ) (r : Reason) → text ≡ closed ++ (token ++ s ∷ after) → IsClosed closed → HasNoSeparator token → is_separator s ≡ true
    → JudgedAll limits events (tokens closed) middle → StopsAt limits middle (as_token token) all r → HaltsIn limits (refusals.Bad r) events text all
stops_in limits events middle all text closed token after s r whole ends unbroken separates fine stops =
    let h = some_cut after in
    let done = closed ++ (token ++ s ∷ []) in
    let done_ends = closes closed token s separates in
    let same : text ≡ done ++ after =
    whole ∙ ap (λ (xs : List ℕ). closed ++ xs) (sym (append_assoc token (s ∷ []) after)) ∙ sym (append_assoc closed (token ++ s ∷ []) after) in
    let first : IsCutAtLastSeparator done done [] = record { whole = sym (append-nil done); rest_goes_on = All-nil (λ b. is_separator b ≡ false); closed_ends = done_ends } in
    let cut : IsCutAtLastSeparator text (done ++ h.0) h.1 = subst (λ (t : List ℕ). IsCutAtLastSeparator t (done ++ h.0) h.1) (sym same) (cut_then done done [] after h.0 h.1 first h.2) in
    let all_tokens : tokens (done ++ h.0) ≡ (tokens closed ++ as_token token) ++ tokens h.0 =
    tokens-append done h.0 done_ends ∙ ap (λ (ts : List (List ℕ)). ts ++ tokens h.0) (tokens_more closed token s ends unbroken separates) in (
      done ++ h.0,
      h.1,
      cut,
      subst (λ ts. StopsAt limits events ts all r) (sym all_tokens)
          (StopsAt-more limits events all (tokens closed ++ as_token token) (tokens h.0) r (StopsAt-after limits events middle all (tokens closed) (as_token token) r fine stops)),
    )
