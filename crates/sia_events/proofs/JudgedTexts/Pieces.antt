-- A text that comes in pieces: what one piece adds to the events, and where it stops them.
use Rattle.std.proofs.Common.{◌≡◌, ◌≢◌, inl, inr, ℕ, true, false, List, [], ◌∷◌, ◌++◌, length, All, Result, Ok, refl, ap, sym, subst, ◌∙◌, append_assoc, arith}
use Rattle.std.specs.Prelude.{IfErr, OnOk}
use Rattle.std.proofs.lemmas.List.{append-nil}
use Rattle.std.proofs.lemmas.List.Elements.{recursion_from_All, All-from_recursion, All-nil}
use Rattle.sia_events.specs.Limits.{Limits}
use Rattle.sia_events.specs.declared.event.Event.{Event}
use Rattle.sia_events.specs.declared.fault.Refusal.{Refusal}
use Rattle.sia_events.specs.declared.fault.Refusal.TheVariants as refusals
use Rattle.sia_events.specs.Text.{is_separator, tokens}
use Rattle.sia_events.specs.Parsing.{Fails}
use Rattle.sia_events.specs.Streaming.{IsCutAtLastSeparator}
use Rattle.sia_events.specs.Judging.{judged, JudgedAll, StopsAt, Halts, HaltsIn, as_token, IsSplitAfter}
use Rattle.sia_events.specs.Drafts.{Stays}
use Rattle.sia_events.proofs.Shared.Canonical.{HasNoSeparator, HasNoSeparator-append}
use Rattle.sia_events.proofs.JudgedTexts.Tokens.{IsClosed, tokens-append, tokens_ended}
use Rattle.sia_events.proofs.JudgedTexts.Judged.{JudgedAll-append, JudgedAll-none, StopsAt-after, StopsAt-first}
use Rattle.sia_events.proofs.Shared.Cuts.{cut_then, stops_in}

one_token : (token : List ℕ) → length token ≢ 0 → as_token token ≡ token ∷ []
one_token token some = grind (arith)

-- a refused token stops the events at it
pub halts_first : (limits : Limits) {X : Type 0} (result : Result X Refusal) (events all : List Event) (token : List ℕ) → length token ≢ 0 → IfErr result (λ fault. Fails fault (judged limits events token)) → IfErr result (λ fault. Stays fault events all) → IfErr result (λ fault. Halts limits fault events (as_token token) all)
halts_first limits result events all token some fails kept = grind (arith, one_token, StopsAt-first)

-- the event of a token that is taken is judged
pub taken_first : (limits : Limits) {X : Type 0} (result : Result X Refusal) (events all : List Event) (token : List ℕ) → length token ≢ 0 → OnOk result ((e : Event) × (judged limits events token ≡ Ok e) × (all ≡ events ++ e ∷ [])) → OnOk result (JudgedAll limits events (as_token token) all)
unfolding JudgedAll
taken_first limits result events all token some taken = grind (arith, one_token)

-- so it does in a text of which the tokens before it are judged
pub halts_in : (limits : Limits) (fault : Refusal) (events middle all : List Event) (text closed token after : List ℕ) (s : ℕ) → text ≡ closed ++ (token ++ s ∷ after) → IsClosed closed → HasNoSeparator token → is_separator s ≡ true
    → JudgedAll limits events (tokens closed) middle → Halts limits fault middle (as_token token) all → HaltsIn limits fault events text all
halts_in limits refusals.NoMemory events middle all text closed token after s whole ends unbroken separates fine h = tt
halts_in limits (refusals.Bad r) events middle all text closed token after s whole ends unbroken separates fine h = stops_in limits events middle all text closed token after s r whole ends unbroken separates fine h

-- ---- unfinished bytes, and a piece in which a separator ends their token

module _ (limits : Limits) (unfinished piece front after : List ℕ) (split : IsSplitAfter piece front after) (unbroken : All (λ c. is_separator c ≡ false) unfinished) where
  abbrev pub whole_token : List ℕ
  whole_token = unfinished ++ front

  pub token_unbroken : HasNoSeparator whole_token
  token_unbroken = HasNoSeparator-append unfinished front (recursion_from_All (λ c. is_separator c ≡ false) unfinished unbroken) split.unbroken

  pub first_whole : unfinished ++ piece ≡ whole_token ++ split.separator ∷ after
  first_whole = ap (λ (xs : List ℕ). unfinished ++ xs) split.whole ∙ sym (append_assoc unfinished front (split.separator ∷ after))

  abbrev done : List ℕ
  done = whole_token ++ split.separator ∷ []

  done_ends : IsClosed done
  done_ends = inr (whole_token, split.separator, refl, split.separates)

  done_tokens : tokens done ≡ as_token whole_token
  done_tokens = tokens_ended whole_token split.separator token_unbroken split.separates

  done_then : unfinished ++ piece ≡ done ++ after
  done_then = first_whole ∙ sym (append_assoc whole_token (split.separator ∷ []) after)

  done_cut : IsCutAtLastSeparator done done []
  done_cut = record { whole = sym (append-nil done); rest_goes_on = All-nil (λ b. is_separator b ≡ false); closed_ends = done_ends }

  cut_after : (closed rest : List ℕ) → IsCutAtLastSeparator after closed rest → IsCutAtLastSeparator (unfinished ++ piece) (done ++ closed) rest
  cut_after closed rest cut = subst (λ (t : List ℕ). IsCutAtLastSeparator t (done ++ closed) rest) (sym done_then) (cut_then done done [] after closed rest done_cut cut)

  tokens_after : (closed : List ℕ) → tokens (done ++ closed) ≡ as_token whole_token ++ tokens closed
  tokens_after closed = tokens-append done closed done_ends ∙ ap (λ (ts : List (List ℕ)). ts ++ tokens closed) done_tokens

  -- the token, and then those of the piece that a separator follows
  pub taken_after : (events middle all : List Event) (closed rest : List ℕ) → JudgedAll limits events (as_token whole_token) middle → IsCutAtLastSeparator after closed rest → JudgedAll limits middle (tokens closed) all
      → (more : List ℕ) × IsCutAtLastSeparator (unfinished ++ piece) more rest × JudgedAll limits events (tokens more) all
  taken_after events middle all closed rest first cut others =
      (done ++ closed, cut_after closed rest cut, subst (λ ts. JudgedAll limits events ts all) (sym (tokens_after closed)) (JudgedAll-append limits events middle all (as_token whole_token) (tokens closed) first others))

  pub halts_after : (fault : Refusal) (events middle all : List Event) → JudgedAll limits events (as_token whole_token) middle → HaltsIn limits fault middle after all → HaltsIn limits fault events (unfinished ++ piece) all
  halts_after refusals.NoMemory events middle all first h = tt
  halts_after (refusals.Bad r) events middle all first h =
      (done ++ h.0, h.1, cut_after h.0 h.1 h.2, subst (λ ts. StopsAt limits events ts all r) (sym (tokens_after h.0)) (StopsAt-after limits events middle all (as_token whole_token) (tokens h.0) r first h.3))

  pub halts_at_first : (fault : Refusal) (events all : List Event) → Halts limits fault events (as_token whole_token) all → HaltsIn limits fault events (unfinished ++ piece) all
  halts_at_first fault events all h = halts_in limits fault events events all (unfinished ++ piece) [] whole_token after split.separator first_whole (inl refl) token_unbroken split.separates (JudgedAll-none limits events) h

-- a piece without a separator
pub nothing_taken : (limits : Limits) (unfinished piece : List ℕ) (events : List Event) → All (λ c. is_separator c ≡ false) unfinished → HasNoSeparator piece → (closed : List ℕ) × IsCutAtLastSeparator (unfinished ++ piece) closed (unfinished ++ piece) × JudgedAll limits events (tokens closed) events
nothing_taken limits unfinished piece events unbroken more = (
  [],
  record {
    whole = refl;
    rest_goes_on = All-from_recursion (λ c. is_separator c ≡ false) (unfinished ++ piece) (HasNoSeparator-append unfinished piece (recursion_from_All (λ c. is_separator c ≡ false) unfinished unbroken) more);
    closed_ends = inl refl;
  },
  JudgedAll-none limits events,
)
