-- What a reader keeps stands for a text: after one more piece, and as it ends.
use Rattle.std.proofs.Common.{◌≡◌, inl, ℕ, suc, ◌+◌, ◌≤◌, Bool, true, false, List, [], ◌++◌, map, length, Option, Some, None, refl, ap, sym, subst, ◌∙◌, arith}
use Rattle.std.specs.Prelude.{min, is_some}
use Rattle.std.proofs.lemmas.List.{length-append}
use Rattle.std.proofs.lemmas.List.Elements.{All-nil}
use Rattle.sia_events.specs.Limits.{Limits, greatest, AreWithin}
use Rattle.sia_events.specs.declared.event.Event.{Event}
use Rattle.sia_events.specs.declared.fault.Reason.{Reason}
use Rattle.sia_events.specs.declared.fault.TextFault.TheVariants.{Refused}
use Rattle.sia_events.specs.Text.{spell, is_separator, tokens, StandsFor}
use Rattle.sia_events.specs.Refusals.{HasReason, IsFirstFault, IsRefusal, IsAccepted, IsWellFormed}
use Rattle.sia_events.specs.Streaming.{IsCutAtLastSeparator, Progress, StandsForRead}
use Rattle.sia_events.specs.Judging.{JudgedAll, StopsAt, as_token, HasText}
use Rattle.sia_events.proofs.Shared.Cuts.{some_cut, cut_then, tokens_cut}
use Rattle.sia_events.proofs.JudgedTexts.Judged.{JudgedAll-append}
use Rattle.sia_events.proofs.Shared.Clean.{IsClean, clean_none, judged_clean, clean_accepted, read_as}
use Rattle.sia_events.proofs.Shared.FirstFaults.{clean_no_reason, first_fault_kept, stops_first}
use Rattle.sia_events.proofs.JudgedTexts.Tokens.{tokens-append}

-- what holds under limits that are a reader's own
pub by_own : (P Q : Limits → Type 0) (own limits : Limits) → own ≡ limits → (P own → Q own) → P limits → Q limits
by_own P Q own limits is f p = subst Q is (f (subst P (sym is) p))

pub none_is : (fault : Option (ℕ × Reason)) → is_some fault ≡ false → fault ≡ None
none_is None e = refl
none_is (Some f) e = cc

-- the events before a refused token are clean
pub stops_clean : (limits : Limits) (events all : List Event) (ts : List (List ℕ)) (r : Reason) → IsClean limits events → StopsAt limits events ts all r → IsClean limits all
stops_clean limits events all ts r clean stops = (judged_clean limits events stops.before all clean stops.fine).clean

-- ---- one more piece

counted_more : (text piece : List ℕ) (most count more : ℕ) → count ≡ min (length text) (most + 1) → more ≡ min (count + length piece) (most + 1) → more ≡ min (length (text ++ piece)) (most + 1)
counted_more text piece most count more a b = omega (arith, length-append text piece)

within : (text piece : List ℕ) (most : ℕ) → length (text ++ piece) ≤ most → length text ≤ most
within text piece most short = omega (arith, length-append text piece)

module _ (limits : Limits) (text piece : List ℕ) (count more : ℕ) (counts : more ≡ min (count + length piece) (limits.bytes + 1)) where
  -- its tokens are judged
  pub stands_taken : (events all : List Event) (unfinished closed left : List ℕ) (lost after : Bool) → StandsForRead limits (record { limits = limits; count = count; fault = None; events = events; unfinished = unfinished; lost = lost }) text → IsClean limits events
      → IsCutAtLastSeparator (unfinished ++ piece) closed left → JudgedAll limits events (tokens closed) all
      → StandsForRead limits (record { limits = limits; count = more; fault = None; events = all; unfinished = left; lost = after }) (text ++ piece)
  stands_taken events all unfinished closed left lost after stands clean cut fine = record {
    limits_are = refl;
    within = stands.within;
    counted = counted_more text piece limits.bytes count more stands.counted counts;
    judged = λ short.
        let j = stands.judged (within text piece limits.bytes short) in
        let same : unfinished ≡ j.1 = j.4 refl in
        let here : IsCutAtLastSeparator (j.1 ++ piece) closed left = subst (λ (u : List ℕ). IsCutAtLastSeparator (u ++ piece) closed left) same cut in
        let read = judged_clean limits events (tokens closed) all clean fine in
        let spelled : tokens (j.0 ++ closed) ≡ map spell all = tokens-append j.0 closed j.2.closed_ends ∙ ap (λ (ts : List (List ℕ)). ts ++ tokens closed) j.3.1 ∙ read.spelled in
        (j.0 ++ closed, left, cut_then text j.0 j.1 piece closed left j.2 here, (subst (λ ts. (i : ℕ) (r : Reason) → ¬ HasReason limits ts i r) (sym spelled) (clean_no_reason limits all read.clean), spelled), λ none. refl);
  }

  -- one of its tokens is refused
  pub stands_refused : (events all : List Event) (unfinished closed left kept : List ℕ) (lost after : Bool) (r : Reason) → StandsForRead limits (record { limits = limits; count = count; fault = None; events = events; unfinished = unfinished; lost = lost }) text → IsClean limits events
      → IsCutAtLastSeparator (unfinished ++ piece) closed left → StopsAt limits events (tokens closed) all r
      → StandsForRead limits (record { limits = limits; count = more; fault = Some (suc (length all), r); events = all; unfinished = kept; lost = after }) (text ++ piece)
  stands_refused events all unfinished closed left kept lost after r stands clean cut stops = record {
    limits_are = refl;
    within = stands.within;
    counted = counted_more text piece limits.bytes count more stands.counted counts;
    judged = λ short.
        let j = stands.judged (within text piece limits.bytes short) in
        let same : unfinished ≡ j.1 = j.4 refl in
        let here : IsCutAtLastSeparator (j.1 ++ piece) closed left = subst (λ (u : List ℕ). IsCutAtLastSeparator (u ++ piece) closed left) same cut in
        let all_tokens : map spell events ++ tokens closed ≡ tokens (j.0 ++ closed) = sym (tokens-append j.0 closed j.2.closed_ends ∙ ap (λ (ts : List (List ℕ)). ts ++ tokens closed) j.3.1) in
        (j.0 ++ closed, left, cut_then text j.0 j.1 piece closed left j.2 here, subst (λ ts. IsFirstFault limits ts (suc (length all)) r) all_tokens (stops_first limits events (tokens closed) all r clean stops), λ none. absurd cc);
  }

  -- a token was refused before
  pub stands_kept : (events : List Event) (unfinished : List ℕ) (lost after : Bool) (i : ℕ) (r : Reason) → StandsForRead limits (record { limits = limits; count = count; fault = Some (i, r); events = events; unfinished = unfinished; lost = lost }) text
      → StandsForRead limits (record { limits = limits; count = more; fault = Some (i, r); events = events; unfinished = unfinished; lost = after }) (text ++ piece)
  stands_kept events unfinished lost after i r stands = record {
    limits_are = refl;
    within = stands.within;
    counted = counted_more text piece limits.bytes count more stands.counted counts;
    judged = λ short.
        let j = stands.judged (within text piece limits.bytes short) in
        let h = some_cut (j.1 ++ piece) in
        let all_tokens : tokens j.0 ++ tokens h.0 ≡ tokens (j.0 ++ h.0) = sym (tokens-append j.0 h.0 j.2.closed_ends) in
        (j.0 ++ h.0, h.1, cut_then text j.0 j.1 piece h.0 h.1 j.2 h.2, subst (λ ts. IsFirstFault limits ts i r) all_tokens (first_fault_kept limits (tokens j.0) (tokens h.0) i r j.3), λ none. absurd cc);
  }

  pub stands_decided : (fault : Option (ℕ × Reason)) (events : List Event) (unfinished : List ℕ) (lost : Bool) → is_some fault ≡ true → StandsForRead limits (record { limits = limits; count = count; fault = fault; events = events; unfinished = unfinished; lost = lost }) text
      → StandsForRead limits (record { limits = limits; count = more; fault = fault; events = events; unfinished = unfinished; lost = lost }) (text ++ piece)
  stands_decided None events unfinished lost some stands = absurd cc
  stands_decided (Some f) events unfinished lost some stands = stands_kept events unfinished lost lost f.0 f.1 stands

-- ---- the end

-- what is shown of a reader's fields, of its own limits and of its fault as it was found
pub at_end : (P : Limits → Type 0) (r now : Progress) → r ≡ now → (fault : Option (ℕ × Reason)) → r.fault ≡ fault → (limits : Limits) (text : List ℕ)
    → (StandsForRead r.limits (record { limits = r.limits; count = r.count; fault = fault; events = r.events; unfinished = r.unfinished; lost = r.lost }) text → P r.limits) → StandsForRead limits now text → P limits
at_end P r now view fault is limits text shown stands =
    let given = subst (λ (p : Progress). StandsForRead limits p text) (sym view) stands in
    by_own (λ l. StandsForRead l r text) P r.limits limits given.limits_are (λ own. shown (subst (λ (o : Option (ℕ × Reason)). StandsForRead r.limits (record { limits = r.limits; count = r.count; fault = o; events = r.events; unfinished = r.unfinished; lost = r.lost }) text) is own)) given

module _ (limits : Limits) (text : List ℕ) (count : ℕ) (events all : List Event) (unfinished : List ℕ) (lost : Bool) (stands : StandsForRead limits (record { limits = limits; count = count; fault = None; events = events; unfinished = unfinished; lost = lost }) text) (few : count ≤ limits.bytes) (clean : IsClean limits events) where
  short_text : length text ≤ limits.bytes
  short_text = let c = stands.counted in omega arith

  all_tokens : tokens text ≡ map spell events ++ as_token unfinished
  all_tokens = grind (arith, short_text, tokens_cut)

  pub ends_accepted : JudgedAll limits events (as_token unfinished) all → IsAccepted limits text × StandsFor text all
  ends_accepted fine = grind (arith, judged_clean, all_tokens, clean_accepted, short_text)

  pub ends_refused : (r : Reason) → StopsAt limits events (as_token unfinished) all r → IsRefusal limits text (Refused (suc (length all)) r)
  ends_refused r stops = (short_text, subst (λ ts. IsFirstFault limits ts (suc (length all)) r) (sym all_tokens) (stops_first limits events (as_token unfinished) all r clean stops))

pub ends_kept : (limits : Limits) (text : List ℕ) (count : ℕ) (events : List Event) (unfinished : List ℕ) (lost : Bool) (i : ℕ) (r : Reason) → StandsForRead limits (record { limits = limits; count = count; fault = Some (i, r); events = events; unfinished = unfinished; lost = lost }) text → count ≤ limits.bytes → IsRefusal limits text (Refused i r)
ends_kept limits text count events unfinished lost i r stands few =
    let c = stands.counted in
    let short : length text ≤ limits.bytes = omega arith in
    let j = stands.judged short in
    (short, subst (λ ts. IsFirstFault limits ts i r) (sym (tokens_cut text j.0 j.1 j.2)) (first_fault_kept limits (tokens j.0) (as_token j.1) i r j.3))

-- ---- some text is always there

pub text_clean : (limits : Limits) (count : ℕ) (events : List Event) (unfinished : List ℕ) → HasText limits count events unfinished → IsClean limits events
text_clean limits count events unfinished h = (judged_clean limits [] (tokens h.closed) events (clean_none limits) h.fine).clean

pub text_none : (limits : Limits) → HasText limits 0 [] []
unfolding JudgedAll
text_none limits = record { text = []; closed = []; counted = refl; cut = record { whole = refl; rest_goes_on = All-nil (λ c. is_separator c ≡ false); closed_ends = inl refl }; fine = refl }

pub text_more : (limits : Limits) (count more : ℕ) (events all : List Event) (unfinished piece closed left : List ℕ) → more ≡ count + length piece → HasText limits count events unfinished → IsCutAtLastSeparator (unfinished ++ piece) closed left → JudgedAll limits events (tokens closed) all → HasText limits more all left
text_more limits count more events all unfinished piece closed left counts h cut fine = record {
  text = h.text ++ piece;
  closed = h.closed ++ closed;
  counted = (let c = h.counted in omega (arith, length-append h.text piece));
  cut = cut_then h.text h.closed unfinished piece closed left h.cut cut;
  fine = subst (λ ts. JudgedAll limits [] ts all) (sym (tokens-append h.closed closed h.cut.closed_ends)) (JudgedAll-append limits [] events all (tokens h.closed) (tokens closed) h.fine fine);
}

pub text_history : (limits : Limits) (count : ℕ) (events all : List Event) (unfinished : List ℕ) → AreWithin limits greatest → HasText limits count events unfinished → count ≤ limits.bytes → JudgedAll limits events (as_token unfinished) all → IsWellFormed all
text_history limits count events all unfinished within_greatest h few fine =
    let c = h.counted in
    let whole : JudgedAll limits [] (tokens h.text) all =
    subst (λ ts. JudgedAll limits [] ts all) (sym (tokens_cut h.text h.closed unfinished h.cut)) (JudgedAll-append limits [] events all (tokens h.closed) (as_token unfinished) h.fine fine) in
    (read_as limits h.text all within_greatest (omega arith) whole).well_formed
