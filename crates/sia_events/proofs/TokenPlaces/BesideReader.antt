-- A locator beside a reader: it stops at the token that the reader refuses, and else has passed the whole text.
use Rattle.std.proofs.Common.{◌≡◌, inl, inr, ℕ, ◌+◌, ◌<◌, ◌≤◌, Bool, true, false, List, [], ◌∷◌, ◌++◌, map, length, take, Option, Some, None, refl, ap, sym, subst, ◌∙◌, append-nil, arith}
use Rattle.std.specs.Prelude.{MatchOption, flat_map}
use Rattle.std.specs.Option.{option_map, unwrap_or}
use Rattle.std.proofs.lemmas.Bool.{cases_lt}
use Rattle.std.proofs.lemmas.List.{length-append}
use Rattle.std.proofs.lemmas.List.Elements.{recursion_from_All}
use Rattle.sia_events.specs.Limits.{Limits, greatest, AreWithin}
use Rattle.sia_events.specs.declared.fault.Reason.{Reason}
use Rattle.sia_events.specs.declared.fault.TextFault.TheVariants.{Refused}
use Rattle.sia_events.specs.Text.{spell, is_separator, tokens}
use Rattle.sia_events.specs.Refusals.{HasReason, IsFirstFault, IsRefusal, AnyForm}
use Rattle.sia_events.specs.Streaming.{Progress, IsCutAtLastSeparator, StandsForRead}
use Rattle.sia_events.specs.Judging.{as_token}
use Rattle.sia_events.specs.Locations.{IsTokenAt, IsLocated, shown_byte, shown}
use Rattle.sia_events.specs.Locating.{Located, HasToken, Follows, StopsBehind, StandsForLocated}
use Rattle.sia_events.proofs.Shared.Canonical.{HasNoSeparator}
use Rattle.sia_events.proofs.JudgedTexts.Tokens.{tokens-append}
use Rattle.sia_events.proofs.Shared.Cuts.{some_cut, cut_then, tokens_cut}
use Rattle.sia_events.proofs.Shared.FirstFaults.{NoReason, reason_front, front_reason, first_fault_kept}
use Rattle.sia_events.proofs.OfLaws.OneRefusal.{one_fault}
use Rattle.sia_events.proofs.Writing.WellFormed.{few_fine}
use Rattle.sia_events.proofs.TokenPlaces.Locations.{one_cut}
use Rattle.sia_events.proofs.Shared.Following.{take_again}
use Rattle.sia_events.proofs.TokenPlaces.Stopping.{PassesPiece, stops_more}

cut_unbroken : (text closed rest : List ℕ) → IsCutAtLastSeparator text closed rest → HasNoSeparator rest
cut_unbroken text closed rest cut = recursion_from_All (λ c. is_separator c ≡ false) rest cut.rest_goes_on

at_most_one : (w : List ℕ) → length (as_token w) ≤ 1
at_most_one w = grind (arith)

-- a text of which no token is refused has few tokens
few_judged : (limits : Limits) → AreWithin limits greatest → (text closed rest : List ℕ) → IsCutAtLastSeparator text closed rest → NoReason limits (tokens closed) → length (tokens text) ≤ 500000001
few_judged limits within text closed rest cut none =
    let most : limits.events ≤ 500000000 = within.events in
    let few = few_fine limits (tokens closed) none in
    let split = ap length (tokens_cut text closed rest cut) in
    let one = at_most_one rest in
    omega (arith, length-append (tokens closed) (as_token rest))

-- ---- the tokens that a piece closes

module _ (limits : Limits) (text piece closed rest further left : List ℕ) (old : IsCutAtLastSeparator text closed rest) (new : IsCutAtLastSeparator (text ++ piece) further left) where
  -- they come after those before
  closed_more : (more : List (List ℕ)) × (tokens further ≡ tokens closed ++ more)
  closed_more =
      let h = some_cut (rest ++ piece) in
      let cut = cut_then text closed rest piece h.0 h.1 old h.2 in
      let same : further ≡ closed ++ h.0 =
      one_cut further left (closed ++ h.0) h.1 (sym new.whole ∙ cut.whole) new.closed_ends cut.closed_ends (cut_unbroken (text ++ piece) further left new) (cut_unbroken (text ++ piece) (closed ++ h.0) h.1 cut) in
      (tokens h.0, ap tokens same ∙ tokens-append closed h.0 old.closed_ends)

  -- the first fault stays what it was
  pub fault_kept : (n : ℕ) (r : Reason) → IsFirstFault limits (tokens closed) n r → IsFirstFault limits (tokens further) n r
  fault_kept n r f = let m = closed_more in subst (λ ts. IsFirstFault limits ts n r) (sym m.1) (first_fault_kept limits (tokens closed) m.0 n r f)

  -- a new one is none of the tokens that were closed before
  pub fault_later : (n : ℕ) (r : Reason) → NoReason limits (tokens closed) → IsFirstFault limits (tokens further) n r → (length (tokens text) ≤ n) × (0 < n) × (n ≤ length (tokens further))
  fault_later n r none f =
      let m = closed_more in
      let within : n ≤ length (tokens further) = (front_reason limits (tokens further) [] n r f.has).0 in
      let later : length (tokens closed) < n = elim (cases_lt (length (tokens closed)) n) [
        | inl less ↦ less
        | inr most ↦ absurd (none n r (reason_front limits (tokens closed) m.0 n r most (subst (λ ts. HasReason limits ts n r) m.1 f.has)))
      ] in
      let split = ap length (tokens_cut text closed rest old) in
      let one = at_most_one rest in
      (omega (arith, length-append (tokens closed) (as_token rest)), omega arith, within)

-- ---- one more piece

module _ (text piece : List ℕ) (last : ℕ) (old new : Located) (p : PassesPiece old new piece piece last) (short : length (text ++ piece) ≤ 17179869184) where
  few_stopped : StopsBehind new (text ++ piece) last → last ≤ length (tokens (text ++ piece)) + 1
  few_stopped s = grind (arith, tokens-append, length-append)

  fed_none : last ≡ 4294967295 → length (tokens text) ≤ 500000001 → length (tokens (text ++ piece)) ≤ 500000001 → Follows old text → Follows new (text ++ piece)
  fed_none is few few_after f = grind (arith, few_stopped)

  fed_kept : (n : ℕ) → last ≡ n → StopsBehind old text n → StopsBehind new (text ++ piece) n
  fed_kept n is s = grind (arith, stops_more old new text piece n (p.stays s.closed (omega arith)) s.number_is s.ended)

  -- the last token that is closed is the refused one, where none began after it
  stops_there : (n : ℕ) (closed rest : List ℕ) → IsCutAtLastSeparator (text ++ piece) closed rest → 0 < n → n ≤ length (tokens closed) → Follows new (text ++ piece) → new.number ≤ n → StopsBehind new (text ++ piece) n
  stops_there n closed rest cut some within f most = by_open new.is_open refl
    where
      by_open : (b : Bool) → new.is_open ≡ b → StopsBehind new (text ++ piece) n
      by_open true is =
          let h = f.unfinished is in
          let whole : text ++ piece ≡ h.at.front ++ h.token = h.at.whole ∙ ap (λ (r : List ℕ). h.at.front ++ (h.token ++ r)) h.left ∙ ap (λ (t : List ℕ). h.at.front ++ t) (append-nil h.token) in
          let same : closed ≡ h.at.front = one_cut closed rest h.at.front h.token (sym cut.whole ∙ whole) cut.closed_ends h.at.front_ends (cut_unbroken (text ++ piece) closed rest cut) (recursion_from_All (λ c. is_separator c ≡ false) h.token h.at.unbroken) in
          let number = h.at.number_is in
          let count = ap (λ t. length (tokens t)) same in
          absurd (omega arith)
      by_open false is =
          let number = f.number_is in
          let split = ap length (tokens_cut (text ++ piece) closed rest cut) in
          let exact : new.number ≡ n = omega (arith, length-append (tokens closed) (as_token rest)) in
          record {
            number_is = exact;
            closed = is;
            ended = elim (f.ended is) [ inl none ↦ absurd (omega arith) | inr h ↦ h ];
          }

  fed_refused : (n : ℕ) (closed rest : List ℕ) → last ≡ n → IsCutAtLastSeparator (text ++ piece) closed rest → length (tokens text) ≤ n → 0 < n → n ≤ length (tokens closed) → Follows old text → StopsBehind new (text ++ piece) n
  fed_refused n closed rest is cut later some within f =
      let number = f.number_is in
      elim (p.goes text short f (omega arith) (omega arith)) [
        | inl h ↦ stops_there n closed rest cut some within h.0 (let most = h.1 in omega arith)
        | inr s ↦ subst (StopsBehind new (text ++ piece)) is s
      ]

  pub stands_fed : (limits : Limits) → length (text ++ piece) ≤ limits.bytes → (before after : Progress) (refused : Option ℕ) → last ≡ unwrap_or refused 4294967295 → StandsForRead limits before text → StandsForRead limits after (text ++ piece) → option_map (λ fault. fault.0) after.fault ≡ refused → StandsForLocated limits old before text
      → MatchOption after.fault (Follows new (text ++ piece)) (λ fault. StopsBehind new (text ++ piece) fault.0)
  stands_fed limits below before after refused counts a b is stands =
      let was : length text ≤ limits.bytes = omega (arith, length-append text piece) in
      let j = a.judged was in
      let k = b.judged below in
      by_faults j.0 j.1 k.0 k.1 j.2 k.2 before.fault after.fault j.3 k.3 (ap (λ o. unwrap_or o 4294967295) is ∙ sym counts) (stands was)
    where
      by_faults : (closed rest further left : List ℕ) → IsCutAtLastSeparator text closed rest → IsCutAtLastSeparator (text ++ piece) further left → (f g : Option (ℕ × Reason))
          → MatchOption f (NoReason limits (tokens closed) × (tokens closed ≡ map spell before.events)) (λ fault. IsFirstFault limits (tokens closed) fault.0 fault.1)
          → MatchOption g (NoReason limits (tokens further) × (tokens further ≡ map spell after.events)) (λ fault. IsFirstFault limits (tokens further) fault.0 fault.1)
          → unwrap_or (option_map (λ fault. fault.0) g) 4294967295 ≡ last
          → MatchOption f (Follows old text) (λ fault. StopsBehind old text fault.0)
          → MatchOption g (Follows new (text ++ piece)) (λ fault. StopsBehind new (text ++ piece) fault.0)
      by_faults closed rest further left cut more None None h m is s = fed_none (sym is) (few_judged limits a.within text closed rest cut h.0) (few_judged limits a.within (text ++ piece) further left more m.0) s
      by_faults closed rest further left cut more None (Some g) h m is s =
          let later = fault_later limits text piece closed rest further left cut more g.0 g.1 h.0 m in
          fed_refused g.0 further left (sym is) more later.0 later.1 later.2 s
      by_faults closed rest further left cut more (Some f) None h m is s =
          let kept = fault_kept limits text piece closed rest further left cut more f.0 f.1 h in
          absurd (m.0 f.0 f.1 kept.has)
      by_faults closed rest further left cut more (Some f) (Some g) h m is s =
          let kept = fault_kept limits text piece closed rest further left cut more f.0 f.1 h in
          let same : f.0 ≡ g.0 = (one_fault limits AnyForm (tokens further) f.0 g.0 f.1 g.1 kept m).0 in
          fed_kept g.0 (sym is) (subst (StopsBehind old text) same s)

-- ---- the end

located_token : (l : Located) (text rest : List ℕ) (n : ℕ) → l.number ≡ n → HasToken l text rest → IsLocated text n l.place.line l.place.column l.token
located_token l text rest n is h = (h.token, subst (λ m. IsTokenAt text m l.place.line l.place.column h.token) is h.at, h.kept)

-- a refusal's token is where the locator says
pub refused_located : (limits : Limits) (l : Located) (r : Progress) (text : List ℕ) (n : ℕ) (reason : Reason) → StandsForRead limits r text → StandsForLocated limits l r text → IsRefusal limits text (Refused n reason) → IsLocated text n l.place.line l.place.column l.token
refused_located limits l r text n reason reads stands refusal =
    let j = reads.judged refusal.0 in
    by_fault j.0 j.1 j.2 r.fault j.3 (stands refusal.0)
  where
    last_token : (closed rest : List ℕ) → IsCutAtLastSeparator text closed rest → NoReason limits (tokens closed) → (0 < n) × (n ≡ length (tokens text))
    last_token closed rest cut none =
        let within : n ≤ length (tokens text) = (front_reason limits (tokens text) [] n reason refusal.1.has).0 in
        let later : length (tokens closed) < n = elim (cases_lt (length (tokens closed)) n) [
          | inl less ↦ less
          | inr most ↦ absurd (none n reason (reason_front limits (tokens closed) (as_token rest) n reason most (subst (λ ts. HasReason limits ts n reason) (tokens_cut text closed rest cut) refusal.1.has)))
        ] in
        let split = ap length (tokens_cut text closed rest cut) in
        let one = at_most_one rest in
        (omega arith, omega (arith, length-append (tokens closed) (as_token rest)))

    followed : Follows l text → l.number ≡ n → 0 < n → IsLocated text n l.place.line l.place.column l.token
    followed f is some = by_open l.is_open refl
      where
        by_open : (b : Bool) → l.is_open ≡ b → IsLocated text n l.place.line l.place.column l.token
        by_open true p = located_token l text [] n is (f.unfinished p)
        by_open false p = elim (f.ended p) [
          | inl none ↦ absurd (omega arith)
          | inr h ↦ located_token l text (h.0 ∷ h.1) n is h.2
        ]

    by_fault : (closed rest : List ℕ) → IsCutAtLastSeparator text closed rest → (f : Option (ℕ × Reason))
        → MatchOption f (NoReason limits (tokens closed) × (tokens closed ≡ map spell r.events)) (λ fault. IsFirstFault limits (tokens closed) fault.0 fault.1)
        → MatchOption f (Follows l text) (λ fault. StopsBehind l text fault.0)
        → IsLocated text n l.place.line l.place.column l.token
    by_fault closed rest cut None h s =
        let last = last_token closed rest cut h.0 in
        let some : 0 < n = last.0 in
        followed s (s.number_is ∙ sym last.1) some
    by_fault closed rest cut (Some f) h s =
        let kept : IsFirstFault limits (tokens text) f.0 f.1 = subst (λ ts. IsFirstFault limits ts f.0 f.1) (sym (tokens_cut text closed rest cut)) (first_fault_kept limits (tokens closed) (as_token rest) f.0 f.1 h) in
        let same : f.0 ≡ n = (one_fault limits AnyForm (tokens text) f.0 n f.1 reason kept refusal.1).0 in
        located_token l text (s.ended.0 ∷ s.ended.1) n (s.number_is ∙ same) s.ended.2

-- what is shown of the bytes that are kept is what is shown of the token
pub shown_kept : (token kept : List ℕ) → kept ≡ take 60 token → shown kept ≡ shown token
shown_kept token kept is = ap (λ (t : List ℕ). flat_map shown_byte t) (ap (take 60) is ∙ take_again 60 token)
