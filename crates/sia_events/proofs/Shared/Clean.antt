-- The tokens of a text judged one after another: the events that come of them, of which none has a reason.
use Rattle.std.proofs.Common.{◌≡◌, ◌≢◌, inl, inr, ℕ, zero, suc, ◌-◌, ◌≤◌, Bool, true, false, cond, List, [], ◌∷◌, ◌++◌, map, length, Option, Some, None, Result, Ok, Err, refl, ap, sym, subst, ◌∙◌, arith}
use Rattle.std.specs.Prelude.{◌==◌}
use Rattle.std.proofs.lemmas.Bool.Decides.{nat_tests}
use Rattle.std.proofs.lemmas.List.{append-nil, length-append}
use Rattle.sia_events.specs.Limits.{Limits, greatest, AreWithin}
use Rattle.sia_events.specs.declared.event.Event.{Event}
use Rattle.sia_events.specs.declared.fault.Reason.{Reason}
use Rattle.sia_events.specs.declared.fault.Reason.TheVariants.{TooManyEvents, BadEvent, BadNumber}
use Rattle.sia_events.specs.Places.{at_place}
use Rattle.sia_events.specs.Text.{spell, tokens, StandsFor}
use Rattle.sia_events.specs.Refusals.{IsAccepted, IsWellFormed}
use Rattle.sia_events.specs.Parsing.{◌>>=◌, event_at}
use Rattle.sia_events.specs.Known.{fault_of}
use Rattle.sia_events.specs.Judging.{unless, judged, JudgedAll}
use Rattle.sia_events.proofs.Writing.WellFormed.{IsBefore}
use Rattle.sia_events.proofs.Shared.Canonical.{canonical_stands}
use Rattle.sia_events.proofs.OfLaws.Shortest.{canonical_shortest}
use Rattle.sia_events.proofs.Shared.Refusing.{IsFit, accepted_from}
use Rattle.sia_events.proofs.Shared.EventCases.{token_cases}
use Rattle.sia_events.proofs.Shared.Faults.{IsAmong}
use Rattle.sia_events.proofs.Shared.Fits.{fits_from}
use Rattle.std.proofs.lemmas.Option.{slice_get_within}
use Rattle.sia_events.proofs.LogRows.RowsRead.{get_more, push_cases}

-- ---- one more event

-- what stood before place i, within the events, stands there still
before_old : (es : List Event) (e : Event) (i : ℕ) (f : Event) → i ≤ length es → IsBefore (es ++ e ∷ []) i f → IsBefore es i f
before_old es e i f within (zero, below, is) = absurd cc
before_old es e i f within (suc j, below, is) = elim (push_cases es e j f is) [ inl old ↦ (suc j, below, old) | inr new ↦ (let last = new.0 in absurd (omega arith)) ]

before_new : (es : List Event) (e : Event) (i : ℕ) (f : Event) → IsBefore es i f → IsBefore (es ++ e ∷ []) i f
before_new es e i f (zero, below, is) = absurd cc
before_new es e i f (suc j, below, is) = (suc j, below, get_more es (e ∷ []) j f is)

-- what stands before the last place is among the events before
before_last : (es : List Event) (e f : Event) → IsBefore (es ++ e ∷ []) (suc (length es)) f → IsAmong es f
before_last es e f (zero, below, is) = absurd cc
before_last es e f (suc j, below, is) = elim (push_cases es e j f is) [ inl old ↦ (j, old) | inr new ↦ (let last = new.0 in absurd (omega arith)) ]

among_before : (es : List Event) (e f : Event) → IsAmong es f → IsBefore (es ++ e ∷ []) (suc (length es)) f
among_before es e f a = (suc a.0, (let below = slice_get_within es a.0 f a.1 in omega arith), get_more es (e ∷ []) a.0 f a.1)

fit_moved : (n : ℕ) (Earlier Before : Event → Type 0) → ((f : Event) → Before f → Earlier f) → ((f : Event) → Earlier f → Before f) → (e : Event) → IsFit n Earlier e → IsFit n Before e
fit_moved n Earlier Before to from e fit = record {
  in_range = fit.in_range;
  not_committed = λ b. fit.not_committed (to _ b);
  not_aborted = λ b. fit.not_aborted (to _ b);
  begins_first = λ is f b. fit.begins_first is f (to f b);
  not_empty = fit.not_empty;
  list_good = fit.list_good;
  written = λ k v saw other. from _ (fit.written k v saw other);
  start_there = fit.start_there;
}

-- events of which none has a reason, and not too many of them
pub record IsClean (limits : Limits) (es : List Event) : Type 0 where
  pub few : length es ≤ limits.events
  pub each : (i : ℕ) (e : Event) → at_place es i ≡ Some e → IsFit (i - 1) (IsBefore es i) e

pub clean_none : (limits : Limits) → IsClean limits []
clean_none limits = grind (arith)

clean_push : (limits : Limits) (es : List Event) (e : Event) → IsClean limits es → length es ≢ limits.events → IsFit (length es) (IsAmong es) e → IsClean limits (es ++ e ∷ [])
clean_push limits es e clean few fit = record {
  few = let most = clean.few in omega (arith, length-append es (e ∷ []));
  each = each;
}
  where
    each : (i : ℕ) (f : Event) → at_place (es ++ e ∷ []) i ≡ Some f → IsFit (i - 1) (IsBefore (es ++ e ∷ []) i) f
    each zero f is = absurd cc
    each (suc j) f is = elim (push_cases es e j f is) [
      | inl old ↦
          let below = slice_get_within es j f old in
          fit_moved (suc j - 1) (IsBefore es (suc j)) (IsBefore (es ++ e ∷ []) (suc j)) (λ g. before_old es e (suc j) g (omega arith)) (before_new es e (suc j)) f (clean.each (suc j) f old)
      | inr new ↦
          let last : length es ≡ j = sym new.0 in
          let here : IsFit (length es) (IsBefore (es ++ e ∷ []) (suc (length es))) e = fit_moved (length es) (IsAmong es) (IsBefore (es ++ e ∷ []) (suc (length es))) (before_last es e) (among_before es e) e fit in
          let there : IsFit j (IsBefore (es ++ e ∷ []) (suc j)) e = subst (λ n. IsFit n (IsBefore (es ++ e ∷ []) (suc n)) e) last here in
          let same_count : j ≡ suc j - 1 = omega arith in
          subst (λ n. IsFit n (IsBefore (es ++ e ∷ []) (suc j)) f) same_count (subst (λ g. IsFit j (IsBefore (es ++ e ∷ []) (suc j)) g) (sym new.1) there)
    ]

-- ---- one more token

guard : (b : Bool) (r : Reason) (rest : Result Event Reason) (e : Event) → cond b (Err r) rest ≡ Ok e → (b ≡ false) × (rest ≡ Ok e)
guard true r rest e p = absurd cc
guard false r rest e p = (refl, p)

unless_ok : (o : Option Reason) (e f : Event) → unless o e ≡ Ok f → (o ≡ None) × (e ≡ f)
unless_ok None e f p = (refl, (let same : e ≡ f = cc in same))
unless_ok (Some r) e f p = absurd cc

pub record IsTaken (limits : Limits) (es : List Event) (w : List ℕ) (e : Event) : Type 0 where
  pub few : length es ≢ limits.events
  pub spelled : w ≡ spell e
  pub fit : IsFit (length es) (IsAmong es) e

pub judged_ok : (limits : Limits) (es : List Event) (w : List ℕ) (e : Event) → judged limits es w ≡ Ok e → IsTaken limits es w e
unfolding judged
judged_ok limits es w e p =
    let g = guard (length es == limits.events) TooManyEvents (event_at w >>= λ f. unless (fault_of es (length es) f) f) e p in
    let less = g.0 in
    let few : length es ≢ limits.events = λ is. (let yes : (length es == limits.events) ≡ true = grind (arith, nat_tests) in let two : true ≡ false = sym yes ∙ less in cc) in
    elim (token_cases w) [
      | inl bad ↦ (let two : ◌≡◌ {A = Result Event Reason} (Err BadEvent) (Ok e) = sym (ap (λ r. r >>= λ f. unless (fault_of es (length es) f) f) bad.0) ∙ g.1 in absurd cc)
      | inr (inl t) ↦
          let u = unless_ok (fault_of es (length es) t.0) t.0 e (sym (ap (λ r. r >>= λ f. unless (fault_of es (length es) f) f) t.2) ∙ g.1) in
          record {
            few = few;
            spelled = t.1 ∙ ap spell u.1;
            fit = subst (λ f. IsFit (length es) (IsAmong es) f) u.1 (fits_from es (length es) t.0 t.3 u.0);
          }
      | inr (inr t) ↦ (let two : ◌≡◌ {A = Result Event Reason} (Err BadNumber) (Ok e) = sym (ap (λ r. r >>= λ f. unless (fault_of es (length es) f) f) t.2) ∙ g.1 in absurd cc)
    ]

-- ---- all tokens

pub record IsReadClean (limits : Limits) (es : List Event) (ts : List (List ℕ)) (all : List Event) : Type 0 where
  pub spelled : map spell es ++ ts ≡ map spell all
  pub clean : IsClean limits all

map_push : (es : List Event) (e : Event) (ts : List (List ℕ)) → map spell (es ++ e ∷ []) ++ ts ≡ map spell es ++ spell e ∷ ts
map_push [] e ts = refl
map_push (f ∷ es) e ts = ap (λ (us : List (List ℕ)). spell f ∷ us) (map_push es e ts)

pub judged_clean : (limits : Limits) (es : List Event) (ts : List (List ℕ)) (all : List Event) → IsClean limits es → JudgedAll limits es ts all → IsReadClean limits es ts all
unfolding JudgedAll
judged_clean limits es [] all clean j = record { spelled = append-nil (map spell es) ∙ ap (map spell) j; clean = subst (IsClean limits) j clean }
judged_clean limits es (w ∷ ts) all clean j =
    let t = judged_ok limits es w j.0 j.1 in
    let rest = judged_clean limits (es ++ j.0 ∷ []) ts all (clean_push limits es j.0 clean t.few t.fit) j.2 in
    record {
      spelled = ap (λ (v : List ℕ). map spell es ++ v ∷ ts) t.spelled ∙ sym (map_push es j.0 ts) ∙ rest.spelled;
      clean = rest.clean;
    }

-- ---- a text whose tokens are all judged to events

pub clean_accepted : (limits : Limits) (text : List ℕ) (h : List Event) → length text ≤ limits.bytes → StandsFor text h → IsClean limits h → IsAccepted limits text
clean_accepted limits text h short stands clean = accepted_from limits text h stands clean.few short clean.each

pub clean_well_formed : (limits : Limits) (text : List ℕ) (h : List Event) → AreWithin limits greatest → length text ≤ limits.bytes → StandsFor text h → IsClean limits h → IsWellFormed h
clean_well_formed limits text h within short stands clean = grind (arith, canonical_shortest, accepted_from, canonical_stands)

-- the text is accepted and stands for a well-formed history
pub record IsReadAs (limits : Limits) (text : List ℕ) (h : List Event) : Type 0 where
  pub well_formed : IsWellFormed h
  pub accepted : IsAccepted limits text
  pub stands : StandsFor text h

pub read_as : (limits : Limits) (text : List ℕ) (h : List Event) → AreWithin limits greatest → length text ≤ limits.bytes → JudgedAll limits [] (tokens text) h → IsReadAs limits text h
read_as limits text h within short j =
    let r = judged_clean limits [] (tokens text) h (clean_none limits) j in
    record {
      well_formed = clean_well_formed limits text h within short r.spelled r.clean;
      accepted = clean_accepted limits text h short r.spelled r.clean;
      stands = r.spelled;
    }
