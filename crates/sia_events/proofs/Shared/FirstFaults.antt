-- Where tokens are judged one after another, the first that is refused is the first faulty one, and its reason is its least.
use Rattle.std.proofs.Common.{◌≡◌, ◌≢◌, ◌⊎◌, inl, inr, ℕ, zero, suc, ◌-◌, ◌<◌, ◌≤◌, Bool, true, false, cond, List, [], ◌∷◌, ◌++◌, map, length, slice_get, Option, Some, None, Result, Err, refl, ap, sym, subst, ◌∙◌, append_assoc, arith}
use Rattle.std.specs.Prelude.{◌==◌}
use Rattle.std.proofs.lemmas.Bool.{cases_lt, eqb-true}
use Rattle.std.proofs.lemmas.Bool.Decides.{nat_tests}
use Rattle.std.proofs.lemmas.List.{length-map}
use Rattle.sia_events.specs.Limits.{Limits}
use Rattle.sia_events.specs.declared.event.Event.{Event}
use Rattle.sia_events.specs.declared.fault.Reason.{Reason}
use Rattle.sia_events.specs.declared.fault.Reason.TheVariants.{TooManyEvents, BadEvent, BadNumber, EmptyRange, BadList}
use Rattle.sia_events.specs.Text.{spell}
use Rattle.sia_events.specs.Refusals.{EventHas, IsEarlier, TokenHas, HasReason, reason_number, AnyForm, IsFirstFault}
use Rattle.sia_events.specs.Parsing.{◌>>=◌, event_at}
use Rattle.sia_events.specs.Known.{fault_of}
use Rattle.sia_events.specs.Judging.{unless, judged, StopsAt}
use Rattle.sia_events.proofs.OfLaws.Unspelling.{spell_injective}
use Rattle.sia_events.proofs.Writing.WellFormed.{IsBefore, moved}
use Rattle.sia_events.proofs.Shared.Refusing.{place_event, fit_has_none}
use Rattle.sia_events.proofs.Shared.EventCases.{token_cases}
use Rattle.sia_events.proofs.Shared.Faults.{IsAmong}
use Rattle.sia_events.proofs.Shared.EventFaults.{fault_least}
use Rattle.sia_events.proofs.Shared.Clean.{IsClean, judged_clean}
use Rattle.std.proofs.lemmas.Option.{slice_get_within, same_Some}
use Rattle.sia_events.proofs.LogRows.RowsRead.{get_front}

-- ---- the reasons of the next token

-- the token after the events has the reason
abbrev pub NextHas : Limits → List Event → List ℕ → Reason → Type 0
NextHas limits es w TooManyEvents = length es ≡ limits.events
NextHas limits es w BadEvent = (e : Event) → w ≢ spell e
NextHas limits es w reason = (e : Event) × (w ≡ spell e) × EventHas (length es) (IsAmong es) e reason

-- it has this one, and none with a lesser number
pub record IsNextFault (limits : Limits) (es : List Event) (w : List ℕ) (r : Reason) : Type 0 where
  pub has : NextHas limits es w r
  pub least : (s : Reason) → NextHas limits es w s → reason_number r ≤ reason_number s

pub above_two : (s : Reason) → 2 ≤ reason_number s
above_two TooManyEvents = omega arith
above_two _ = omega arith

-- of an event that can be spelled the reasons are the event's
of_event : (limits : Limits) (es : List Event) (w : List ℕ) (e : Event) → length es ≢ limits.events → w ≡ spell e → (s : Reason) → NextHas limits es w s → EventHas (length es) (IsAmong es) e s
of_event limits es w e few is TooManyEvents has = absurd (few has)
of_event limits es w e few is BadEvent has = absurd (has e is)
of_event limits es w e few is r has = subst (λ f. EventHas (length es) (IsAmong es) f r) (spell_injective has.0 e (sym has.1 ∙ is)) has.2

to_next : (limits : Limits) (es : List Event) (w : List ℕ) (e : Event) → w ≡ spell e → (s : Reason) → EventHas (length es) (IsAmong es) e s → NextHas limits es w s
to_next limits es w e is s has = grind (arith)

unspelled_least : (limits : Limits) (es : List Event) (w : List ℕ) → length es ≢ limits.events → ((e : Event) → w ≢ spell e) → (s : Reason) → NextHas limits es w s → 3 ≤ reason_number s
unspelled_least limits es w few none TooManyEvents has = absurd (few has)
unspelled_least limits es w few none _ has = omega arith

number_least : (n : ℕ) (es : List Event) (e : Event) → (s : Reason) → EventHas n (IsAmong es) e s → 4 ≤ reason_number s
number_least n es e s has = grind (arith)

guard_err : (b : Bool) (d r : Reason) (rest : Result Event Reason) → cond b (Err d) rest ≡ Err r → ((b ≡ true) × (d ≡ r)) ⊎ ((b ≡ false) × (rest ≡ Err r))
guard_err true d r rest e = inl (refl, (let same : d ≡ r = cc in same))
guard_err false d r rest e = inr (refl, e)

err_is : (d r : Reason) → ◌≡◌ {A = Result Event Reason} (Err d) (Err r) → d ≡ r
err_is d r e = cc

unless_err : (o : Option Reason) (e : Event) (r : Reason) → unless o e ≡ Err r → o ≡ Some r
unless_err None e r p = cc
unless_err (Some s) e r p = ap Some (err_is s r p)

-- a token is refused for its least reason
pub judged_err : (limits : Limits) (es : List Event) (w : List ℕ) (r : Reason) → judged limits es w ≡ Err r → IsNextFault limits es w r
unfolding judged
judged_err limits es w r p = elim (guard_err (length es == limits.events) TooManyEvents r (event_at w >>= λ f. unless (fault_of es (length es) f) f) p) [
  | inl many ↦ subst (IsNextFault limits es w) many.1 (record { has = eqb-true (length es) limits.events many.0; least = λ s has. above_two s })
  | inr g ↦
      let less = g.0 in
      let few : length es ≢ limits.events = λ is. (let all : (length es == limits.events) ≡ true = grind (arith, nat_tests) in let two : true ≡ false = sym all ∙ less in cc) in
      elim (token_cases w) [
        | inl bad ↦ subst (IsNextFault limits es w) (err_is BadEvent r (sym (ap (λ q. q >>= λ f. unless (fault_of es (length es) f) f) bad.0) ∙ g.1)) (record { has = bad.1; least = unspelled_least limits es w few bad.1 })
        | inr (inl t) ↦
            let found : fault_of es (length es) t.0 ≡ Some r = unless_err (fault_of es (length es) t.0) t.0 r (sym (ap (λ q. q >>= λ f. unless (fault_of es (length es) f) f) t.2) ∙ g.1) in
            let l = fault_least es (length es) t.0 r t.3 found in
            record { has = to_next limits es w t.0 t.1 r l.has; least = λ s has. l.least s (of_event limits es w t.0 few t.1 s has) }
        | inr (inr t) ↦ subst (IsNextFault limits es w) (err_is BadNumber r (sym (ap (λ q. q >>= λ f. unless (fault_of es (length es) f) f) t.2) ∙ g.1))
            (record { has = (t.0, t.1, t.3); least = λ s has. number_least (length es) es t.0 s (of_event limits es w t.0 few t.1 s has) })
      ]
]

-- ---- tokens after the events' spellings

get_next : (es : List Event) (w : List ℕ) (us : List (List ℕ)) → slice_get (map spell es ++ w ∷ us) (length es) ≡ Some w
get_next [] w us = refl
get_next (e ∷ es) w us = get_next es w us

-- an event whose spelling stands among these is among the events
get_event : (es : List Event) (us : List (List ℕ)) (j : ℕ) (f : Event) → j < length es → slice_get (map spell es ++ us) j ≡ Some (spell f) → slice_get es j ≡ Some f
get_event [] us j f below is = absurd (omega arith)
get_event (e ∷ es) us zero f below is = ap Some (spell_injective e f (same_Some (spell e) (spell f) is))
get_event (e ∷ es) us (suc j) f below is = get_event es us j f (omega arith) is

get_spelling : (es : List Event) (us : List (List ℕ)) (j : ℕ) (f : Event) → slice_get es j ≡ Some f → slice_get (map spell es ++ us) j ≡ Some (spell f)
get_spelling [] us j f is = cc
get_spelling (e ∷ es) us zero f is = ap Some (ap spell (let same : e ≡ f = cc in same))
get_spelling (e ∷ es) us (suc j) f is = get_spelling es us j f is

earlier_among : (es : List Event) (us : List (List ℕ)) (f : Event) → IsEarlier (map spell es ++ us) (suc (length es)) f → IsAmong es f
earlier_among es us f (zero, below, is) = absurd cc
earlier_among es us f (suc j, below, is) = (j, get_event es us j f (omega arith) is)

among_earlier : (es : List Event) (us : List (List ℕ)) (f : Event) → IsAmong es f → IsEarlier (map spell es ++ us) (suc (length es)) f
among_earlier es us f a = (suc a.0, (let below = slice_get_within es a.0 f a.1 in omega arith), get_spelling es us a.0 f a.1)

earlier_front : (ts us : List (List ℕ)) (i : ℕ) (f : Event) → i ≤ length ts → IsEarlier (ts ++ us) i f → IsEarlier ts i f
earlier_front ts us i f within (zero, below, is) = absurd cc
earlier_front ts us i f within (suc j, below, is) = (suc j, below, sym (get_front ts us j (omega arith)) ∙ is)

front_earlier : (ts us : List (List ℕ)) (i : ℕ) (f : Event) → i ≤ length ts → IsEarlier ts i f → IsEarlier (ts ++ us) i f
front_earlier ts us i f within (zero, below, is) = absurd cc
front_earlier ts us i f within (suc j, below, is) = (suc j, below, get_front ts us j (omega arith) ∙ is)

-- the reasons of the next token's event, by the events or by the tokens before it
earlier_has : (es : List Event) (us : List (List ℕ)) (e : Event) (r : Reason) → EventHas (length es) (IsAmong es) e r → EventHas (suc (length es) - 1) (IsEarlier (map spell es ++ us) (suc (length es))) e r
earlier_has es us e r has =
    let same : length es ≡ suc (length es) - 1 = omega arith in
    subst (λ n. EventHas n (IsEarlier (map spell es ++ us) (suc (length es))) e r) same
    (moved (length es) (IsEarlier (map spell es ++ us) (suc (length es))) (IsAmong es) (among_earlier es us) (earlier_among es us) e r has)

among_has : (es : List Event) (us : List (List ℕ)) (e : Event) (r : Reason) → EventHas (suc (length es) - 1) (IsEarlier (map spell es ++ us) (suc (length es))) e r → EventHas (length es) (IsAmong es) e r
among_has es us e r has =
    let same : suc (length es) - 1 ≡ length es = omega arith in
    moved (length es) (IsAmong es) (IsEarlier (map spell es ++ us) (suc (length es))) (earlier_among es us) (among_earlier es us) e r
    (subst (λ n. EventHas n (IsEarlier (map spell es ++ us) (suc (length es))) e r) same has)

-- the reasons of a token go by what is before it
token_moved : (limits : Limits) (ts us : List (List ℕ)) (i : ℕ) (w : List ℕ) → ((f : Event) → IsEarlier ts i f → IsEarlier us i f) → ((f : Event) → IsEarlier us i f → IsEarlier ts i f) → (r : Reason) → TokenHas limits AnyForm ts i w r → TokenHas limits AnyForm us i w r
token_moved limits ts us i w to from TooManyEvents t = t
token_moved limits ts us i w to from BadEvent t = t
token_moved limits ts us i w to from s t = (t.0, tt, t.2, moved (i - 1) (IsEarlier us i) (IsEarlier ts i) to from t.0 s t.3)

-- a reason of one of the first tokens is one without those after them, and the other way round
pub reason_front : (limits : Limits) (ts us : List (List ℕ)) (i : ℕ) (r : Reason) → i ≤ length ts → HasReason limits (ts ++ us) i r → HasReason limits ts i r
reason_front limits ts us zero r most h = (let is = h.1 in cc)
reason_front limits ts us (suc j) r most h = (
  h.0,
  sym (get_front ts us j (omega arith)) ∙ h.1,
  token_moved limits (ts ++ us) ts (suc j) h.0 (λ f. earlier_front ts us (suc j) f most) (λ f. front_earlier ts us (suc j) f most) r h.2,
)

pub front_reason : (limits : Limits) (ts us : List (List ℕ)) (i : ℕ) (r : Reason) → HasReason limits ts i r → (i ≤ length ts) × HasReason limits (ts ++ us) i r
front_reason limits ts us zero r h = (let is = h.1 in cc)
front_reason limits ts us (suc j) r h =
    let below : j < length ts = slice_get_within ts j h.0 h.1 in
    let most : suc j ≤ length ts = omega arith in
    (most, (h.0, get_front ts us j below ∙ h.1, token_moved limits ts (ts ++ us) (suc j) h.0 (λ f. front_earlier ts us (suc j) f most) (λ f. earlier_front ts us (suc j) f most) r h.2))

-- the first fault stays the first, whatever tokens follow
pub first_fault_kept : (limits : Limits) (ts us : List (List ℕ)) (i : ℕ) (r : Reason) → IsFirstFault limits ts i r → IsFirstFault limits (ts ++ us) i r
first_fault_kept limits ts us i r f =
    let h = front_reason limits ts us i r f.has in
    let within : i ≤ length ts = h.0 in
    record {
      has = h.1;
      first = λ j other given. elim (cases_lt j i) [
        | inl less ↦ f.first j other (reason_front limits ts us j other (omega arith) given)
        | inr more ↦ more
      ];
      least = λ other given. f.least other (reason_front limits ts us i other within given);
    }

-- no token has a reason
abbrev pub NoReason : Limits → List (List ℕ) → Type 0
NoReason limits ts = (i : ℕ) (r : Reason) → ¬ HasReason limits ts i r

-- of clean events no spelling has a reason
pub clean_no_reason : (limits : Limits) (es : List Event) → IsClean limits es → NoReason limits (map spell es)
clean_no_reason limits es clean i r has =
    let within : i ≤ length (map spell es) = (front_reason limits (map spell es) [] i r has).0 in
    let few : length es ≤ limits.events = clean.few in
    let found = place_event limits es i r (λ is. omega (arith, length-map es spell)) has in
    fit_has_none (i - 1) (IsBefore es i) found.0 (clean.each i found.0 found.1) r found.2

-- ---- the next token's fault is the first

to_token : (limits : Limits) (es : List Event) (w : List ℕ) (us : List (List ℕ)) (r : Reason) → NextHas limits es w r → TokenHas limits AnyForm (map spell es ++ w ∷ us) (suc (length es)) w r
to_token limits es w us TooManyEvents has = let is = has in omega arith
to_token limits es w us BadEvent has = λ e form. has e
to_token limits es w us BadNumber has = (has.0, tt, has.1, has.2)
to_token limits es w us EmptyRange has = (has.0, tt, has.1, has.2)
to_token limits es w us BadList has = (has.0, tt, has.1, has.2)
to_token limits es w us s has = (has.0, tt, has.1, earlier_has es (w ∷ us) has.0 s has.2)

from_token : (limits : Limits) (es : List Event) (w : List ℕ) (us : List (List ℕ)) (r : Reason) → TokenHas limits AnyForm (map spell es ++ w ∷ us) (suc (length es)) w r → NextHas limits es w r
from_token limits es w us TooManyEvents t = let is = t in omega arith
from_token limits es w us BadEvent t = λ e. t e tt
from_token limits es w us BadNumber t = (t.0, t.2, t.3)
from_token limits es w us EmptyRange t = (t.0, t.2, t.3)
from_token limits es w us BadList t = (t.0, t.2, t.3)
from_token limits es w us s t = (t.0, t.2, among_has es (w ∷ us) t.0 s t.3)

pub next_first : (limits : Limits) (es : List Event) (w : List ℕ) (us : List (List ℕ)) (r : Reason) → IsClean limits es → IsNextFault limits es w r → IsFirstFault limits (map spell es ++ w ∷ us) (suc (length es)) r
next_first limits es w us r clean f = record {
  has = (w, get_next es w us, to_token limits es w us r f.has);
  first = λ j other given. elim (cases_lt j (suc (length es))) [
    | inl less ↦ absurd (clean_no_reason limits es clean j other (reason_front limits (map spell es) (w ∷ us) j other (omega (arith, length-map es spell)) given))
    | inr more ↦ more
  ];
  least = λ other given.
      let same : given.0 ≡ w = same_Some given.0 w (sym given.1 ∙ get_next es w us) in
      f.least other (from_token limits es w us other (subst (λ v. TokenHas limits AnyForm (map spell es ++ w ∷ us) (suc (length es)) v other) same given.2));
}

-- tokens that are judged up to one that is refused
pub stops_first : (limits : Limits) (es : List Event) (ts : List (List ℕ)) (all : List Event) (r : Reason) → IsClean limits es → StopsAt limits es ts all r → IsFirstFault limits (map spell es ++ ts) (suc (length all)) r
stops_first limits es ts all r clean s =
    let read = judged_clean limits es s.before all clean s.fine in
    let whole : map spell es ++ ts ≡ map spell all ++ s.token ∷ s.after =
    ap (λ (us : List (List ℕ)). map spell es ++ us) s.whole ∙ sym (append_assoc (map spell es) s.before (s.token ∷ s.after)) ∙ ap (λ (us : List (List ℕ)). us ++ s.token ∷ s.after) read.spelled in
    subst (λ us. IsFirstFault limits us (suc (length all)) r) (sym whole) (next_first limits all s.token s.after r read.clean (judged_err limits all s.token r s.refused))
