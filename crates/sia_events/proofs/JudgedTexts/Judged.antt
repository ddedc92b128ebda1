-- Tokens judged one after another.
use Rattle.std.proofs.Common.{◌≡◌, ℕ, ◌-◌, List, [], ◌∷◌, ◌++◌, length, take, drop, Err, refl, ap, sym, subst, ◌∙◌, append_assoc}
use Rattle.std.proofs.lemmas.List.{length-drop}
use Rattle.std.proofs.Math.Seq.{take-length}
use Rattle.sia_events.specs.Limits.{Limits}
use Rattle.sia_events.specs.declared.event.Event.{Event}
use Rattle.sia_events.specs.declared.fault.Reason.{Reason}
use Rattle.sia_events.specs.Judging.{judged, JudgedAll, StopsAt}

pub to_end : (k : ℕ) (xs : List ℕ) → take (length xs - k) (drop k xs) ≡ drop k xs
to_end k xs = ap (λ n. take n (drop k xs)) (sym (length-drop k xs)) ∙ take-length (drop k xs)

pub JudgedAll-append : (limits : Limits) (events middle all : List Event) (ts us : List (List ℕ)) → JudgedAll limits events ts middle → JudgedAll limits middle us all → JudgedAll limits events (ts ++ us) all
unfolding JudgedAll
JudgedAll-append limits events middle all [] us a b = subst (λ (es : List Event). JudgedAll limits es us all) (sym a) b
JudgedAll-append limits events middle all (t ∷ ts) us a b = (a.0, a.1, JudgedAll-append limits (events ++ a.0 ∷ []) middle all ts us a.2 b)

pub JudgedAll-none : (limits : Limits) (events : List Event) → JudgedAll limits events [] events
unfolding JudgedAll
JudgedAll-none limits events = refl

-- tokens that are judged before those that stop
pub StopsAt-after : (limits : Limits) (events middle all : List Event) (ts us : List (List ℕ)) (r : Reason) → JudgedAll limits events ts middle → StopsAt limits middle us all r → StopsAt limits events (ts ++ us) all r
StopsAt-after limits events middle all ts us r fine s = record {
  before = ts ++ s.before;
  token = s.token;
  after = s.after;
  whole = ap (λ (vs : List (List ℕ)). ts ++ vs) s.whole ∙ sym (append_assoc ts s.before (s.token ∷ s.after));
  fine = JudgedAll-append limits events middle all ts s.before fine s.fine;
  refused = s.refused;
}

-- tokens after those that stop
pub StopsAt-more : (limits : Limits) (events all : List Event) (ts us : List (List ℕ)) (r : Reason) → StopsAt limits events ts all r → StopsAt limits events (ts ++ us) all r
StopsAt-more limits events all ts us r s = record {
  before = s.before;
  token = s.token;
  after = s.after ++ us;
  whole = ap (λ (vs : List (List ℕ)). vs ++ us) s.whole ∙ append_assoc s.before (s.token ∷ s.after) us;
  fine = s.fine;
  refused = s.refused;
}

-- a token that is refused
pub StopsAt-first : (limits : Limits) (events all : List Event) (token : List ℕ) (r : Reason) → all ≡ events → judged limits events token ≡ Err r → StopsAt limits events (token ∷ []) all r
StopsAt-first limits events all token r same refused = record {
  before = [];
  token = token;
  after = [];
  whole = refl;
  fine = subst (λ (es : List Event). JudgedAll limits events [] es) (sym same) (JudgedAll-none limits events);
  refused = subst (λ (es : List Event). judged limits es token ≡ Err r) (sym same) refused;
}
