-- A locator passes the bytes of a piece up to the refused token, and then keeps it.
use Rattle.std.proofs.Common.{◌≡◌, ◌⊎◌, inl, inr, ℕ, ◌+◌, ◌<◌, ◌≤◌, Bool, true, false, List, [], ◌∷◌, ◌++◌, length, take, drop, get_or, refl, ap, sym, subst, ◌∙◌, append_assoc, append-nil, arith}
use Rattle.std.proofs.lemmas.Bool.{cases_lt}
use Rattle.std.proofs.lemmas.List.{length-append, length-take, take_more, take-append-drop, take_all}
use Rattle.std.proofs.Math.Seq.{take-append-add}
use Rattle.sia_events.specs.Text.{is_separator}
use Rattle.sia_events.specs.Locating.{Located, HasEnded, Follows, StopsBehind}
use Rattle.sia_events.proofs.Shared.Following.{ended_more}

-- the token and where it stands are the same, and no byte of it has come
pub record IsKept (old new : Located) : Type 0 where
  pub closed : new.is_open ≡ false
  pub number : new.number ≡ old.number
  pub place : new.place ≡ old.place
  pub token : new.token ≡ old.token

-- what passing a byte tells
pub record PassesByte (l now : Located) (c last : ℕ) : Type 0 where
  pub follows : (text : List ℕ) → length text < 17179869184 → Follows l text → (l.is_open ≡ false → is_separator c ≡ false → l.number < last) → Follows now (text ++ c ∷ [])
  pub within : l.number ≤ last → now.number ≤ last
  pub stopped : l.is_open ≡ false → last ≤ l.number → IsKept l now

-- it has passed the text, or stopped behind the last token that it is to pass
abbrev pub Reaches : Located → List ℕ → ℕ → Type 0
Reaches l text last = (Follows l text × (l.number ≤ last)) ⊎ StopsBehind l text last

-- what passing some bytes of a piece tells
pub record PassesPiece (old now : Located) (piece passed : List ℕ) (last : ℕ) : Type 0 where
  pub goes : (text : List ℕ) → length (text ++ piece) ≤ 17179869184 → Follows old text → old.number ≤ last → 0 < last → Reaches now (text ++ passed) last
  pub stays : old.is_open ≡ false → last ≤ old.number → IsKept old now

pub stops_more : (l now : Located) (text more : List ℕ) (last : ℕ) → IsKept l now → l.number ≡ last → HasEnded l text → StopsBehind now (text ++ more) last
stops_more l now text more last kept is ended = record {
  number_is = kept.number ∙ is;
  closed = kept.closed;
  ended = ended_more l now text more kept.number kept.place kept.token ended;
}

reaches_more : (l now : Located) (text : List ℕ) (c last : ℕ) → PassesByte l now c last → length text < 17179869184 → 0 < last → Reaches l text last → Reaches now (text ++ c ∷ []) last
reaches_more l now text c last p few some (inr s) =
    let is = s.number_is in
    inr (stops_more l now text (c ∷ []) last (p.stopped s.closed (omega arith)) is s.ended)
reaches_more l now text c last p few some (inl (f, most)) = by_tests l.is_open (is_separator c) refl refl
  where
    by_tests : (a b : Bool) → l.is_open ≡ a → is_separator c ≡ b → Reaches now (text ++ c ∷ []) last
    by_tests true b is e = inl (p.follows text few f (λ closed separates. absurd (let wrong : true ≡ false = sym is ∙ closed in cc)), p.within most)
    by_tests false true is e = inl (p.follows text few f (λ closed separates. absurd (let wrong : true ≡ false = sym e ∙ separates in cc)), p.within most)
    by_tests false false is e = elim (cases_lt l.number last) [
      | inl less ↦ inl (p.follows text few f (λ closed separates. less), p.within most)
      | inr more ↦ elim (f.ended is) [
        | inl none ↦ absurd (omega arith)
        | inr h ↦ inr (stops_more l now text (c ∷ []) last (p.stopped is more) (omega arith) h)
      ]
    ]

pub passes_more : (old l now : Located) (piece : List ℕ) (i c last : ℕ) → i < length piece → c ≡ get_or piece i 0 → PassesPiece old l piece (take i piece) last → PassesByte l now c last → PassesPiece old now piece (take (i + 1) piece) last
passes_more old l now piece i c last below is p b =
    let more : take (i + 1) piece ≡ take i piece ++ c ∷ [] = take_more piece i 0 below ∙ ap (λ x. take i piece ++ x ∷ []) (sym is) in
    record {
      goes = λ text short f most some.
          let few : length (text ++ take i piece) < 17179869184 = omega (arith, length-append text piece, length-append text (take i piece), length-take i piece) in
          let next = reaches_more l now (text ++ take i piece) c last b few some (p.goes text short f most some) in
          subst (λ t. Reaches now t last) (append_assoc text (take i piece) (c ∷ []) ∙ ap (λ (t : List ℕ). text ++ t) (sym more)) next;
      stays = grind (arith);
    }

-- what passing the rest of a token tells
pub record PassesRest (l now : Located) (run : List ℕ) : Type 0 where
  pub number : now.number ≡ l.number
  pub closed : l.is_open ≡ false → (now ≡ l) × (length run ≡ 0)
  pub follows : (text : List ℕ) → length text + length run ≤ 17179869184 → Follows l text → Follows now (text ++ run)

none_left : (run : List ℕ) → length run ≡ 0 → run ≡ []
none_left [] is = refl
none_left (c ∷ cs) is = absurd (omega arith)

pub passes_rest : (old l now : Located) (piece : List ℕ) (i n last : ℕ) → i + n ≤ length piece → PassesPiece old l piece (take i piece) last → PassesRest l now (take n (drop i piece)) → PassesPiece old now piece (take (i + n) piece) last
passes_rest old l now piece i n last within p r = record {
  goes = λ text short f most some. subst (λ t. Reaches now t last) (append_assoc text (take i piece) run ∙ ap (λ (t : List ℕ). text ++ t) (sym more)) (elim (p.goes text short f most some) [
    | inl (follows, few) ↦
        inl (r.follows (text ++ take i piece) (let len = ap length more in omega (arith, short, length-append text piece, length-append text (take i piece), length-append (take i piece) run, length-take (i + n) piece)) follows, (let same = r.number in omega arith))
    | inr stops ↦
        let same = r.closed stops.closed in
        inr (subst (λ (t : List ℕ). StopsBehind now t last) (sym (ap (λ (xs : List ℕ). (text ++ take i piece) ++ xs) (none_left run same.1) ∙ append-nil (text ++ take i piece))) (subst (λ (x : Located). StopsBehind x (text ++ take i piece) last) (sym same.0) stops))
  ]);
  stays = λ closed most. let kept = p.stays closed most in subst (IsKept old) (sym (r.closed kept.closed).0) kept;
}
  where
    run : List ℕ
    run = take n (drop i piece)

    more : take (i + n) piece ≡ take i piece ++ run
    more =
        let under : i ≤ length piece = omega arith in
        let front : length (take i piece) ≡ i = omega (arith, length-take i piece) in
        ap (λ k. take (k + n) piece) (sym front) ∙ ap (take (length (take i piece) + n)) (sym (take-append-drop i piece)) ∙ take-append-add (take i piece) (drop i piece) n

pub passes_all : (old now : Located) (piece : List ℕ) (i last : ℕ) → length piece ≤ i → PassesPiece old now piece (take i piece) last → PassesPiece old now piece piece last
passes_all old now piece i last whole p = subst (λ t. PassesPiece old now piece t last) (take_all i piece whole) p
