-- What becomes of a token: it has no form, or it spells an event, whose numbers are in their ranges or not.
use Rattle.std.proofs.Common.{◌≡◌, ◌≢◌, ◌⊎◌, inl, inr, ℕ, ◌<◌, ◌^◌, true, false, List, [], ◌∷◌, ◌++◌, Some, None, Result, Ok, Err, refl, ap, sym, ◌∙◌, arith, nat_lt}
use Rattle.std.specs.Prelude.{◌==◌, All}
use Rattle.std.specs.List.{AllByRecursion}
use Rattle.std.proofs.lemmas.Bool.{eqb-true, cases_lt, cases_Bool}
use Rattle.std.proofs.lemmas.Bool.Decides.{nat_tests}
use Rattle.std.proofs.lemmas.List.Elements.{All-from_recursion, recursion_from_All}
use Rattle.sia_events.specs.Text.{numeral, spell}
use Rattle.sia_events.specs.declared.event.Event.{Event}
use Rattle.sia_events.specs.declared.event.Event.TheVariants.{Begin, Read, Range, Write, Commit, Abort}
use Rattle.sia_events.specs.declared.fault.Reason.{Reason}
use Rattle.sia_events.specs.declared.fault.Reason.TheVariants.{BadEvent, BadNumber}
use Rattle.sia_events.specs.Refusals.{IsTxn, IsKey, IsVersion, IsStart, IsInRange}
use Rattle.sia_events.specs.Parsing.{◌>>=◌, begin_at, read_at, write_at, commit_at, abort_at, narrow, key_of, version_of, txn_of, list_of, event_at}
use Rattle.sia_events.proofs.Shared.Spelling.{event_text, regrouped}
use Rattle.sia_events.proofs.TokensRead.Digits.{narrow_small, narrow_great}
use Rattle.sia_events.proofs.Shared.EventLaws.{Lacks, number_then, also, narrow_pair, narrow_list, begin_sound, read_sound, write_sound, commit_sound, abort_sound}
use Rattle.sia_events.proofs.Shared.EventAgain.{in_ranges, event_again}

-- ---- a token that is read has the text of an event

abbrev HasText : List ℕ → Type 0
HasText w = Lacks (event_at w) ⊎ ((e : Event) × (w ≡ event_text e))

event_found : (w : List ℕ) → HasText w
unfolding event_at
event_found [] = inl refl
event_found (letter ∷ bytes) = number_then bytes _ (λ n rest h. elim (cases_Bool (letter == 98)) [
  | inl e ↦ rw e (also (begin_at (narrow n) rest) (begin_sound (narrow n) rest) (λ s. (Begin n s.0, spelled 98 n rest _ h e s.1)))
  | inr p ↦ elim (cases_Bool (letter == 114)) [
    | inl e ↦ rw (p, e) (also (read_at (narrow n) rest) (read_sound (narrow n) rest) (λ s. elim s [
      | inl i ↦ (Read n i.0 i.1, spelled 114 n rest _ h e i.2)
      | inr i ↦ (Range n i.0 i.1 i.2, spelled 114 n rest _ h e i.3)
    ]))
    | inr q ↦ elim (cases_Bool (letter == 119)) [
      | inl e ↦ rw (p, q, e) (also (write_at (narrow n) rest) (write_sound (narrow n) rest) (λ w. (Write n w.0, spelled 119 n rest _ h e w.1)))
      | inr r ↦ elim (cases_Bool (letter == 99)) [
        | inl e ↦ rw (p, q, r, e) (also (commit_at (narrow n) rest) (commit_sound (narrow n) rest) (λ end. (Commit n, spelled 99 n rest [] h e end)))
        | inr s ↦ elim (cases_Bool (letter == 97)) [
          | inl e ↦ rw (p, q, r, s, e) (also (abort_at (narrow n) rest) (abort_sound (narrow n) rest) (λ end. (Abort n, spelled 97 n rest [] h e end)))
          | inr u ↦ inl (rw (p, q, r, s, u) refl)
        ]
      ]
    ]
  ]
])
  where
    spelled : (l : ℕ) (n : ℕ) (rest more : List ℕ) → bytes ≡ numeral n ++ rest → (letter == l) ≡ true → rest ≡ more → letter ∷ bytes ≡ l ∷ (numeral n ++ more)
    spelled l n rest more h p e = let same : letter ≡ l = eqb-true letter l p in (λ i. same i ∷ (h ∙ ap (λ (xs : List ℕ). numeral n ++ xs) e) i)

-- ---- numbers in their ranges, or not

key_cases : (k : ℕ) → ((key_of (narrow k) ≡ Ok k) × IsKey k) ⊎ ((key_of (narrow k) ≡ Err BadNumber) × ¬ IsKey k)
unfolding key_of
key_cases k = elim (cases_lt k (2 ^ 64)) [
  | inl less ↦ inl (rw (narrow_small k less) refl, less)
  | inr more ↦ inr (rw (narrow_great k more) refl, λ less. omega arith)
]

version_cases : (v : ℕ) → ((version_of (narrow v) ≡ Ok v) × IsVersion v) ⊎ ((version_of (narrow v) ≡ Err BadNumber) × ¬ IsVersion v)
unfolding version_of
version_cases v = elim (cases_lt v (2 ^ 64)) [
  | inl less ↦ elim (cases_lt v (2 ^ 32)) [
    | inl small ↦ let e : nat_lt v (2 ^ 32) ≡ true = grind (arith, nat_tests) in inl (rw (narrow_small v less, e) refl, small)
    | inr great ↦ let e : nat_lt v (2 ^ 32) ≡ false = grind (arith, nat_tests) in inr (rw (narrow_small v less, e) refl, λ small. omega arith)
  ]
  | inr more ↦ inr (rw (narrow_great v more) refl, λ less. omega arith)
]

txn_cases : (t : ℕ) → ((txn_of (narrow t) ≡ Ok t) × IsTxn t) ⊎ ((txn_of (narrow t) ≡ Err BadNumber) × ¬ IsTxn t)
unfolding txn_of
txn_cases t = elim (version_cases t) [
  | inl v ↦ elim (cases_lt 0 t) [
    | inl some ↦ let e : (t == 0) ≡ false = grind (arith, nat_tests) in inl (rw (v.0, e) refl, (some, v.1))
    | inr none ↦ let e : (t == 0) ≡ true = grind (arith, nat_tests) in inr (rw (v.0, e) refl, λ is. (let positive : 0 < t = is.0 in omega arith))
  ]
  | inr v ↦ inr (rw v.0 refl, λ is. v.1 is.1)
]

abbrev ArePairs : List (ℕ × ℕ) → Type 0
ArePairs ps = AllByRecursion (λ p. IsKey p.0 × IsVersion p.1) ps

pair_cases : (p : ℕ × ℕ) → ((narrow_pair p ≡ Some p) × IsKey p.0 × IsVersion p.1) ⊎ ((narrow_pair p ≡ None) × ¬ (IsKey p.0 × IsVersion p.1))
pair_cases p = elim (cases_lt p.0 (2 ^ 64)) [
  | inl key ↦ elim (cases_lt p.1 (2 ^ 64)) [
    | inl less ↦ elim (cases_lt p.1 (2 ^ 32)) [
      | inl small ↦ let e : nat_lt p.1 (2 ^ 32) ≡ true = grind (arith, nat_tests) in inl (rw (narrow_small p.0 key, narrow_small p.1 less, e) refl, key, small)
      | inr great ↦ let e : nat_lt p.1 (2 ^ 32) ≡ false = grind (arith, nat_tests) in inr (rw (narrow_small p.0 key, narrow_small p.1 less, e) refl, λ is. (let small : p.1 < 2 ^ 32 = is.1 in omega arith))
    ]
    | inr more ↦ inr (rw (narrow_small p.0 key, narrow_great p.1 more) refl, λ is. (let small : p.1 < 2 ^ 32 = is.1 in omega arith))
  ]
  | inr more ↦ inr (rw (narrow_great p.0 more) refl, λ is. (let small : p.0 < 2 ^ 64 = is.0 in omega arith))
]

list_cases : (ps : List (ℕ × ℕ)) → ((narrow_list ps ≡ Some ps) × ArePairs ps) ⊎ ((narrow_list ps ≡ None) × ¬ ArePairs ps)
list_cases [] = inl (refl, tt)
list_cases (p ∷ ps) = elim (pair_cases p) [
  | inl a ↦ elim (list_cases ps) [
    | inl b ↦ inl (rw (a.0, b.0) refl, ((a.1, a.2), b.1))
    | inr b ↦ inr (rw (a.0, b.0) refl, λ is. b.1 is.1)
  ]
  | inr a ↦ inr (rw a.0 refl, λ is. a.1 is.0)
]

-- the event's numbers are in their ranges and it is kept, or they aren't and it isn't
abbrev HasRanges : Event → Type 0
HasRanges e = ((in_ranges e ≡ Ok e) × IsInRange e) ⊎ ((in_ranges e ≡ Err BadNumber) × ¬ IsInRange e)

start_cases : (n : ℕ) → ((version_of (narrow n) ≡ Ok n) × IsStart (Some n)) ⊎ ((version_of (narrow n) ≡ Err BadNumber) × ¬ IsStart (Some n))
start_cases n = version_cases n

-- a number that is kept if it is in its range, and what is read after it
checked : {A B P Q : Type 0} (r : Result A Reason) (f : A → Result B Reason) (a : A) (b : B) → ((r ≡ Ok a) × P) ⊎ ((r ≡ Err BadNumber) × ¬ P) → (P → ((f a ≡ Ok b) × Q) ⊎ ((f a ≡ Err BadNumber) × ¬ Q)) → (Q → P) → ((r >>= f ≡ Ok b) × Q) ⊎ ((r >>= f ≡ Err BadNumber) × ¬ Q)
checked r f a b (inl c) next part = elim (next c.1) [ inl g ↦ inl (rw c.0 g.0, g.1) | inr g ↦ inr (rw c.0 g.0, g.1) ]
checked r f a b (inr c) next part = inr (rw c.0 refl, λ q. c.1 (part q))

listed_cases : (ps : List (ℕ × ℕ)) → ((list_of (narrow_list ps) ≡ Ok ps) × All (λ p. IsKey p.0 × IsVersion p.1) ps) ⊎ ((list_of (narrow_list ps) ≡ Err BadNumber) × ¬ All (λ p. IsKey p.0 × IsVersion p.1) ps)
unfolding list_of
listed_cases ps = elim (list_cases ps) [
  | inl l ↦ inl (rw l.0 refl, All-from_recursion (λ p. IsKey p.0 × IsVersion p.1) ps l.1)
  | inr l ↦ inr (rw l.0 refl, λ is. l.1 (recursion_from_All (λ p. IsKey p.0 × IsVersion p.1) ps is))
]

pub ranges_cases : (e : Event) → HasRanges e
ranges_cases (Begin t None) = checked (txn_of (narrow t)) _ t _ (txn_cases t) (λ a. inl (refl, (a, tt))) (λ is. is.0)
ranges_cases (Begin t (Some n)) =
    checked (txn_of (narrow t)) _ t _ (txn_cases t) (λ a.
    checked (version_of (narrow n)) _ n _ (start_cases n) (λ b. inl (refl, (a, b))) (λ is. is.1)) (λ is. is.0)
ranges_cases (Read t k v) =
    checked (txn_of (narrow t)) _ t _ (txn_cases t) (λ a.
    checked (key_of (narrow k)) _ k _ (key_cases k) (λ b.
    checked (version_of (narrow v)) _ v _ (version_cases v) (λ d. inl (refl, (a, b, d))) (λ is. is.2)) (λ is. is.1)) (λ is. is.0)
ranges_cases (Range t lo hi listed) =
    checked (txn_of (narrow t)) _ t _ (txn_cases t) (λ a.
    checked (key_of (narrow lo)) _ lo _ (key_cases lo) (λ b.
    checked (key_of (narrow hi)) _ hi _ (key_cases hi) (λ d.
    checked (list_of (narrow_list listed)) _ listed _ (listed_cases listed) (λ l. inl (refl, (a, b, d, l))) (λ is. is.3)) (λ is. is.2)) (λ is. is.1)) (λ is. is.0)
ranges_cases (Write t k) =
    checked (txn_of (narrow t)) _ t _ (txn_cases t) (λ a.
    checked (key_of (narrow k)) _ k _ (key_cases k) (λ b. inl (refl, (a, b))) (λ is. is.1)) (λ is. is.0)
ranges_cases (Commit t) = checked (txn_of (narrow t)) _ t _ (txn_cases t) (λ a. inl (refl, a)) (λ is. is)
ranges_cases (Abort t) = checked (txn_of (narrow t)) _ t _ (txn_cases t) (λ a. inl (refl, a)) (λ is. is)

-- ---- what becomes of a token

-- no event spells it; or an event does, which is read, or has a number out of range
abbrev pub TokenCases : List ℕ → Type 0
TokenCases w = ((event_at w ≡ Err BadEvent) × ((e : Event) → w ≢ spell e))
    ⊎ ((e : Event) × (w ≡ spell e) × (event_at w ≡ Ok e) × IsInRange e)
    ⊎ ((e : Event) × (w ≡ spell e) × (event_at w ≡ Err BadNumber) × ¬ IsInRange e)

pub token_cases : (w : List ℕ) → TokenCases w
token_cases w = elim (event_found w) [
  | inl bad ↦ inl (
    bad,
    λ e is. elim (ranges_cases e) [
      | inl r ↦ let two : ◌≡◌ {A = Result Event Reason} (Err BadEvent) (Ok e) = sym bad ∙ ap event_at is ∙ event_again e ∙ r.0 in cc
      | inr r ↦ let two : ◌≡◌ {A = Result Event Reason} (Err BadEvent) (Err BadNumber) = sym bad ∙ ap event_at is ∙ event_again e ∙ r.0 in cc
    ],
  )
  | inr f ↦
      let is : w ≡ spell f.0 = f.1 ∙ sym (regrouped f.0) in
      elim (ranges_cases f.0) [
        | inl r ↦ inr (inl (f.0, is, ap event_at is ∙ event_again f.0 ∙ r.0, r.1))
        | inr r ↦ inr (inr (f.0, is, ap event_at is ∙ event_again f.0 ∙ r.0, r.1))
      ]
]
