-- What a token is read to: a token that is read is spelled so, and each spelling is read.
use Rattle.std.proofs.Common.{◌≡◌, ◌⊎◌, inl, inr, ℕ, zero, suc, ◌+◌, Bool, true, false, List, [], ◌∷◌, ◌++◌, length, drop, Option, Some, None, Result, Ok, Err, refl, ap, sym, ◌∙◌, arith}
use Rattle.std.specs.Prelude.{⊤, if◌then◌else◌}
use Rattle.std.proofs.lemmas.Bool.{eqb-true}
use Rattle.sia_events.specs.Text.{numeral}
use Rattle.sia_events.specs.declared.fault.Reason.{Reason}
use Rattle.sia_events.specs.declared.fault.Reason.TheVariants.{BadEvent}
use Rattle.sia_events.specs.Parsing.{◌>>=◌, number_at, narrow, after_byte, ended, begin_at, write_at, item_at, pair_from, pair_at, joined, one_pair, begins_with, pairs_within, pairs_at, list_at, range_at, read_at, commit_at, abort_at}
use Rattle.sia_events.proofs.Shared.NumberLaws.{number_cases}
use Rattle.sia_events.proofs.Shared.Spelling.{pairs_text, list_text, start_text}

-- ---- a step that has no form, or that goes on

abbrev pub Lacks : {A : Type 0} → Result A Reason → Type 0
Lacks read = read ≡ Err BadEvent

record Goes (byte : ℕ) (bytes rest : List ℕ) : Type 0 where
  whole : bytes ≡ byte ∷ rest
  read : after_byte byte bytes ≡ Ok rest

after_cases : (byte : ℕ) (bytes : List ℕ) → Lacks (after_byte byte bytes) ⊎ ((rest : List ℕ) × Goes byte bytes rest)
unfolding after_byte
after_cases byte bytes = grind (arith, eqb-true)

ended_cases : (bytes : List ℕ) → Lacks (ended bytes) ⊎ (bytes ≡ [])
unfolding ended
ended_cases [] = inr refl
ended_cases (c ∷ rest) = inl refl

-- ---- a step, and what comes after it

passed : {A B P : Type 0} (r : Result A Reason) (f : A → Result B Reason) (a : A) → r ≡ Ok a → Lacks (f a) ⊎ P → Lacks (r >>= f) ⊎ P
passed r f a e (inl bad) = inl (rw e bad)
passed r f a e (inr p) = inr p

after_then : {B P : Type 0} (byte : ℕ) (bytes : List ℕ) (f : List ℕ → Result B Reason) → ((rest : List ℕ) → bytes ≡ byte ∷ rest → Lacks (f rest) ⊎ P) → Lacks (after_byte byte bytes >>= f) ⊎ P
after_then byte bytes f next = elim (after_cases byte bytes) [ inl e ↦ inl (rw e refl) | inr a ↦ passed (after_byte byte bytes) f a.0 a.1.read (next a.0 a.1.whole) ]

pub number_then : {B P : Type 0} (bytes : List ℕ) (f : Option ℕ × List ℕ → Result B Reason) → ((n : ℕ) (rest : List ℕ) → bytes ≡ numeral n ++ rest → Lacks (f (narrow n, rest)) ⊎ P) → Lacks (number_at bytes >>= f) ⊎ P
number_then bytes f next = elim (number_cases bytes) [ inl e ↦ inl (rw e refl) | inr n ↦ passed (number_at bytes) f (narrow n.0, n.1) n.2.read (next n.0 n.1 n.2.whole) ]

pub also : {A P Q : Type 0} (r : Result A Reason) → Lacks r ⊎ P → (P → Q) → Lacks r ⊎ Q
also r (inl bad) f = inl bad
also r (inr p) f = inr (f p)

ended_then : {B P : Type 0} (bytes : List ℕ) (f : ⊤ → Result B Reason) → (bytes ≡ [] → P) → Lacks (ended bytes >>= f) ⊎ P
ended_then bytes f found = elim (ended_cases bytes) [ inl e ↦ inl (rw e refl) | inr e ↦ inr (found e) ]

-- ---- a token that is read is spelled so

pub commit_sound : (txn : Option ℕ) (bytes : List ℕ) → Lacks (commit_at txn bytes) ⊎ (bytes ≡ [])
unfolding commit_at
commit_sound txn bytes = ended_then bytes _ (λ e. e)

pub abort_sound : (txn : Option ℕ) (bytes : List ℕ) → Lacks (abort_at txn bytes) ⊎ (bytes ≡ [])
unfolding abort_at
abort_sound txn bytes = ended_then bytes _ (λ e. e)

pub begin_sound : (txn : Option ℕ) (bytes : List ℕ) → Lacks (begin_at txn bytes) ⊎ ((start : Option ℕ) × (bytes ≡ start_text start))
unfolding begin_at
begin_sound txn [] = inr (None, refl)
begin_sound txn (c ∷ bytes) =
    after_then 64 (c ∷ bytes) _ (λ rest a. number_then rest _ (λ n more h. ended_then more _ (λ e.
    (Some n, a ∙ ap (λ (xs : List ℕ). 64 ∷ xs) (h ∙ ap (λ (xs : List ℕ). numeral n ++ xs) e)))))

pub write_sound : (txn : Option ℕ) (bytes : List ℕ) → Lacks (write_at txn bytes) ⊎ ((k : ℕ) × (bytes ≡ 91 ∷ (numeral k ++ (93 ∷ []))))
unfolding write_at
write_sound txn bytes =
    after_then 91 bytes _ (λ rest a. number_then rest _ (λ n more h. after_then 93 more _ (λ last b. ended_then last _ (λ e.
    (n, a ∙ ap (λ (xs : List ℕ). 91 ∷ xs) (h ∙ ap (λ (xs : List ℕ). numeral n ++ xs) (b ∙ ap (λ (xs : List ℕ). 93 ∷ xs) e)))))))

item_sound : (txn key : Option ℕ) (bytes : List ℕ) → Lacks (item_at txn key bytes) ⊎ ((v : ℕ) × (bytes ≡ numeral v ++ (93 ∷ [])))
unfolding item_at
item_sound txn key bytes =
    number_then bytes _ (λ n more h. after_then 93 more _ (λ last b. ended_then last _ (λ e.
    (n, h ∙ ap (λ (xs : List ℕ). numeral n ++ xs) (b ∙ ap (λ (xs : List ℕ). 93 ∷ xs) e)))))

-- ---- listed keys

abbrev pub narrow_pair : ℕ × ℕ → Option (ℕ × ℕ)
narrow_pair p = pair_from (narrow p.0) (narrow p.1)

-- the pairs, unless one has a number out of range
abbrev pub narrow_list : List (ℕ × ℕ) → Option (List (ℕ × ℕ))
narrow_list [] = Some []
narrow_list (p ∷ ps) = joined (one_pair (narrow_pair p)) (narrow_list ps)

pub record HasPair (bytes : List ℕ) (p : ℕ × ℕ) (rest : List ℕ) : Type 0 where
  pub whole : bytes ≡ numeral p.0 ++ (58 ∷ (numeral p.1 ++ rest))
  pub read : pair_at bytes ≡ Ok (narrow_pair p, rest)

pub pair_cases : (bytes : List ℕ) → Lacks (pair_at bytes) ⊎ ((p : ℕ × ℕ) × (rest : List ℕ) × HasPair bytes p rest)
unfolding pair_at
pair_cases bytes = elim (number_cases bytes) [
  | inl e ↦ inl (rw e refl)
  | inr k ↦ elim (after_cases 58 k.1) [
    | inl e ↦ inl (rw (k.2.read, e) refl)
    | inr a ↦ elim (number_cases a.0) [
      | inl e ↦ inl (rw (k.2.read, a.1.read, e) refl)
      | inr v ↦ inr (
        (k.0, v.0),
        v.1,
        record {
          whole = k.2.whole ∙ ap (λ (xs : List ℕ). numeral k.0 ++ xs) (a.1.whole ∙ ap (λ (xs : List ℕ). 58 ∷ xs) v.2.whole);
          read = rw (k.2.read, a.1.read, v.2.read) refl;
        },
      )
    ]
  ]
]

-- listed keys that are read, with what follows them
record HasPairs (m : ℕ) (bytes : List ℕ) (p : ℕ × ℕ) (ps : List (ℕ × ℕ)) (rest : List ℕ) : Type 0 where
  whole : bytes ≡ pairs_text p ps rest
  read : pairs_within m bytes ≡ Ok (narrow_list (p ∷ ps), rest)

begins_is : (byte : ℕ) (bytes : List ℕ) → begins_with byte bytes ≡ true → bytes ≡ byte ∷ drop 1 bytes
begins_is byte [] e = absurd cc
begins_is byte (c ∷ rest) e = ap (λ n. n ∷ rest) (eqb-true c byte e)

pub joined_none : (pair : Option (ℕ × ℕ)) → joined (one_pair pair) (Some []) ≡ one_pair pair
joined_none None = refl
joined_none (Some p) = refl

pairs_cases : (m : ℕ) (bytes : List ℕ) → Lacks (pairs_within m bytes) ⊎ ((p : ℕ × ℕ) × (ps : List (ℕ × ℕ)) × (rest : List ℕ) × HasPairs m bytes p ps rest)
unfolding pairs_within
pairs_cases zero bytes = inl refl
pairs_cases (suc m) bytes = elim (pair_cases bytes) [
  | inl e ↦ inl (rw e refl)
  | inr a ↦ by_comma a.0 a.1 a.2 (begins_with 44 a.1) refl (pairs_cases m (drop 1 a.1))
]
  where
    by_comma : (p : ℕ × ℕ) (rest : List ℕ) → HasPair bytes p rest → (b : Bool) → begins_with 44 rest ≡ b
        → Lacks (pairs_within m (drop 1 rest)) ⊎ ((q : ℕ × ℕ) × (ps : List (ℕ × ℕ)) × (after : List ℕ) × HasPairs m (drop 1 rest) q ps after)
        → Lacks (pairs_within (suc m) bytes) ⊎ ((q : ℕ × ℕ) × (ps : List (ℕ × ℕ)) × (after : List ℕ) × HasPairs (suc m) bytes q ps after)
    by_comma p rest h false e others = inr (p, [], rest, record { whole = h.whole; read = rw (h.read, e) (ap (λ ps. Ok (ps, rest)) (sym (joined_none (narrow_pair p)))) })
    by_comma p rest h true e (inl bad) = inl (rw (h.read, e, bad) refl)
    by_comma p rest h true e (inr o) = inr (
      p,
      o.0 ∷ o.1,
      o.2,
      record {
        whole = h.whole ∙ ap (λ (xs : List ℕ). numeral p.0 ++ (58 ∷ (numeral p.1 ++ xs))) (begins_is 44 rest e ∙ ap (λ (xs : List ℕ). 44 ∷ xs) o.3.whole);
        read = rw (h.read, e, o.3.read) refl;
      },
    )

-- what follows an upper end, with what follows that
abbrev list_front : List (ℕ × ℕ) → List ℕ → List ℕ
list_front [] rest = rest
list_front (p ∷ ps) rest = 59 ∷ pairs_text p ps rest

record HasList (bytes : List ℕ) (ps : List (ℕ × ℕ)) (rest : List ℕ) : Type 0 where
  whole : bytes ≡ list_front ps rest
  read : list_at bytes ≡ Ok (narrow_list ps, rest)

list_cases : (bytes : List ℕ) → Lacks (list_at bytes) ⊎ ((ps : List (ℕ × ℕ)) × (rest : List ℕ) × HasList bytes ps rest)
unfolding list_at pairs_at
list_cases bytes = by_mark (begins_with 59 bytes) refl
  where
    by_mark : (b : Bool) → begins_with 59 bytes ≡ b → Lacks (list_at bytes) ⊎ ((ps : List (ℕ × ℕ)) × (rest : List ℕ) × HasList bytes ps rest)
    by_mark false e = inr ([], bytes, record { whole = refl; read = rw e refl })
    by_mark true e = elim (pairs_cases (length (drop 1 bytes) + 1) (drop 1 bytes)) [
      | inl bad ↦ inl (rw (e, bad) refl)
      | inr h ↦ inr (h.0 ∷ h.1, h.2, record { whole = begins_is 59 bytes e ∙ ap (λ (xs : List ℕ). 59 ∷ xs) h.3.whole; read = rw (e, h.3.read) refl })
    ]

list_end : (ps : List (ℕ × ℕ)) → list_front ps (93 ∷ []) ≡ list_text ps
list_end [] = refl
list_end (p ∷ ps) = refl

list_then : {B P : Type 0} (bytes : List ℕ) (f : Option (List (ℕ × ℕ)) × List ℕ → Result B Reason) → ((ps : List (ℕ × ℕ)) (rest : List ℕ) → bytes ≡ list_front ps rest → Lacks (f (narrow_list ps, rest)) ⊎ P) → Lacks (list_at bytes >>= f) ⊎ P
list_then bytes f next = elim (list_cases bytes) [ inl e ↦ inl (rw e refl) | inr l ↦ passed (list_at bytes) f (narrow_list l.0, l.1) l.2.read (next l.0 l.1 l.2.whole) ]

range_sound : (txn low : Option ℕ) (bytes : List ℕ) → Lacks (range_at txn low bytes) ⊎ ((hi : ℕ) × (ps : List (ℕ × ℕ)) × (bytes ≡ numeral hi ++ list_text ps))
unfolding range_at
range_sound txn low bytes =
    number_then bytes _ (λ n more h. list_then more _ (λ ps rest l. after_then 93 rest _ (λ last b. ended_then last _ (λ e.
    (n, ps, h ∙ ap (λ (xs : List ℕ). numeral n ++ xs) (l ∙ ap (list_front ps) (b ∙ ap (λ (xs : List ℕ). 93 ∷ xs) e) ∙ list_end ps))))))

-- what follows a reader's name
abbrev pub IsReadText : List ℕ → Type 0
IsReadText bytes = ((k : ℕ) × (v : ℕ) × (bytes ≡ 91 ∷ (numeral k ++ (58 ∷ (numeral v ++ (93 ∷ []))))))
    ⊎ ((lo : ℕ) × (hi : ℕ) × (ps : List (ℕ × ℕ)) × (bytes ≡ 91 ∷ (numeral lo ++ (46 ∷ 46 ∷ (numeral hi ++ list_text ps)))))

pub read_sound : (txn : Option ℕ) (bytes : List ℕ) → Lacks (read_at txn bytes) ⊎ IsReadText bytes
unfolding read_at
read_sound txn bytes = after_then 91 bytes _ (λ rest a. number_then rest _ (λ n more h. by_colon rest a n more h (begins_with 58 more) refl))
  where
    by_colon : (rest : List ℕ) → bytes ≡ 91 ∷ rest → (n : ℕ) (more : List ℕ) → rest ≡ numeral n ++ more → (b : Bool) → begins_with 58 more ≡ b
        → Lacks (if b then item_at txn (narrow n) (drop 1 more) else (after_byte 46 more >>= λ x. after_byte 46 x >>= λ y. range_at txn (narrow n) y)) ⊎ IsReadText bytes
    by_colon rest a n more h true e = elim (item_sound txn (narrow n) (drop 1 more)) [
      | inl bad ↦ inl bad
      | inr v ↦ inr (inl (n, v.0, a ∙ ap (λ (xs : List ℕ). 91 ∷ xs) (h ∙ ap (λ (xs : List ℕ). numeral n ++ xs) (begins_is 58 more e ∙ ap (λ (xs : List ℕ). 58 ∷ xs) v.1))))
    ]
    by_colon rest a n more h false e = after_then 46 more _ (λ x b. after_then 46 x _ (λ y d. elim (range_sound txn (narrow n) y) [
      | inl bad ↦ inl bad
      | inr r ↦ inr (inr (n, r.0, r.1, a ∙ ap (λ (xs : List ℕ). 91 ∷ xs) (h ∙ ap (λ (xs : List ℕ). numeral n ++ xs) (b ∙ ap (λ (xs : List ℕ). 46 ∷ xs) (d ∙ ap (λ (xs : List ℕ). 46 ∷ xs) r.2)))))
    ]))
