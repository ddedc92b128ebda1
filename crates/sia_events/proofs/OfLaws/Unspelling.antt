-- A spelling read back: whether bytes spell an event can be told.
use Rattle.std.proofs.Common.{◌≡◌, ◌≢◌, ◌⊎◌, inl, inr, ℕ, ◌+◌, ◌-◌, ◌*◌, Bool, true, false, cond, List, [], ◌∷◌, ◌++◌, Some, None, refl, ap, sym, ◌∙◌, arith}
use Rattle.std.specs.Prelude.{fold, ◌==◌}
use Rattle.std.proofs.lemmas.Bool.{cases_eq}
use Rattle.sia_events.specs.declared.event.Event.{Event}
use Rattle.sia_events.specs.declared.event.Event.TheVariants.{Begin, Read, Range, Write, Commit, Abort}
use Rattle.sia_events.specs.Text.{numeral, spell}
use Rattle.sia_events.specs.Parsing.{is_digit}
use Rattle.sia_events.proofs.Shared.Decisions.{Decided, decided_alike, same_list}
use Rattle.sia_events.proofs.Shared.Numerals.{AreDigits, numeral-digits, value_of-numeral}
use Rattle.sia_events.proofs.Shared.Spelling.{pairs_text, list_text, event_text, regrouped}
use Rattle.sia_events.proofs.Shared.NumberLaws.{digit_passes}

-- the numbers between bytes that are no digits, the first of which goes on from v. No digits are 0
abbrev numbers_from : ℕ → List ℕ → List ℕ
numbers_from v [] = v ∷ []
numbers_from v (c ∷ cs) = elim (is_digit c) [
  | true ↦ numbers_from (10 * v + (c - 48)) cs
  | false ↦ v ∷ numbers_from 0 cs
]

-- what numbers_from gives, by whether the first byte is a digit
abbrev numbers_by : ℕ → ℕ → List ℕ → Bool → List ℕ
numbers_by v c cs b = elim b [
  | true ↦ numbers_from (10 * v + (c - 48)) cs
  | false ↦ v ∷ numbers_from 0 cs
]

digits_read : (v : ℕ) (ds x : List ℕ) → AreDigits ds → numbers_from v (ds ++ x) ≡ numbers_from (fold (λ v c. 10 * v + (c - 48)) v ds) x
digits_read v [] x d = refl
digits_read v (c ∷ ds) x d = ap (numbers_by v c (ds ++ x)) (digit_passes c d.0) ∙ digits_read (10 * v + (c - 48)) ds x d.1

-- a numeral is read as its number
numeral_read : (n : ℕ) (x : List ℕ) → numbers_from 0 (numeral n ++ x) ≡ numbers_from n x
numeral_read n x = digits_read 0 (numeral n) x (numeral-digits n) ∙ ap (λ v. numbers_from v x) (value_of-numeral n)

-- a list's numbers in twos, and the last of an odd number of them dropped
abbrev in_twos : List ℕ → List (ℕ × ℕ)
in_twos [] = []
in_twos (k ∷ []) = []
in_twos (k ∷ v ∷ ns) = (k, v) ∷ in_twos ns

-- the events that numbers give, where there are enough
abbrev begin_of : List ℕ → Event
begin_of [] = Abort 0
begin_of (t ∷ []) = Begin t None
begin_of (t ∷ n ∷ ns) = Begin t (Some n)

abbrev write_of : List ℕ → Event
write_of (t ∷ k ∷ ns) = Write t k
write_of _ = Abort 0

abbrev first_of : List ℕ → ℕ
first_of [] = 0
first_of (n ∷ ns) = n

-- one key gives a transaction, a key, a version and no digits; a range a transaction, a bound, no digits, a bound and more
abbrev read_of : List ℕ → Event
read_of (t ∷ k ∷ v ∷ last ∷ []) = Read t k v
read_of (t ∷ lo ∷ dots ∷ hi ∷ n ∷ ns) = Range t lo hi (in_twos (n ∷ ns))
read_of ns = Abort 0

-- an event that the bytes spell, if they spell one
abbrev unspell : List ℕ → Event
unspell [] = Abort 0
unspell (c ∷ cs) = cond (c == 98) (begin_of (numbers_from 0 cs))
    (cond (c == 114) (read_of (numbers_from 0 cs))
    (cond (c == 119) (write_of (numbers_from 0 cs))
    (cond (c == 99) (Commit (first_of (numbers_from 0 cs))) (Abort (first_of (numbers_from 0 cs))))))

pairs_read : (p : ℕ × ℕ) (ps : List (ℕ × ℕ)) → in_twos (numbers_from 0 (pairs_text p ps (93 ∷ []))) ≡ p ∷ ps
pairs_read p [] = ap in_twos (numeral_read p.0 (58 ∷ (numeral p.1 ++ (93 ∷ []))) ∙ ap (λ (ns : List ℕ). p.0 ∷ ns) (numeral_read p.1 (93 ∷ [])))
pairs_read p (q ∷ ps) = grind (arith, numeral_read, pairs_text, pairs_read q ps)

-- what comes after the first number of listed keys
pairs_start : (p : ℕ × ℕ) (ps : List (ℕ × ℕ)) → (ns : List ℕ) × (numbers_from 0 (pairs_text p ps (93 ∷ [])) ≡ p.0 ∷ ns)
pairs_start p [] = (_, numeral_read p.0 (58 ∷ (numeral p.1 ++ (93 ∷ []))))
pairs_start p (q ∷ ps) = (_, numeral_read p.0 (58 ∷ (numeral p.1 ++ (44 ∷ pairs_text q ps (93 ∷ [])))))

range_read : (t lo hi n : ℕ) (ns rest : List ℕ) → rest ≡ n ∷ ns → read_of (t ∷ lo ∷ 0 ∷ hi ∷ rest) ≡ Range t lo hi (in_twos rest)
range_read t lo hi n ns rest e = grind (arith)

-- the numbers of a range read
range_numbers : (t lo hi : ℕ) (after : List ℕ) → numbers_from 0 (numeral t ++ (91 ∷ (numeral lo ++ (46 ∷ 46 ∷ (numeral hi ++ after))))) ≡ t ∷ lo ∷ 0 ∷ numbers_from hi after
range_numbers t lo hi after = grind (arith, numeral_read)

list_read : (t lo hi : ℕ) (listed : List (ℕ × ℕ)) → read_of (t ∷ lo ∷ 0 ∷ numbers_from hi (list_text listed)) ≡ Range t lo hi listed
list_read t lo hi [] = refl
list_read t lo hi (p ∷ ps) =
    let start = pairs_start p ps in
    range_read t lo hi p.0 start.0 (numbers_from 0 (pairs_text p ps (93 ∷ []))) start.1
    ∙ ap (λ (rs : List (ℕ × ℕ)). Range t lo hi rs) (pairs_read p ps)

text_read : (e : Event) → unspell (event_text e) ≡ e
text_read e = grind (arith, numeral_read, range_numbers, list_text, list_read)

pub unspell_spell : (e : Event) → unspell (spell e) ≡ e
unspell_spell e = ap unspell (regrouped e) ∙ text_read e

-- no two events have one spelling, so whether two are one can be told
pub spell_injective : (e f : Event) → spell e ≡ spell f → e ≡ f
spell_injective e f p = sym (unspell_spell e) ∙ ap unspell p ∙ unspell_spell f

pub same_event : (e f : Event) → Decided (e ≡ f)
same_event e f = decided_alike (spell e ≡ spell f) (e ≡ f) (spell_injective e f) (ap spell) (same_list cases_eq (spell e) (spell f))

-- whether bytes spell an event can be told
pub spelling_or_not : (w : List ℕ) → ((e : Event) × (w ≡ spell e)) ⊎ ((e : Event) → w ≢ spell e)
spelling_or_not w = elim (same_list cases_eq (spell (unspell w)) w) [
  | inl same ↦ inl (unspell w, sym same)
  | inr other ↦ inr (λ e is. other (ap (λ v. spell (unspell v)) is ∙ ap spell (unspell_spell e) ∙ sym is))
]
