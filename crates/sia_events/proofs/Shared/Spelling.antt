-- An event has a spelling of its own.
use Rattle.std.proofs.Common.{◌≡◌, ℕ, ◌<◌, Option, Some, None, List, [], ◌∷◌, ◌++◌, map, arith, append_assoc, rules}
use Rattle.std.specs.List.{join_with_byte}
use Rattle.std.proofs.lemmas.List.{append-nil}
use Rattle.sia_events.specs.declared.event.Event.{Event}
use Rattle.sia_events.specs.declared.event.Event.TheVariants.{Begin, Read, Range, Write, Commit, Abort}
use Rattle.sia_events.specs.Text.{numeral, spell_pair, spell_list, spell}
use Rattle.sia_events.proofs.Shared.Numerals.{IsDigit}

-- listed keys and what follows them, from left to right
abbrev pub pairs_text : ℕ × ℕ → List (ℕ × ℕ) → List ℕ → List ℕ
pairs_text p [] after = numeral p.0 ++ (58 ∷ (numeral p.1 ++ after))
pairs_text p (q ∷ ps) after = numeral p.0 ++ (58 ∷ (numeral p.1 ++ (44 ∷ pairs_text q ps after)))

abbrev pub list_text : List (ℕ × ℕ) → List ℕ
list_text [] = 93 ∷ []
list_text (p ∷ ps) = 59 ∷ pairs_text p ps (93 ∷ [])

-- a named start
abbrev pub start_text : Option ℕ → List ℕ
start_text None = []
start_text (Some n) = 64 ∷ (numeral n ++ [])

abbrev pub event_text : Event → List ℕ
event_text (Begin t start) = 98 ∷ (numeral t ++ start_text start)
event_text (Read t k v) = 114 ∷ (numeral t ++ (91 ∷ (numeral k ++ (58 ∷ (numeral v ++ (93 ∷ []))))))
event_text (Range t lo hi listed) = 114 ∷ (numeral t ++ (91 ∷ (numeral lo ++ (46 ∷ 46 ∷ (numeral hi ++ list_text listed)))))
event_text (Write t k) = 119 ∷ (numeral t ++ (91 ∷ (numeral k ++ (93 ∷ []))))
event_text (Commit t) = 99 ∷ (numeral t ++ [])
event_text (Abort t) = 97 ∷ (numeral t ++ [])

pairs_regrouped : (p : ℕ × ℕ) (ps : List (ℕ × ℕ)) (after : List ℕ) → join_with_byte 44 (map spell_pair (p ∷ ps)) ++ after ≡ pairs_text p ps after
pairs_regrouped p [] after = simp append_assoc
pairs_regrouped p (q ∷ ps) after = grind (arith, append_assoc, pairs_regrouped q ps after)

list_regrouped : (listed : List (ℕ × ℕ)) → spell_list listed ++ (93 ∷ []) ≡ list_text listed
list_regrouped q0 = search (rules, pairs_regrouped)

seven : (a b c d e f g : List ℕ) → a ++ b ++ c ++ (d ++ e ++ f) ++ g ≡ a ++ (b ++ (c ++ (d ++ (e ++ (f ++ g)))))
seven a b c d e f g = simp append_assoc

pub regrouped : (e : Event) → spell e ≡ event_text e
regrouped q0 = search (rules, append-nil, seven, append_assoc, list_regrouped)

pub above_digits : (c : ℕ) → 57 < c → ¬ IsDigit c
above_digits c above d = omega arith

below_digits : (c : ℕ) → c < 48 → ¬ IsDigit c
below_digits c below d = omega arith

pub colon : ¬ IsDigit 58
colon = above_digits 58 (omega arith)

pub bracket : ¬ IsDigit 93
bracket = above_digits 93 (omega arith)

pub open_bracket : ¬ IsDigit 91
open_bracket = above_digits 91 (omega arith)

pub comma : ¬ IsDigit 44
comma = below_digits 44 (omega arith)

pub dot : ¬ IsDigit 46
dot = below_digits 46 (omega arith)

pub at_sign : ¬ IsDigit 64
at_sign = above_digits 64 (omega arith)
