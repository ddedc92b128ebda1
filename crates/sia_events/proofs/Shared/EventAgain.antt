-- Each event's spelling is read to it, or to a number out of range.
use Rattle.std.proofs.Common.{sym, ◌≡◌, ℕ, zero, suc, ◌+◌, ◌<◌, List, [], ◌∷◌, ◌++◌, length, Some, None, Result, Ok, refl, ap, ◌∙◌, arith}
use Rattle.std.proofs.lemmas.List.{length-append}
use Rattle.sia_events.specs.Text.{numeral, spell}
use Rattle.sia_events.specs.declared.event.Event.{Event}
use Rattle.sia_events.specs.declared.event.Event.TheVariants.{Begin, Read, Range, Write, Commit, Abort}
use Rattle.sia_events.specs.declared.fault.Reason.{Reason}
use Rattle.sia_events.specs.Parsing.{◌>>=◌, narrow, number_at, after_byte, ended, key_of, version_of, txn_of, begin_at, write_at, item_at, pair_at, pairs_within, pairs_at, list_at, list_of, range_at, read_at, commit_at, abort_at, event_at}
use Rattle.sia_events.proofs.Shared.Numerals.{IsDigit}
use Rattle.sia_events.proofs.Shared.NumberLaws.{number_again}
use Rattle.sia_events.proofs.Shared.Spelling.{above_digits, pairs_text, list_text, event_text, regrouped, open_bracket, bracket, colon, comma, dot, at_sign}
use Rattle.sia_events.proofs.Shared.EventLaws.{joined_none, narrow_pair, narrow_list}

-- the event with each number in its range, or the reason that one isn't
abbrev pub in_ranges : Event → Result Event Reason
in_ranges (Begin t None) = txn_of (narrow t) >>= λ u. Ok (Begin u None)
in_ranges (Begin t (Some n)) = txn_of (narrow t) >>= λ u. (version_of (narrow n) >>= λ m. Ok (Begin u (Some m)))
in_ranges (Read t k v) = txn_of (narrow t) >>= λ u. (key_of (narrow k) >>= λ j. (version_of (narrow v) >>= λ w. Ok (Read u j w)))
in_ranges (Range t lo hi listed) = txn_of (narrow t) >>= λ u. (key_of (narrow lo) >>= λ l. (key_of (narrow hi) >>= λ h. (list_of (narrow_list listed) >>= λ ps. Ok (Range u l h ps))))
in_ranges (Write t k) = txn_of (narrow t) >>= λ u. (key_of (narrow k) >>= λ j. Ok (Write u j))
in_ranges (Commit t) = txn_of (narrow t) >>= λ u. Ok (Commit u)
in_ranges (Abort t) = txn_of (narrow t) >>= λ u. Ok (Abort u)

semicolon : ¬ IsDigit 59
semicolon = above_digits 59 (omega arith)

pair_again : (p : ℕ × ℕ) (c : ℕ) (rest : List ℕ) → ¬ IsDigit c → pair_at (numeral p.0 ++ (58 ∷ (numeral p.1 ++ (c ∷ rest)))) ≡ Ok (narrow_pair p, c ∷ rest)
unfolding pair_at after_byte
pair_again p c rest stops = rw (number_again p.0 (58 ∷ (numeral p.1 ++ (c ∷ rest))) colon, number_again p.1 (c ∷ rest) stops) refl

pairs_again : (p : ℕ × ℕ) (ps : List (ℕ × ℕ)) (rest : List ℕ) (m : ℕ) → length ps < m → pairs_within m (pairs_text p ps (93 ∷ rest)) ≡ Ok (narrow_list (p ∷ ps), 93 ∷ rest)
unfolding pairs_within
pairs_again p ps rest zero enough = absurd (omega arith)
pairs_again p [] rest (suc m) enough = rw (pair_again p 93 rest bracket) (ap (λ qs. Ok (qs, 93 ∷ rest)) (sym (joined_none (narrow_pair p))))
pairs_again p (q ∷ ps) rest (suc m) enough = rw (pair_again p 44 (pairs_text q ps (93 ∷ rest)) comma, pairs_again q ps rest m (omega arith)) refl

-- each pair takes more than one byte
pairs_long : (p : ℕ × ℕ) (ps : List (ℕ × ℕ)) (rest : List ℕ) → length ps < length (pairs_text p ps rest)
pairs_long p [] rest = omega (arith, length-append (numeral p.0) (58 ∷ (numeral p.1 ++ rest)))
pairs_long p (q ∷ ps) rest = grind (arith, length-append, pairs_text, pairs_long q ps rest)

-- what follows an upper end, up to the closing bracket
list_again : (listed : List (ℕ × ℕ)) → list_at (list_text listed) ≡ Ok (narrow_list listed, 93 ∷ [])
unfolding list_at pairs_at
list_again [] = refl
list_again (p ∷ ps) = pairs_again p ps [] (length (pairs_text p ps (93 ∷ [])) + 1) (let h = pairs_long p ps (93 ∷ []) in omega arith)

high_again : (hi : ℕ) (listed : List (ℕ × ℕ)) → number_at (numeral hi ++ list_text listed) ≡ Ok (narrow hi, list_text listed)
high_again hi [] = number_again hi (93 ∷ []) bracket
high_again hi (p ∷ ps) = number_again hi (59 ∷ pairs_text p ps (93 ∷ [])) semicolon

text_again : (e : Event) → event_at (event_text e) ≡ in_ranges e
unfolding event_at begin_at write_at item_at range_at read_at commit_at abort_at after_byte ended
text_again e = grind (arith, number_again, at_sign, open_bracket, colon, bracket, list_text, dot, high_again, list_again)

-- what is read of a spelling
pub event_again : (e : Event) → event_at (spell e) ≡ in_ranges e
event_again e = ap event_at (regrouped e) ∙ text_again e
