-- The text of a history: how an event is spelled, and how a text falls into tokens. The spelling follows the notation of
-- Berenson et al. (1995), `r1[x]`, `w1[x]`, `c1`, `a1`; the grammar as a whole is this project's own (docs/FORMAT.md).
-- An event may hold numbers of any size here, so that a token with a number out of range has the form of an event.
use Rattle.std.specs.Prelude.{◌≡◌, ℕ, zero, suc, ◌+◌, ◌/◌, ◌%◌, Bool, true, false, ◌||◌, if◌then◌else◌, List, [], ◌∷◌, ◌++◌, map, codes, nat_lt, ◌==◌, Option, Some, None}
use Rattle.std.specs.List.{join_with_byte}
use Rattle.sia_events.specs.declared.event.Event.{Event}
use Rattle.sia_events.specs.declared.event.Event.TheVariants.{Begin, Read, Range, Write, Commit, Abort}

-- the last so many digits of n, or all of them where there are no more
abbrev pub digits_within : ℕ → ℕ → List ℕ
digits_within zero n = []
digits_within (suc more) n = elim (nat_lt n 10) [
  | true ↦ (48 + n) ∷ []
  | false ↦ digits_within more (n / 10) ++ (48 + n % 10) ∷ []
]

-- a number of any size in digits, with no leading zero
unfoldable pub numeral : ℕ → List ℕ
numeral n = digits_within (n + 1) n

abbrev pub spell_pair : ℕ × ℕ → List ℕ
spell_pair p = numeral p.0 ++ codes ":" ++ numeral p.1

-- the listed keys of a range, if there are any
abbrev pub spell_list : List (ℕ × ℕ) → List ℕ
spell_list [] = []
spell_list (p ∷ ps) = codes ";" ++ join_with_byte 44 (map spell_pair (p ∷ ps))

-- the start that a begin names, if it names one
abbrev pub spell_start : Option ℕ → List ℕ
spell_start None = []
spell_start (Some n) = codes "@" ++ numeral n

-- the one spelling of an event
abbrev pub spell : Event → List ℕ
spell (Begin t start) = codes "b" ++ numeral t ++ spell_start start
spell (Read t k v) = codes "r" ++ numeral t ++ codes "[" ++ spell_pair (k, v) ++ codes "]"
spell (Range t lo hi listed) = codes "r" ++ numeral t ++ codes "[" ++ numeral lo ++ codes ".." ++ numeral hi ++ spell_list listed ++ codes "]"
spell (Write t k) = codes "w" ++ numeral t ++ codes "[" ++ numeral k ++ codes "]"
spell (Commit t) = codes "c" ++ numeral t
spell (Abort t) = codes "a" ++ numeral t

-- space, tab, CR, LF
abbrev pub is_separator : ℕ → Bool
is_separator c = c == 32 || c == 9 || c == 13 || c == 10

-- whether a token goes on in these bytes
abbrev pub goes_on : List ℕ → Bool
goes_on [] = false
goes_on (c ∷ cs) = if is_separator c then false else true

-- c at the front of the first token
abbrev pub onto_first : ℕ → List (List ℕ) → List (List ℕ)
onto_first c [] = (c ∷ []) ∷ []
onto_first c (t ∷ ts) = (c ∷ t) ∷ ts

-- the tokens of c and the bytes after it, where ts are those of the bytes after it
abbrev pub with_byte : ℕ → List ℕ → List (List ℕ) → List (List ℕ)
with_byte c after ts = if is_separator c then ts else (if goes_on after then onto_first c ts else (c ∷ []) ∷ ts)

-- the longest runs without separators, in order
abbrev pub tokens : List ℕ → List (List ℕ)
tokens [] = []
tokens (c ∷ cs) = with_byte c cs (tokens cs)

-- the text's tokens are the events' spellings
abbrev pub StandsFor : List ℕ → List Event → Type 0
StandsFor text h = tokens text ≡ map spell h

-- one space between two events, nothing before the first and after the last
abbrev pub canonical : List Event → List ℕ
canonical h = join_with_byte 32 (map spell h)
