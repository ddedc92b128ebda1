-- Where a token stands in a text, and what is shown of it (docs/FORMAT.md, "Refusals").
use Rattle.std.specs.Prelude.{◌≡◌, ◌≢◌, ◌⊎◌, ℕ, ◌+◌, ◌/◌, ◌%◌, Bool, true, false, not, ◌&&◌, ◌==◌, nat_lt, nat_le, if◌then◌else◌, List, [], ◌∷◌, ◌++◌, length, take, reverse, count_by, flat_map, All}
use Rattle.std.specs.List.{position_or_len}
use Rattle.sia_events.specs.Text.{is_separator, goes_on, tokens}

abbrev pub is_line_feed : ℕ → Bool
is_line_feed c = c == 10

-- what follows these bytes is on this line, at this column: line feeds are counted, and the bytes behind the last one
pub record IsPlaceAfter (front : List ℕ) (line column : ℕ) : Type 0 where
  pub line_is : line ≡ count_by is_line_feed front + 1
  pub column_is : column ≡ position_or_len is_line_feed (reverse front) + 1

-- the token with this number stands in the text, and begins at this place
pub record IsTokenAt (text : List ℕ) (number line column : ℕ) (token : List ℕ) : Type 0 where
  pub front : List ℕ
  pub rest : List ℕ
  pub whole : text ≡ front ++ (token ++ rest)
  pub some : token ≢ []
  pub unbroken : All (λ c. is_separator c ≡ false) token
  pub front_ends : (front ≡ []) ⊎ ((before : List ℕ) × (c : ℕ) × (front ≡ before ++ c ∷ []) × (is_separator c ≡ true))
  pub rest_begins : goes_on rest ≡ false
  pub number_is : length (tokens front) + 1 ≡ number
  pub begins : IsPlaceAfter front line column

-- printable ASCII but the space, and no backslash
abbrev pub is_plain_shown : ℕ → Bool
is_plain_shown c = nat_le 33 c && nat_le c 126 && not (c == 92)

-- a hexadecimal digit in lower case
abbrev pub hex_digit : ℕ → ℕ
hex_digit n = if nat_lt n 10 then (48 + n) else (87 + n)

-- a byte as it is, or as \x and its two digits
abbrev pub shown_byte : ℕ → List ℕ
shown_byte c = if is_plain_shown c then (c ∷ []) else (92 ∷ 120 ∷ hex_digit (c / 16) ∷ hex_digit (c % 16) ∷ [])

-- the first 60 bytes of a token
abbrev pub shown : List ℕ → List ℕ
shown token = flat_map shown_byte (take 60 token)

-- the same where only the first 60 bytes of the token are kept
abbrev pub IsLocated : List ℕ → ℕ → ℕ → ℕ → List ℕ → Type 0
IsLocated text number line column kept = (token : List ℕ) × IsTokenAt text number line column token × (kept ≡ take 60 token)
