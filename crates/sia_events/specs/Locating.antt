-- What a locator keeps, and which texts it then stands for.
use Rattle.std.specs.Prelude.{◌≡◌, ◌⊎◌, ℕ, ◌≤◌, Bool, true, false, List, [], ◌∷◌, ◌++◌, length, take, MatchOption}
use Rattle.sia_events.specs.declared.locating.Place.{Place}
use Rattle.sia_events.specs.Limits.{Limits}
use Rattle.sia_events.specs.Text.{is_separator, tokens}
use Rattle.sia_events.specs.Streaming.{Progress}
use Rattle.sia_events.specs.Locations.{IsPlaceAfter, IsTokenAt}

-- what a locator keeps between two bytes: how many tokens began, the place of the next byte, the place and the first 60
-- bytes of the last token that began, and whether the last byte is one of its
pub record Located : Type 0 where
  pub number : ℕ
  pub next : Place
  pub place : Place
  pub token : List ℕ
  pub is_open : Bool

-- the last token that began stands in the text where the locator says, and this follows it
pub record HasToken (l : Located) (text rest : List ℕ) : Type 0 where
  pub token : List ℕ
  pub at : IsTokenAt text l.number l.place.line l.place.column token
  pub kept : l.token ≡ take 60 token
  pub left : at.rest ≡ rest

-- a separator follows the token
abbrev pub HasEnded : Located → List ℕ → Type 0
HasEnded l text = (c : ℕ) × (more : List ℕ) × HasToken l text (c ∷ more)

-- the locator has passed all of the text
pub record Follows (l : Located) (text : List ℕ) : Type 0 where
  pub number_is : l.number ≡ length (tokens text)
  pub next_is : IsPlaceAfter text l.next.line l.next.column
  pub unfinished : l.is_open ≡ true → HasToken l text []
  pub between : l.is_open ≡ false → (text ≡ []) ⊎ ((before : List ℕ) × (c : ℕ) × (text ≡ before ++ c ∷ []) × (is_separator c ≡ true))
  pub ended : l.is_open ≡ false → (l.number ≡ 0) ⊎ HasEnded l text

-- the locator has stopped behind the token with this number
pub record StopsBehind (l : Located) (text : List ℕ) (number : ℕ) : Type 0 where
  pub number_is : l.number ≡ number
  pub closed : l.is_open ≡ false
  pub ended : HasEnded l text

-- a locator beside a reader of these limits stands for the text: where the text is within the limits, the locator has passed all of it, or
-- stopped behind the token that the reader refused
abbrev pub StandsForLocated : Limits → Located → Progress → List ℕ → Type 0
StandsForLocated limits l r text = length text ≤ limits.bytes → MatchOption r.fault (Follows l text) (λ fault. StopsBehind l text fault.0)
