-- What a reader of pieces keeps, and which texts it then stands for.
use Rattle.std.specs.Prelude.{◌≡◌, ◌⊎◌, ℕ, ◌+◌, ◌≤◌, Bool, List, [], ◌∷◌, ◌++◌, length, map, Option, IsNone, MatchOption, All, min, true, false}
use Rattle.sia_events.specs.Limits.{Limits, greatest, AreWithin}
use Rattle.sia_events.specs.declared.event.Event.{Event}
use Rattle.sia_events.specs.declared.fault.Reason.{Reason}
use Rattle.sia_events.specs.Text.{spell, tokens, is_separator}
use Rattle.sia_events.specs.Refusals.{IsFirstFault, HasReason}

-- what a reader keeps between two pieces: its limits, the bytes counted, the first token's fault (its number and reason), the events
-- so far, the bytes of the unfinished token, and whether memory ran out
pub record Progress : Type 0 where
  pub limits : Limits
  pub count : ℕ
  pub fault : Option (ℕ × Reason)
  pub events : List Event
  pub unfinished : List ℕ
  pub lost : Bool

-- closed is what the text has up to its last separator, and rest is what follows
pub record IsCutAtLastSeparator (text closed rest : List ℕ) : Type 0 where
  pub whole : text ≡ closed ++ rest
  pub rest_goes_on : All (λ c. is_separator c ≡ false) rest
  pub closed_ends : (closed ≡ []) ⊎ ((front : List ℕ) × (c : ℕ) × (closed ≡ front ++ c ∷ []) × (is_separator c ≡ true))

-- the reader keeps the first fault of these tokens, or where there is none their events
abbrev pub HasJudged : Limits → Progress → List (List ℕ) → Type 0
HasJudged limits r ts = MatchOption r.fault
    (((i : ℕ) (reason : Reason) → ¬ HasReason limits ts i reason) × (ts ≡ map spell r.events))
    (λ fault. IsFirstFault limits ts fault.0 fault.1)

-- the reader, whose limits these are, stands for the text: it counts its bytes, up to one more than the most, and where the text has no
-- more it has judged the tokens that a separator follows and keeps what comes after the last separator
pub record StandsForRead (limits : Limits) (r : Progress) (text : List ℕ) : Type 0 where
  pub limits_are : r.limits ≡ limits
  pub within : AreWithin limits greatest
  pub counted : r.count ≡ min (length text) (limits.bytes + 1)
  pub judged : length text ≤ limits.bytes → (closed : List ℕ) × (rest : List ℕ) × IsCutAtLastSeparator text closed rest
      × HasJudged limits r (tokens closed) × (IsNone r.fault → r.unfinished ≡ rest)
