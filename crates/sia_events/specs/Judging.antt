-- Judging the tokens of a text one after another.
use Rattle.std.specs.Prelude.{◌≡◌, ℕ, true, false, List, [], ◌∷◌, ◌++◌, length, Option, Some, None, Result, Ok, Err, ◌==◌, if◌then◌else◌}
use Rattle.std.specs.List.{AllByRecursion}
use Rattle.sia_events.specs.Limits.{Limits}
use Rattle.sia_events.specs.declared.event.Event.{Event}
use Rattle.sia_events.specs.declared.fault.Reason.{Reason}
use Rattle.sia_events.specs.declared.fault.Reason.TheVariants.{TooManyEvents}
use Rattle.sia_events.specs.declared.fault.Refusal.{Refusal}
use Rattle.sia_events.specs.declared.fault.Refusal.TheVariants as refusals
use Rattle.sia_events.specs.Text.{is_separator, tokens}
use Rattle.sia_events.specs.Streaming.{IsCutAtLastSeparator}
use Rattle.sia_events.specs.Parsing.{◌>>=◌, event_at}
use Rattle.sia_events.specs.Known.{fault_of}

-- the event, unless it has a reason
abbrev pub unless : Option Reason → Event → Result Event Reason
unless None e = Ok e
unless (Some reason) e = Err reason

-- the event of the next token, or its first reason
unfoldable pub judged : Limits → List Event → List ℕ → Result Event Reason
judged limits events token = if length events == limits.events then Err TooManyEvents else (event_at token >>= λ e. unless (fault_of events (length events) e) e)

-- each token is judged to the event that comes after the ones before it
unfoldable pub JudgedAll : Limits → List Event → List (List ℕ) → List Event → Type 0
JudgedAll limits events [] all = events ≡ all
JudgedAll limits events (token ∷ tokens) all = (e : Event) × (judged limits events token ≡ Ok e) × JudgedAll limits (events ++ e ∷ []) tokens all

-- one token, or none where there are no bytes
abbrev pub as_token : List ℕ → List (List ℕ)
as_token [] = []
as_token (c ∷ cs) = (c ∷ cs) ∷ []

-- the text is bytes of one token, or none, then a separator and what follows it
pub record IsSplitAfter (text token after : List ℕ) : Type 0 where
  pub separator : ℕ
  pub whole : text ≡ token ++ separator ∷ after
  pub unbroken : AllByRecursion (λ c. is_separator c ≡ false) token
  pub separates : is_separator separator ≡ true

-- the tokens before one that has the reason are judged to these events
pub record StopsAt (limits : Limits) (events : List Event) (tokens : List (List ℕ)) (all : List Event) (reason : Reason) : Type 0 where
  pub before : List (List ℕ)
  pub token : List ℕ
  pub after : List (List ℕ)
  pub whole : tokens ≡ before ++ token ∷ after
  pub fine : JudgedAll limits events before all
  pub refused : judged limits all token ≡ Err reason

-- what a refusal at one of the tokens says: for want of memory nothing
abbrev pub Halts : Limits → Refusal → List Event → List (List ℕ) → List Event → Type 0
Halts limits refusals.NoMemory events tokens all = Unit {0}
Halts limits (refusals.Bad reason) events tokens all = StopsAt limits events tokens all reason

-- the same of the tokens of a text that a separator follows
abbrev pub HaltsIn : Limits → Refusal → List Event → List ℕ → List Event → Type 0
HaltsIn limits refusals.NoMemory events text all = Unit {0}
HaltsIn limits (refusals.Bad reason) events text all = (closed : List ℕ) × (rest : List ℕ) × IsCutAtLastSeparator text closed rest × StopsAt limits events (tokens closed) all reason

-- a text of so many bytes, whose tokens up to its last separator are judged to the events, and which the unfinished bytes end
pub record HasText (limits : Limits) (count : ℕ) (events : List Event) (unfinished : List ℕ) : Type 0 where
  pub text : List ℕ
  pub closed : List ℕ
  pub counted : length text ≡ count
  pub cut : IsCutAtLastSeparator text closed unfinished
  pub fine : JudgedAll limits [] (tokens closed) events
