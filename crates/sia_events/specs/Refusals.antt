-- Which texts are refused, with which reason, and when a list of events is well-formed.
-- Reasons and their order are this project's own (docs/FORMAT.md).
use Rattle.std.specs.Prelude.{◌≡◌, ◌≢◌, ◌⊎◌, ℕ, ◌+◌, ◌^◌, ◌-◌, ◌<◌, ◌≤◌, List, map, length, All, Option, Some, None, ⊤}
use Rattle.std.specs.List.Sorted.{IsStrictlyIncreasing}
use Rattle.sia_events.specs.Limits.{Limits, greatest}
use Rattle.sia_events.specs.declared.event.Event.{Event}
use Rattle.sia_events.specs.declared.event.Event.TheVariants.{Begin, Read, Range, Write, Commit, Abort}
use Rattle.sia_events.specs.declared.fault.Reason.{Reason}
use Rattle.sia_events.specs.declared.fault.Reason.TheVariants.{TooManyEvents, BadEvent, BadNumber, AlreadyEnded, AlreadyBegun, EmptyRange, BadList, NotWritten, BadStart}
use Rattle.sia_events.specs.declared.fault.TextFault.{TextFault}
use Rattle.sia_events.specs.declared.fault.TextFault.TheVariants.{NoMemory, TextTooLong, Refused}
use Rattle.sia_events.specs.Places.{at_place}
use Rattle.sia_events.specs.Text.{spell, tokens, canonical}
use Rattle.sia_events.specs.Events.{actor, named_start, Saw}

-- a transaction is a number from 1 to 4294967295
abbrev pub IsTxn : ℕ → Type 0
IsTxn t = (0 < t) × (t < 2 ^ 32)

-- a key is a number from 0 to 18446744073709551615
abbrev pub IsKey : ℕ → Type 0
IsKey k = k < 2 ^ 64

-- a version is a number from 0 to 4294967295
abbrev pub IsVersion : ℕ → Type 0
IsVersion v = v < 2 ^ 32

-- a named start is a number from 0 to 4294967295
abbrev pub IsStart : Option ℕ → Type 0
IsStart None = ⊤
IsStart (Some n) = n < 2 ^ 32

-- each number of the event is in its range
abbrev pub IsInRange : Event → Type 0
IsInRange (Begin t start) = IsTxn t × IsStart start
IsInRange (Read t k v) = IsTxn t × IsKey k × IsVersion v
IsInRange (Range t lo hi listed) = IsTxn t × IsKey lo × IsKey hi × All (λ p. IsKey p.0 × IsVersion p.1) listed
IsInRange (Write t k) = IsTxn t × IsKey k
IsInRange (Commit t) = IsTxn t
IsInRange (Abort t) = IsTxn t

-- the listed keys lie within the range, each greater than the one before it
abbrev pub IsGoodList : ℕ → ℕ → List (ℕ × ℕ) → Type 0
IsGoodList lo hi listed = All (λ p. (lo ≤ p.0) × (p.0 ≤ hi)) listed × IsStrictlyIncreasing (map (λ p. p.0) listed)

abbrev pub IsBegin : Event → Type 0
IsBegin e = (start : Option ℕ) × (e ≡ Begin (actor e) start)

abbrev pub IsEmptyRange : Event → Type 0
IsEmptyRange e = (lo : ℕ) × (hi : ℕ) × (listed : List (ℕ × ℕ)) × (e ≡ Range (actor e) lo hi listed) × (hi < lo)

abbrev pub HasBadList : Event → Type 0
HasBadList e = (lo : ℕ) × (hi : ℕ) × (listed : List (ℕ × ℕ)) × (e ≡ Range (actor e) lo hi listed) × ¬ IsGoodList lo hi listed

-- an event has the reason, where n events stand before it and Earlier holds of these
abbrev pub EventHas : ℕ → (Event → Type 0) → Event → Reason → Type 0
EventHas n Earlier e TooManyEvents = ⊥
EventHas n Earlier e BadEvent = ⊥
EventHas n Earlier e BadNumber = ¬ IsInRange e
EventHas n Earlier e AlreadyEnded = Earlier (Commit (actor e)) ⊎ Earlier (Abort (actor e))
EventHas n Earlier e AlreadyBegun = IsBegin e × (f : Event) × Earlier f × (actor f ≡ actor e)
EventHas n Earlier e EmptyRange = IsEmptyRange e
EventHas n Earlier e BadList = HasBadList e
EventHas n Earlier e NotWritten = (k : ℕ) × (v : ℕ) × Saw e k v × (v ≢ 0) × ¬ Earlier (Write v k)
EventHas n Earlier e BadStart = (start : ℕ) × (named_start e ≡ Some start) × (n < start)

-- one of the tokens before number i spells e
abbrev pub IsEarlier : List (List ℕ) → ℕ → Event → Type 0
IsEarlier ts i e = (j : ℕ) × (j < i) × (at_place ts j ≡ Some (spell e))

-- token number i, which is w, has the reason in the grammar whose events are those that have Form
abbrev pub TokenHas : Limits → (Event → Type 0) → List (List ℕ) → ℕ → List ℕ → Reason → Type 0
TokenHas limits Form ts i w TooManyEvents = i ≡ limits.events + 1
TokenHas limits Form ts i w BadEvent = (e : Event) → Form e → w ≢ spell e
TokenHas limits Form ts i w reason = (e : Event) × Form e × (w ≡ spell e) × EventHas (i - 1) (IsEarlier ts i) e reason

abbrev pub HasReasonIn : Limits → (Event → Type 0) → List (List ℕ) → ℕ → Reason → Type 0
HasReasonIn limits Form ts i reason = (w : List ℕ) × (at_place ts i ≡ Some w) × TokenHas limits Form ts i w reason

-- of two reasons of one token the lesser is told; 1 is that the text is too long
abbrev pub reason_number : Reason → ℕ
reason_number TooManyEvents = 2
reason_number BadEvent = 3
reason_number BadNumber = 4
reason_number AlreadyEnded = 5
reason_number AlreadyBegun = 6
reason_number EmptyRange = 7
reason_number BadList = 8
reason_number NotWritten = 9
reason_number BadStart = 10

-- the first faulty token, with the least of its reasons
pub record IsFirstFaultIn (limits : Limits) (Form : Event → Type 0) (ts : List (List ℕ)) (i : ℕ) (reason : Reason) : Type 0 where
  pub has : HasReasonIn limits Form ts i reason
  pub first : (j : ℕ) (other : Reason) → HasReasonIn limits Form ts j other → i ≤ j
  pub least : (other : Reason) → HasReasonIn limits Form ts i other → reason_number reason ≤ reason_number other

-- the refusal of a text under limits. Want of memory is none
abbrev pub IsRefusalIn : Limits → (Event → Type 0) → List ℕ → TextFault → Type 0
IsRefusalIn limits Form text NoMemory = ⊥
IsRefusalIn limits Form text TextTooLong = limits.bytes < length text
IsRefusalIn limits Form text (Refused i reason) = (length text ≤ limits.bytes) × IsFirstFaultIn limits Form (tokens text) i reason

-- the whole grammar: every event has a form in it
abbrev pub AnyForm : Event → Type 0
AnyForm e = ⊤

abbrev pub HasReason : Limits → List (List ℕ) → ℕ → Reason → Type 0
HasReason limits ts i reason = HasReasonIn limits AnyForm ts i reason

abbrev pub IsFirstFault : Limits → List (List ℕ) → ℕ → Reason → Type 0
IsFirstFault limits ts i reason = IsFirstFaultIn limits AnyForm ts i reason

abbrev pub IsRefusal : Limits → List ℕ → TextFault → Type 0
IsRefusal limits text fault = IsRefusalIn limits AnyForm text fault

abbrev pub IsAcceptedIn : Limits → (Event → Type 0) → List ℕ → Type 0
IsAcceptedIn limits Form text = (fault : TextFault) → ¬ IsRefusalIn limits Form text fault

abbrev pub IsAccepted : Limits → List ℕ → Type 0
IsAccepted limits text = IsAcceptedIn limits AnyForm text

-- a list of events is well-formed if its canonical text is accepted under the greatest limits
abbrev pub IsWellFormed : List Event → Type 0
IsWellFormed h = IsAccepted greatest (canonical h)
