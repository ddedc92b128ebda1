-- The laws of histories, as statements.
use Rattle.std.specs.Prelude.{◌≡◌, ◌⊎◌, ◌↔◌, ℕ, ◌+◌, ◌≤◌, List, length, Contains, Some, None, Result, Ok, Err}
use Rattle.sia_events.specs.Limits.{Limits, AreWithin}
use Rattle.sia_events.specs.declared.event.Event.{Event}
use Rattle.sia_events.specs.declared.fault.Reason.TheVariants.{BadEvent}
use Rattle.sia_events.specs.declared.fault.TextFault.{TextFault}
use Rattle.sia_events.specs.declared.fault.TextFault.TheVariants.{NoMemory, Refused}
use Rattle.sia_events.specs.Places.{at_place}
use Rattle.sia_events.specs.Events.{named_start}
use Rattle.sia_events.specs.Text.{spell, tokens, canonical, StandsFor}
use Rattle.sia_events.specs.Refusals.{IsRefusal, IsRefusalIn, IsAccepted, IsAcceptedIn, IsWellFormed}
use Rattle.sia_events.specs.Reading.{ReadsAs}
use Rattle.sia_events.specs.Transactions.{Wrote, StartsAt, IsFirstEvent}
use Rattle.sia_events.specs.Isolation.{IsolationKept, IsBadRead, IsBadWrite, IsUnexplained, NoneUnexplained}
use Rattle.sia_events.specs.Dependencies.{WwEdge, WrEdge, RwEdge, HasEdge}
use Rattle.sia_events.specs.NarrowDependencies.{HasNarrowEdge}
use Rattle.sia_events.specs.Closures.{HaveSameClosure}
use Rattle.sia_events.specs.DangerousStructures.{NoPivot, PassesSsi}
use Rattle.sia_events.specs.Replay.{IsOrder, Keeps, Replays, IsSerializable}

-- the replay law: an order replays the history exactly where it keeps every edge and no read is unexplained
abbrev pub ReplayLaw : List Event → Type 0
ReplayLaw h = (order : List ℕ) → IsOrder h order → Replays h order ↔ (Keeps (HasEdge h) order × NoneUnexplained h)

-- every read is explained, some order keeps every edge, and some order replays the history
pub record HasSerialOrder (h : List Event) : Type 0 where
  pub explained : NoneUnexplained h
  pub kept : (order : List ℕ) × IsOrder h order × Keeps (HasEdge h) order
  pub serializable : IsSerializable h

-- the law of serializable snapshot isolation: what passes its test has a serial order (Cahill et al. 2008)
abbrev pub SsiLaw : List Event → Type 0
SsiLaw h = PassesSsi h → HasSerialOrder h

-- its plain form: isolation kept and no pivot at all (Fekete et al. 2005)
abbrev pub PivotLaw : List Event → Type 0
PivotLaw h = IsolationKept h → NoPivot h → HasSerialOrder h

-- a text stands for one history at most
abbrev pub OneHistory : List ℕ → Type 0
OneHistory text = (h others : List Event) → StandsFor text h → StandsFor text others → h ≡ others

-- a text has one refusal at most
abbrev pub OneRefusal : Limits → List ℕ → Type 0
OneRefusal limits text = (fault other : TextFault) → IsRefusal limits text fault → IsRefusal limits text other → fault ≡ other

-- an accepted text stands for a history, which is well-formed
abbrev pub HasHistory : Limits → List ℕ → Type 0
HasHistory limits text = IsAccepted limits text → (h : List Event) × StandsFor text h × IsWellFormed h

-- what some limits accept, greater ones accept
abbrev pub GreaterLimitsAccept : List ℕ → Type 0
GreaterLimitsAccept text = (limits others : Limits) → AreWithin limits others → IsAccepted limits text → IsAccepted others text

-- a canonical text stands for its history, is no longer than another text of it, and is that of no other history
pub record CanonicalLaw (h : List Event) : Type 0 where
  pub stands : StandsFor (canonical h) h
  pub shortest : (text : List ℕ) → StandsFor text h → length (canonical h) ≤ length text
  pub one : (others : List Event) → canonical h ≡ canonical others → h ≡ others

-- reading what was written gives the history back: what may be read from the canonical text is this history, want of memory
-- aside
abbrev pub RoundTrip : Limits → List Event → Type 0
RoundTrip limits h = (answer : Result (List Event) TextFault) → ReadsAs limits (canonical h) answer → (answer ≡ Ok h) ⊎ (answer ≡ Err NoMemory)

-- a key that no write event names has no bad read, no bad write, no edge and no unexplained read
pub record HasNoEntry (h : List Event) (k : ℕ) : Type 0 where
  pub bad_reads : (p t saw due : ℕ) → ¬ IsBadRead h p t k saw due
  pub bad_writes : (first second : ℕ) → ¬ IsBadWrite h k first second
  pub ww : (t u : ℕ) → ¬ WwEdge h t u k
  pub wr : (t u : ℕ) → ¬ WrEdge h t u k
  pub rw : (t u : ℕ) → ¬ RwEdge h t u k
  pub unexplained : (p t v : ℕ) → ¬ IsUnexplained h p t k v

abbrev pub UnwrittenLaw : List Event → Type 0
UnwrittenLaw h = (k : ℕ) → ((t : ℕ) → ¬ Wrote h t k) → HasNoEntry h k

-- the grammar without named starts
abbrev pub IsPlain : Event → Type 0
IsPlain e = named_start e ≡ None

-- token number i has the form of a named start
abbrev pub NamesStart : List ℕ → ℕ → Type 0
NamesStart text i = (e : Event) × ¬ IsPlain e × (at_place (tokens text) i ≡ Some (spell e))

-- t starts right before its first event
abbrev pub StartsPlainly : List Event → ℕ → ℕ → Type 0
StartsPlainly h t s = (e : Event) × IsFirstEvent h t (s + 1) e

-- named starts only add: what the grammar without them accepts is accepted, as the same history with the same starts, and
-- what it refuses is refused alike, unless the faulty token has the form of a named start
pub record NamedStartsOnlyAdd (limits : Limits) (text : List ℕ) : Type 0 where
  pub accepted : IsAcceptedIn limits IsPlain text → IsAccepted limits text
  pub starts : IsAcceptedIn limits IsPlain text → (h : List Event) → StandsFor text h
      → (t s : ℕ) → StartsAt h t s ↔ StartsPlainly h t s
  pub refused : (fault : TextFault) → IsRefusalIn limits IsPlain text fault
      → IsRefusal limits text fault ⊎ ((i : ℕ) × (fault ≡ Refused i BadEvent) × NamesStart text i)

-- narrow edges are edges, and have the closure of all edges; so have pairs that hold each narrow edge, and edges alone
pub record NarrowLaw (h : List Event) : Type 0 where
  pub edges : (t u : ℕ) → HasNarrowEdge h t u → HasEdge h t u
  pub closure : HaveSameClosure (HasNarrowEdge h) (HasEdge h)
  pub between : (pairs : List (ℕ × ℕ)) → ((t u : ℕ) → HasNarrowEdge h t u → Contains pairs (t, u)) → ((t u : ℕ) → Contains pairs (t, u) → HasEdge h t u)
      → HaveSameClosure (λ t u. Contains pairs (t, u)) (HasEdge h)
