-- The reads of a history by their transactions.
use Rattle.std.specs.Prelude.{◌≡◌, ◌↔◌, ◌==◌, ℕ, List, Some, Contains, if◌then◌else◌}
use Rattle.sia_events.specs.declared.event.Event.{Event}
use Rattle.sia_events.specs.declared.event.Event.TheVariants.{Begin, Read, Range, Write, Commit, Abort}
use Rattle.sia_events.specs.Events.{actor}
use Rattle.sia_events.specs.Places.{at_place}
use Rattle.sia_parts.specs.Grouped.{RiseBy}
use Rattle.sia_parts.specs.declared.reasons.Act.{Act}

-- a read stands under its key, and a range read of several keys under the greatest key that there is; what reads nothing
-- stands nowhere
abbrev pub IsUnder : Event → ℕ → Type 0
IsUnder (Begin t start) key = ⊥
IsUnder (Read t k v) key = key ≡ k
IsUnder (Range t lo hi listed) key = key ≡ (if lo == hi then lo else 18446744073709551615)
IsUnder (Write t k) key = ⊥
IsUnder (Commit t) key = ⊥
IsUnder (Abort t) key = ⊥

-- a read of its transaction, with its place
abbrev pub IsAct : List Event → Act → Type 0
IsAct h act = (e : Event) × (at_place h act.place ≡ Some e) × (actor e ≡ act.txn) × IsUnder e act.key

-- of transaction t these are the reads, and all of these stand by transaction and key
pub record HasActs (h : List Event) (t : ℕ) (acts : List Act) : Type 0 where
  pub rise : RiseBy (λ act. act.txn) (λ act. act.key) acts
  pub each : (act : Act) → act.txn ≡ t → Contains acts act ↔ IsAct h act
