-- What a bad read is called. Aborted reads are G1a of Adya (1999), uncommitted reads the dirty reads P1 of Berenson et al.
-- (1995), future and stale reads Adya's G-SIa and G-SIb; the six as a list, and their order, are this project's own.
use Rattle.std.specs.Prelude.{◌≡◌, ◌≢◌, ◌<◌, ℕ, List, Some, Contains}
use Rattle.sia_events.specs.declared.event.Event.{Event}
use Rattle.sia_events.specs.declared.event.Event.TheVariants.{Begin, Read, Range, Write, Commit, Abort}
use Rattle.sia_events.specs.declared.event.Anomaly.{Anomaly}
use Rattle.sia_events.specs.declared.event.Anomaly.TheVariants.{OwnWriteMissed, AbortedRead, UncommittedRead, FutureRead, Phantom, StaleRead}
use Rattle.sia_events.specs.Places.{at_place}
use Rattle.sia_events.specs.Transactions.{IsAborted, IsOpen, StartsBeforeCommit, WroteBefore}
use Rattle.sia_events.specs.Dependencies.{IsVersionBefore}
use Rattle.sia_events.specs.Isolation.{IsBadRead, IsUnexplained}

-- a range read that doesn't list the key
abbrev pub LeavesOut : Event → ℕ → Type 0
LeavesOut (Begin t start) k = ⊥
LeavesOut (Read t key saw) k = ⊥
LeavesOut (Range t lo hi listed) k = (v : ℕ) → ¬ Contains listed (k, v)
LeavesOut (Write t key) k = ⊥
LeavesOut (Commit t) k = ⊥
LeavesOut (Abort t) k = ⊥

-- what fits a read of k by t at place p that saw one version where another was due
abbrev pub Fits : List Event → ℕ → ℕ → ℕ → ℕ → ℕ → Anomaly → Type 0
Fits h p t k saw due OwnWriteMissed = WroteBefore h t k p
Fits h p t k saw due AbortedRead = IsAborted h saw
Fits h p t k saw due UncommittedRead = IsOpen h saw
Fits h p t k saw due FutureRead = StartsBeforeCommit h t saw
Fits h p t k saw due Phantom = (due ≢ 0) × (e : Event) × (at_place h p ≡ Some e) × LeavesOut e k
Fits h p t k saw due StaleRead = IsVersionBefore h k saw due

-- the anomalies in their order
abbrev pub anomaly_number : Anomaly → ℕ
anomaly_number OwnWriteMissed = 1
anomaly_number AbortedRead = 2
anomaly_number UncommittedRead = 3
anomaly_number FutureRead = 4
anomaly_number Phantom = 5
anomaly_number StaleRead = 6

-- the first that fits
abbrev pub IsNamed : List Event → ℕ → ℕ → ℕ → ℕ → ℕ → Anomaly → Type 0
IsNamed h p t k saw due name = Fits h p t k saw due name × ((other : Anomaly) → anomaly_number other < anomaly_number name → ¬ Fits h p t k saw due other)

-- each bad read has exactly one name, and a read that no serial order explains is a bad read
pub record AnomalyLaw (h : List Event) : Type 0 where
  pub named : (p t k saw due : ℕ) → IsBadRead h p t k saw due → (name : Anomaly) × IsNamed h p t k saw due name
  pub once : (p t k saw due : ℕ) (name other : Anomaly) → IsNamed h p t k saw due name → IsNamed h p t k saw due other → name ≡ other
  pub unexplained : (p t k saw : ℕ) → IsUnexplained h p t k saw → (due : ℕ) × IsBadRead h p t k saw due
