-- What is wrong with the transaction of a version that was seen.
use Rattle.std.specs.Prelude.{◌<◌, ℕ, List}
use Rattle.sia_events.specs.declared.event.Anomaly.{Anomaly}
use Rattle.sia_events.specs.declared.event.Anomaly.TheVariants.{OwnWriteMissed, AbortedRead, UncommittedRead, FutureRead, Phantom, StaleRead}
use Rattle.sia_events.specs.declared.event.Event.{Event}
use Rattle.sia_events.specs.Transactions.{CommitsAt, IsAborted, IsOpen}

-- it aborted, it is open, or it committed after this start
abbrev pub IsWrong : List Event → ℕ → ℕ → Anomaly → Type 0
IsWrong h saw start OwnWriteMissed = ⊥
IsWrong h saw start AbortedRead = IsAborted h saw
IsWrong h saw start UncommittedRead = IsOpen h saw
IsWrong h saw start FutureRead = (c : ℕ) × CommitsAt h saw c × (start < c)
IsWrong h saw start Phantom = ⊥
IsWrong h saw start StaleRead = ⊥
