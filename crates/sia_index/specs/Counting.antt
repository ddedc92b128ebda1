-- The transactions of a history by how they ended, and how many there are.
use Rattle.std.specs.Prelude.{◌≡◌, List, length}
use Rattle.sia_events.specs.declared.event.Event.{Event}
use Rattle.sia_events.specs.Lists.{CountsAll}
use Rattle.sia_events.specs.Transactions.{IsCommitted, IsAborted, IsOpen}
use Rattle.sia_index.specs.declared.info.Counts.{Counts}

-- how many events there are, which transactions committed, and how many aborted or are open
pub record AreCounts (h : List Event) (n : Counts) : Type 0 where
  pub events : n.events ≡ length h
  pub committed : CountsAll (IsCommitted h) n.committed
  pub aborted : CountsAll (IsAborted h) n.aborted
  pub unfinished : CountsAll (IsOpen h) n.unfinished
