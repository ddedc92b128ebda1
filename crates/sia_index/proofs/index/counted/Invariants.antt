-- The transactions so far are counted, and none of the counts is above their number.
use Rattle.std.proofs.Common.{◌≡◌, ◌≤◌, length}
use Rattle.sia_events.specs.Lists.{CountsAll}
use Rattle.sia_events.specs.Transactions.{IsCommitted, IsAborted, IsOpen}
use Rattle.sia_index.proofs.Answering.Tallies.{IsEarly}
use Rattle.sia_index.proofs.index.counted.Given as goal

abbrev pub invariant-loop-number : goal.invariant-loop-number
invariant-loop-number l = record {
  events : l.counts.events ≡ length l.log;
  few : (l.counts.committed ≤ l.number) × (l.counts.aborted ≤ l.number) × (l.counts.unfinished ≤ l.number);
  committed : CountsAll (IsEarly l.log (IsCommitted l.log) l.number) l.counts.committed;
  aborted : CountsAll (IsEarly l.log (IsAborted l.log) l.number) l.counts.aborted;
  unfinished : CountsAll (IsEarly l.log (IsOpen l.log) l.number) l.counts.unfinished;
}
