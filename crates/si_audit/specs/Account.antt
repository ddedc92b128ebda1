-- An account: what is found in a history, as plain lists; and when it is that of a history.
use Rattle.std.specs.Prelude.{ℕ, Bool, List, ◌≡◌, ◌↔◌, length, IsTrue, ⊤}
use Rattle.sia_parts.specs.declared.finding.BadRead.{BadRead}
use Rattle.sia_parts.specs.declared.finding.BadWrite.{BadWrite}
use Rattle.sia_parts.specs.declared.finding.Unexplained.{Unexplained}
use Rattle.sia_parts.specs.declared.finding.Edge.{Edge}
use Rattle.sia_graph.specs.declared.pivot.Pivot.{Pivot}
use Rattle.sia_graph.specs.declared.judgement.Verdict.{Verdict}
use Rattle.sia_events.specs.declared.event.Event.{Event}
use Rattle.sia_events.specs.Lists.{CountsAll}
use Rattle.sia_events.specs.Transactions.{IsCommitted, IsAborted, IsOpen}
use Rattle.sia_events.specs.Replay.{IsSerializable}
use Rattle.sia_parts.specs.Entries.{IsEdge}
use Rattle.sia_parts.specs.Findings.{ListsBadReads, ListsBadWrites, ListsUnexplained, ListsEdges}
use Rattle.sia_events.specs.DangerousStructures.{PassesSsi}
use Rattle.sia_graph.specs.Pivots.{ArePivots}
use Rattle.sia_graph.specs.Verdicts.{IsVerdict}
use Rattle.sia_graph.specs.declared.judgement.Judgement.{Judgement}
use Rattle.si_audit.specs.declared.account.Audit.{Audit}

pub record Account : Type 0 where
  pub events : ℕ
  pub committed : ℕ
  pub aborted : ℕ
  pub unfinished : ℕ
  pub bad_reads : List BadRead
  pub bad_writes : List BadWrite
  pub unexplained : List Unexplained
  pub edges : List Edge
  pub pivots : List Pivot
  pub pass : Bool
  pub serializable : Bool
  pub verdict : Verdict

-- each line of the account is its definition over the history
pub record IsAccount (h : List Event) (a : Account) : Type 0 where
  pub events : a.events ≡ length h
  pub committed : CountsAll (IsCommitted h) a.committed
  pub aborted : CountsAll (IsAborted h) a.aborted
  pub unfinished : CountsAll (IsOpen h) a.unfinished
  pub bad_reads : ListsBadReads h (λ _. ⊤) a.bad_reads
  pub bad_writes : ListsBadWrites h (λ _. ⊤) a.bad_writes
  pub unexplained : ListsUnexplained h (λ _. ⊤) a.unexplained
  pub edges : ListsEdges h (λ _. ⊤) a.edges
  pub pivots : ArePivots h a.pivots
  pub pass : IsTrue a.pass ↔ PassesSsi h
  pub serializable : IsTrue a.serializable ↔ IsSerializable h
  pub verdict : IsVerdict (IsCommitted h) (IsEdge h) a.verdict

-- an audit without where its lists lie in memory
abbrev pub account_of : Audit → Account
account_of a = record {
  events = a.events;
  committed = a.committed;
  aborted = a.aborted;
  unfinished = a.unfinished;
  bad_reads = a.findings.bad_reads.items;
  bad_writes = a.findings.bad_writes.items;
  unexplained = a.findings.unexplained.items;
  edges = a.findings.edges.items;
  pivots = a.pivots.items;
  pass = a.pass;
  serializable = a.serializable;
  verdict = a.verdict;
}

-- the account that a judgement is with these edges and pivots
abbrev pub account_with : Judgement → List Edge → List Pivot → Account
account_with j edges pivots = record {
  events = j.counts.events;
  committed = j.counts.committed;
  aborted = j.counts.aborted;
  unfinished = j.counts.unfinished;
  bad_reads = j.bad_reads.items;
  bad_writes = j.bad_writes.items;
  unexplained = j.unexplained.items;
  edges = edges;
  pivots = pivots;
  pass = j.pass;
  serializable = j.serializable;
  verdict = j.verdict;
}
