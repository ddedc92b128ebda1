-- What is judged of a history without a look at its edges.
use Rattle.std.specs.Prelude.{◌↔◌, List, IsTrue, ⊤}
use Rattle.sia_events.specs.declared.event.Event.{Event}
use Rattle.sia_events.specs.DangerousStructures.{PassesSsi}
use Rattle.sia_events.specs.Replay.{IsSerializable}
use Rattle.sia_events.specs.Transactions.{IsCommitted}
use Rattle.sia_parts.specs.Entries.{IsEdge}
use Rattle.sia_parts.specs.Findings.{ListsBadReads, ListsBadWrites, ListsUnexplained}
use Rattle.sia_graph.specs.Verdicts.{IsVerdict}
use Rattle.sia_graph.specs.declared.judgement.Judgement.{Judgement}
use Rattle.sia_index.specs.Counting.{AreCounts}

-- each part of it is its definition over the history
pub record IsJudgement (h : List Event) (j : Judgement) : Type 0 where
  pub counts : AreCounts h j.counts
  pub bad_reads : ListsBadReads h (λ _. ⊤) j.bad_reads.items
  pub bad_writes : ListsBadWrites h (λ _. ⊤) j.bad_writes.items
  pub unexplained : ListsUnexplained h (λ _. ⊤) j.unexplained.items
  pub pass : IsTrue j.pass ↔ PassesSsi h
  pub serializable : IsTrue j.serializable ↔ IsSerializable h
  pub verdict : IsVerdict (IsCommitted h) (IsEdge h) j.verdict
