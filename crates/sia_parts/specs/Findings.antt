-- The findings at some keys: each thing that the definitions name there, once, in order, and nothing else.
use Rattle.std.specs.Prelude.{ℕ, List, ⊤}
use Rattle.sia_events.specs.declared.event.Event.{Event}
use Rattle.sia_events.specs.Lists.{ListsBy}
use Rattle.sia_events.specs.Isolation.{IsBadRead, IsBadWrite, IsUnexplained}
use Rattle.sia_parts.specs.declared.finding.BadRead.{BadRead}
use Rattle.sia_parts.specs.declared.finding.BadWrite.{BadWrite}
use Rattle.sia_parts.specs.declared.finding.Unexplained.{Unexplained}
use Rattle.sia_parts.specs.declared.finding.Edge.{Edge}
use Rattle.sia_parts.specs.declared.cutting.Part.{Part}
use Rattle.sia_parts.specs.declared.finding.Findings.{Findings}
use Rattle.sia_parts.specs.Parts.{IsInPart}
use Rattle.sia_parts.specs.Entries.{IsEdge, bad_read_rank, bad_write_rank, unexplained_rank, edge_rank}

abbrev pub ListsBadReads : List Event → (ℕ → Type 0) → List BadRead → Type 0
ListsBadReads h Within found = ListsBy bad_read_rank (λ b. IsBadRead h b.place b.txn b.key b.saw b.due × Within b.key) found

abbrev pub ListsBadWrites : List Event → (ℕ → Type 0) → List BadWrite → Type 0
ListsBadWrites h Within found = ListsBy bad_write_rank (λ b. IsBadWrite h b.key b.first b.second × Within b.key) found

abbrev pub ListsUnexplained : List Event → (ℕ → Type 0) → List Unexplained → Type 0
ListsUnexplained h Within found = ListsBy unexplained_rank (λ b. IsUnexplained h b.place b.txn b.key b.saw × Within b.key) found

abbrev pub ListsEdges : List Event → (ℕ → Type 0) → List Edge → Type 0
ListsEdges h Within found = ListsBy edge_rank (λ e. IsEdge h e × Within e.key) found

-- at the keys of one part
pub record ArePartFindings (h : List Event) (part : Part) (found : Findings) : Type 0 where
  pub bad_reads : ListsBadReads h (IsInPart part) found.bad_reads.items
  pub bad_writes : ListsBadWrites h (IsInPart part) found.bad_writes.items
  pub unexplained : ListsUnexplained h (IsInPart part) found.unexplained.items
  pub edges : ListsEdges h (IsInPart part) found.edges.items

-- at all keys
pub record AreFindings (h : List Event) (found : Findings) : Type 0 where
  pub bad_reads : ListsBadReads h (λ _. ⊤) found.bad_reads.items
  pub bad_writes : ListsBadWrites h (λ _. ⊤) found.bad_writes.items
  pub unexplained : ListsUnexplained h (λ _. ⊤) found.unexplained.items
  pub edges : ListsEdges h (λ _. ⊤) found.edges.items
