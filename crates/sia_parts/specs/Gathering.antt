-- What was found at the keys of a part, and at all keys.
use Rattle.std.specs.Prelude.{ℕ, List, ⊤}
use Rattle.sia_events.specs.declared.event.Event.{Event}
use Rattle.sia_parts.specs.declared.finding.PartFound.{PartFound}
use Rattle.sia_parts.specs.declared.finding.Gathering.{Gathering}
use Rattle.sia_parts.specs.Accesses.{AreAccesses, AreSights}
use Rattle.sia_parts.specs.Findings.{ListsBadReads, ListsBadWrites, ListsUnexplained}

-- what is found at these keys
pub record IsPartFound (h : List Event) (Within : ℕ → Type 0) (found : PartFound) : Type 0 where
  pub bad_reads : ListsBadReads h Within found.bad_reads.items
  pub bad_writes : ListsBadWrites h Within found.bad_writes.items
  pub unexplained : ListsUnexplained h Within found.unexplained.items
  pub sights : AreSights h Within found.saw found.missed

-- what is found at all keys
pub record IsGathering (h : List Event) (g : Gathering) : Type 0 where
  pub bad_reads : ListsBadReads h (λ _. ⊤) g.bad_reads.items
  pub bad_writes : ListsBadWrites h (λ _. ⊤) g.bad_writes.items
  pub unexplained : ListsUnexplained h (λ _. ⊤) g.unexplained.items
  pub accesses : AreAccesses h (λ _. ⊤) g.accesses
