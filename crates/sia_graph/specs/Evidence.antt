-- What the verdict on a history rests on.
use Rattle.std.specs.Prelude.{⊤}
use Rattle.sia_events.specs.Refusals.{IsWellFormed}
use Rattle.sia_parts.specs.Accesses.{AreAccesses}
use Rattle.sia_graph.specs.declared.evidence.Evidence.{Evidence}

-- an index, and all that the committed transactions of its history saw
pub record IsEvidence (e : Evidence) : Type 0 where
  pub well_formed : IsWellFormed e.index.now
  pub accesses : AreAccesses e.index.now (λ _. ⊤) e.accesses.now
