-- The serial replay of a worked history, and what is found in it.
use Rattle.std.proofs.Common.{◌≡◌, [], ◌∷◌, refl}
use Rattle.sia_events.specs.declared.event.Event.TheVariants.{Read, Write, Commit}
use Rattle.sia_events.specs.Replay.{serial, found_at}
use Rattle.sia_events.proofs.Worked.WorkedEdges.{read_during_change}

-- the reader before what changes its keys
reader_first : serial read_during_change (2 ∷ 1 ∷ []) ≡ (3, Read 2 1 0) ∷ (4, Read 2 2 0) ∷ (5, Commit 2) ∷ (1, Read 1 1 0) ∷ (2, Write 1 1) ∷ (6, Read 1 2 0) ∷ (7, Write 1 2) ∷ (8, Commit 1) ∷ []
reader_first = refl

-- in the other order the second read of 2 finds the version of 1
found_after_change : found_at (serial read_during_change (1 ∷ 2 ∷ [])) 6 1 ≡ 1
found_after_change = refl
