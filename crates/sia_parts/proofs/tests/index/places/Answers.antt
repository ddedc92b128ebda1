-- The written keys ascend.
use Rattle.std.proofs.Common.{ℕ}
use Rattle.sia_index.proofs.Shared.Ordered.{ascends, rises}
use Rattle.sia_parts.proofs.tests.index.places.Goals as goal

pub place_from_near-found-requires : goal.place_from_near-found-requires
place_from_near-found-requires g c = rises (λ (k : ℕ). k) _ (ascends (λ (k : ℕ). k) _ _ c.written_keys-keys.ensures)
