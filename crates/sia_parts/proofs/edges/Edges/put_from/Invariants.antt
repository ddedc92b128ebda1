-- The rows of the versions so far, of keys whose positions end where the later versions stand or before.
use Rattle.std.specs.Prelude.{◌+◌, ◌<◌, ◌≤◌, ℕ, length, slice_index}
use Rattle.sia_parts.specs.EdgeRows.{Puts, noted_before}
use Rattle.sia_parts.proofs.Shared.Adding.{FromFirst}
use Rattle.sia_parts.proofs.EdgeRows.EdgeLoops.{MadeHere}
use Rattle.sia_parts.proofs.edges.Edges.put_from.Given as goal

abbrev pub invariant-loop-position : goal.invariant-loop-position
invariant-loop-position l = (low : ℕ) × (low ≤ length l.fn.self.readings.now) × ((k : ℕ) → l.position-index ≤ k → k < length l.made → low ≤ slice_index l.made k)
    × Puts (FromFirst (MadeHere l.fn.self l.source) l.made l.position-index) (low + noted_before l.fn.self.readings.now low) l.initial.rows l.rows
