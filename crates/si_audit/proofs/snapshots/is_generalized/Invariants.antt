use Rattle.std.proofs.Common.{◌≡◌, ℕ, ◌<◌, Some, slice_get}
use Rattle.sia_events.specs.Numbering.{txns_of}
use Rattle.si_audit.specs.Snapshots.{IsSnapshot}
use Rattle.si_audit.proofs.snapshots.is_generalized.Given as goal

abbrev pub invariant-loop-number : goal.invariant-loop-number
invariant-loop-number l = (k t : ℕ) → k < l.number → slice_get (txns_of l.log) k ≡ Some t → (n : ℕ) × IsSnapshot l.log t n
