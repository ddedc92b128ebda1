-- The lists so far have the newest of those of their numbers.
use Rattle.std.specs.Prelude.{◌≡◌, ◌<◌, [], ℕ, Contains, length, slice_index_or}
use Rattle.sia_parts.specs.EdgeRows.{IsNewest}
use Rattle.sia_parts.proofs.ordered.newest_of.Given as goal

abbrev pub invariant-loop-reader : goal.invariant-loop-reader
invariant-loop-reader l = (length l.newest ≡ l.reader) × ((u : ℕ) → u < l.reader → IsNewest l.ix (Contains (slice_index_or l.saw u [])) (slice_index_or l.newest u []))
