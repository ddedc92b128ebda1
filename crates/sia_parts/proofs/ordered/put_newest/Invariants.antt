-- The new list has the newest of the last positions.
use Rattle.std.specs.Prelude.{◌≡◌, ◌++◌, ◌∷◌, [], ℕ, List}
use Rattle.sia_parts.specs.EdgeRows.{IsNewest}
use Rattle.sia_parts.proofs.EdgeRows.EdgeLoops.{StandsFrom}
use Rattle.sia_parts.proofs.ordered.put_newest.Given as goal

abbrev pub invariant-loop-i : goal.invariant-loop-i
invariant-loop-i l = (list : List ℕ) × (l.newest ≡ l.fn.newest ++ list ∷ []) × IsNewest l.ix (StandsFrom l.saw l.i) list
