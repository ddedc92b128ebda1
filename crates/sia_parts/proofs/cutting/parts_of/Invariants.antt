-- The parts so far, and those of the starts that are left.
use Rattle.std.proofs.Common.{◌≡◌, ◌≤◌, ◌++◌, drop}
use Rattle.std.specs.Prelude.{All}
use Rattle.sia_parts.specs.Parts.{parts_from}
use Rattle.sia_parts.proofs.cutting.parts_of.Given as goal

abbrev pub invariant-loop-i : goal.invariant-loop-i
invariant-loop-i l = record {
  parts : parts_from l.starts ≡ l.parts.items ++ parts_from (drop l.i l.starts);
  ordered : All (λ part. part.lo ≤ part.hi) l.parts.items;
}
