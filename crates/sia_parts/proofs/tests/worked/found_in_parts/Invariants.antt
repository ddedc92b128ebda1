-- What is found in the parts so far.
use Rattle.std.proofs.Common.{take}
use Rattle.std.specs.List.{AllZip}
use Rattle.sia_parts.specs.Findings.{ArePartFindings}
use Rattle.sia_parts.specs.Gathering.{IsPartFound}
use Rattle.sia_parts.specs.Parts.{IsInPart}
use Rattle.sia_parts.proofs.tests.worked.found_in_parts.Given as goal

abbrev pub invariant-loop-i : goal.invariant-loop-i
invariant-loop-i l =
    AllZip (ArePartFindings l.h) (take l.i l.parts) l.audited.items
    × AllZip (λ part found. IsPartFound l.h (IsInPart part) found) (take l.i l.parts) l.seen.items
