-- What is found in the parts of a history.
use Rattle.std.specs.Prelude.{ℕ, List, IfSome}
use Rattle.std.specs.List.{slice_get}
use Rattle.sia_events.specs.declared.event.Event.{Event}
use Rattle.sia_parts.specs.declared.cutting.Part.{Part}
use Rattle.sia_parts.specs.declared.finding.PartFound.{PartFound}
use Rattle.sia_parts.specs.Gathering.{IsPartFound}
use Rattle.sia_parts.specs.Parts.{IsInPart}

-- what is found at the keys of the part with this number, if there is such a part
abbrev pub IsFoundAt : List Event → List Part → ℕ → PartFound → Type 0
IsFoundAt h parts number found = IfSome (slice_get parts number) (λ part. IsPartFound h (IsInPart part) found)
