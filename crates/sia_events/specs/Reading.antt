-- What reading a text may answer.
use Rattle.std.specs.Prelude.{ℕ, List, Result, Ok, Err, ⊤}
use Rattle.sia_events.specs.Limits.{Limits}
use Rattle.sia_events.specs.declared.event.Event.{Event}
use Rattle.sia_events.specs.declared.fault.TextFault.{TextFault}
use Rattle.sia_events.specs.declared.fault.TextFault.TheVariants.{NoMemory, TextTooLong, Refused}
use Rattle.sia_events.specs.Text.{StandsFor}
use Rattle.sia_events.specs.Refusals.{IsRefusal, IsAccepted}

-- an accepted text reads as the history that it stands for, a refused one as its refusal. Memory may run out
abbrev pub ReadsAs : Limits → List ℕ → Result (List Event) TextFault → Type 0
ReadsAs limits text (Ok h) = IsAccepted limits text × StandsFor text h
ReadsAs limits text (Err NoMemory) = ⊤
ReadsAs limits text (Err TextTooLong) = IsRefusal limits text TextTooLong
ReadsAs limits text (Err (Refused token reason)) = IsRefusal limits text (Refused token reason)
