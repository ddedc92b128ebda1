-- What a text is answered, from what its history or its fault is.
use Rattle.std.proofs.Common.{◌≢◌, inr, ℕ, List, Err, refl, ◌≡◌, ◌++◌}
use Rattle.sia_events.specs.Limits.{Limits}
use Rattle.sia_events.specs.declared.event.Event.{Event}
use Rattle.sia_events.specs.Text.{StandsFor}
use Rattle.sia_events.specs.declared.fault.TextFault.{TextFault}
use Rattle.sia_events.specs.declared.fault.TextFault.TheVariants.{NoMemory, TextTooLong, Refused}
use Rattle.sia_events.specs.Reading.{ReadsAs}
use Rattle.sia_events.specs.Refusals.{IsAccepted, IsRefusal}
use Rattle.si_audit.specs.declared.engine.Outcome.{Outcome}
use Rattle.si_audit.specs.declared.engine.Outcome.TheVariants.{Clean, Faulty, Refused}
use Rattle.si_audit.specs.declared.options.Form.{Form}
use Rattle.si_audit.specs.declared.options.Level.{Level}
use Rattle.si_audit.specs.Engine.{IsOutcomeOf, IsReportOf}
use Rattle.si_audit.specs.Outcomes.{IsOutcome}
use Rattle.si_audit.specs.Report.{IsReport, TellsRefusal}
use Rattle.si_audit.specs.declared.options.Form.TheVariants.{Full, Brief, Explained}
use Rattle.si_audit.specs.Lines.{refusal_line}
use Rattle.si_audit.specs.RefusedPlaces.{TellsToken}

module _ (limits : Limits) (text : List ℕ) (h : List Event) where
  pub report_of_text : (form : Form) (bytes : List ℕ) → IsAccepted limits text → StandsFor text h → IsReportOf form h bytes → IsReport limits form text bytes
  report_of_text form bytes accepted stands is = inr (h, is.0, accepted, stands, is.1, is.2)

  pub outcome_of_text : (level : Level) (outcome : Outcome) → IsAccepted limits text → StandsFor text h → IsOutcomeOf level h outcome → IsOutcome limits level text outcome
  outcome_of_text level Refused accepted stands is = absurd is
  outcome_of_text level Clean accepted stands is = (h, accepted, stands, is)
  outcome_of_text level Faulty accepted stands is = (h, accepted, stands, is)

-- a text that reads as a fault other than want of memory has this refusal
pub refusal_of : (limits : Limits) (text : List ℕ) (fault : TextFault) → fault ≢ NoMemory → ReadsAs limits text (Err fault) → IsRefusal limits text fault
refusal_of limits text NoMemory other reads = absurd (other refl)
refusal_of limits text TextTooLong other reads = reads
refusal_of limits text (Refused token reason) other reads = reads

-- the explained one the place, too
pub told_of_explained : (form : Form) (text : List ℕ) (fault : TextFault) (place bytes : List ℕ) → form ≡ Explained → TellsToken text fault place → bytes ≡ refusal_line fault ++ place → TellsRefusal form text fault bytes
told_of_explained Explained text fault place bytes is told all = (place, told, all)
told_of_explained Full text fault place bytes is told all = absurd (cc)
told_of_explained Brief text fault place bytes is told all = absurd (cc)

-- the others the line alone
pub told_of_others : (form : Form) (text : List ℕ) (fault : TextFault) (bytes : List ℕ) → form ≢ Explained → bytes ≡ refusal_line fault → TellsRefusal form text fault bytes
told_of_others Full text fault bytes is_not all = all
told_of_others Brief text fault bytes is_not all = all
told_of_others Explained text fault bytes is_not all = absurd (is_not refl)
