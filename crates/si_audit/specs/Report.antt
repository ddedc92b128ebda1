-- The report of a text.
use Rattle.std.specs.Prelude.{◌≡◌, ◌⊎◌, ◌≢◌, ℕ, List, [], ◌++◌, All, ⊤}
use Rattle.sia_events.specs.Limits.{Limits, AreWithin}
use Rattle.sia_events.specs.declared.event.Event.{Event}
use Rattle.sia_events.specs.declared.fault.TextFault.{TextFault}
use Rattle.sia_events.specs.Text.{StandsFor}
use Rattle.sia_events.specs.Refusals.{IsRefusal, IsAccepted}
use Rattle.sia_graph.specs.declared.judgement.Verdict.{Verdict}
use Rattle.sia_graph.specs.declared.judgement.Verdict.TheVariants.{Order, Cycle}
use Rattle.si_audit.specs.declared.options.Form.{Form}
use Rattle.si_audit.specs.Account.{Account, IsAccount}
use Rattle.si_audit.specs.declared.options.Form.TheVariants.{Full, Brief, Explained}
use Rattle.si_audit.specs.Explained.{IsExplained}
use Rattle.si_audit.specs.Lines.{refusal_line, report_text}
use Rattle.si_audit.specs.RefusedPlaces.{TellsToken}

-- a cycle has a step
abbrev pub HasStep : Verdict → Type 0
HasStep (Order order) = ⊤
HasStep (Cycle steps) = steps ≢ []

pub record CanBePrinted (a : Account) : Type 0 where
  pub steps : HasStep a.verdict
  pub neighbours : All (λ p. (p.ins ≢ []) × (p.outs ≢ [])) a.pivots

-- what this form tells of a refused text
abbrev pub TellsRefusal : Form → List ℕ → TextFault → List ℕ → Type 0
TellsRefusal Full text fault bytes = bytes ≡ refusal_line fault
TellsRefusal Brief text fault bytes = bytes ≡ refusal_line fault
TellsRefusal Explained text fault bytes = (place : List ℕ) × TellsToken text fault place × (bytes ≡ refusal_line fault ++ place)

-- what it tells of the account of a history
abbrev pub TellsAccount : Form → List Event → Account → List ℕ → Type 0
TellsAccount Full h a bytes = bytes ≡ report_text Full a
TellsAccount Brief h a bytes = bytes ≡ report_text Brief a
TellsAccount Explained h a bytes = IsExplained h a bytes

-- what this form tells of a text that the limits refuse, or of the account of the history that an accepted one stands for
abbrev pub IsReport : Limits → Form → List ℕ → List ℕ → Type 0
IsReport limits form text bytes = ((fault : TextFault) × IsRefusal limits text fault × TellsRefusal form text fault bytes)
    ⊎ ((h : List Event) × (a : Account) × IsAccepted limits text × StandsFor text h × IsAccount h a × TellsAccount form h a bytes)

-- there is no other report of the text in this form
abbrev pub OneReport : Limits → Form → List ℕ → Type 0
OneReport limits form text = (bytes : List ℕ) (others : List ℕ) → IsReport limits form text bytes → IsReport limits form text others → bytes ≡ others

-- the report of a text that some limits accept is its report under all greater ones
abbrev pub HasSameReport : Form → List ℕ → Type 0
HasSameReport form text = (limits others : Limits) (bytes : List ℕ) → AreWithin limits others → IsAccepted limits text → IsReport limits form text bytes → IsReport others form text bytes
