-- What an auditor was fed, and what a run answers to one history.
use Rattle.std.specs.Prelude.{◌≡◌, ◌++◌, ℕ, List, [], Option, None, Some}
use Rattle.sia_events.specs.Limits.{Limits}
use Rattle.si_audit.specs.declared.options.Form.TheVariants.{Explained}
use Rattle.si_audit.specs.declared.engine.Auditor.{Auditor}
use Rattle.si_audit.specs.declared.engine.Outcome.{Outcome}
use Rattle.si_audit.specs.Options.{Choices}
use Rattle.si_audit.specs.Outcomes.{IsOutcome, Meets}
use Rattle.si_audit.specs.Report.{IsReport, TellsAccount}
use Rattle.si_audit.specs.declared.answer.Answer.{Answer}
use Rattle.si_audit.specs.EdgeLines.{AreEdgeLines}
use Rattle.si_audit.specs.PivotLines.{ArePivotLines}
use Rattle.sia_events.specs.declared.event.Event.{Event}
use Rattle.si_audit.specs.declared.engine.Outcome.TheVariants.{Clean, Faulty, Refused}
use Rattle.si_audit.specs.declared.options.Form.{Form}
use Rattle.si_audit.specs.declared.options.Level.{Level}
use Rattle.si_audit.specs.Account.{Account, IsAccount}
use Rattle.sia_events.specs.Locating.{Located, StandsForLocated}
use Rattle.sia_events.specs.Streaming.{Progress, StandsForRead}

-- the reader stands for the text, and so does the locator if it is wanted
abbrev pub IsReceived : Limits → Type 0 → Located → Progress → List ℕ → Type 0
IsReceived limits IsWanted l r text = StandsForRead limits r text × (IsWanted → StandsForLocated limits l r text)

-- the auditor goes by these options, and was fed this text under these limits
pub record IsFed (limits : Limits) (o : Choices) (a : Auditor) (text : List ℕ) : Type 0 where
  pub options : a.options.now ≡ o
  pub received : IsReceived limits (o.form ≡ Explained) a.locator a.text text

-- the lines of all edges of the history and behind them those of all pivots, if there is one
abbrev pub AreLinesOf : Option (List Event) → List ℕ → Type 0
AreLinesOf None lines = lines ≡ []
AreLinesOf (Some h) lines = (edges : List ℕ) × (pivots : List ℕ) × AreEdgeLines h edges × ArePivotLines h pivots × (lines ≡ edges ++ pivots)

-- the bytes of a report
abbrev pub HasText : Answer → List ℕ → Type 0
HasText a bytes = (lines : List ℕ) × AreLinesOf a.found lines × (bytes ≡ a.front.items ++ lines ++ a.back.items)

-- its report is that of whatever text the auditor was fed, in the form of its options
abbrev pub TellsFed : Auditor → Answer → Type 0
TellsFed a r = (limits : Limits) (o : Choices) (text : List ℕ) → IsFed limits o a text → (bytes : List ℕ) × IsReport limits o.form text bytes × HasText r bytes

-- and so the run over it ends, at their level
abbrev pub EndsFed : Auditor → Answer → Type 0
EndsFed a r = (limits : Limits) (o : Choices) (text : List ℕ) → IsFed limits o a text → IsOutcome limits o.level text r.outcome

-- how a run over this history ends
abbrev pub IsOutcomeOf : Level → List Event → Outcome → Type 0
IsOutcomeOf level h Refused = ⊥
IsOutcomeOf level h Clean = Meets level h
IsOutcomeOf level h Faulty = ¬ Meets level h

-- the bytes are what the form tells of its account
abbrev pub IsReportOf : Form → List Event → List ℕ → Type 0
IsReportOf form h bytes = (a : Account) × IsAccount h a × TellsAccount form h a bytes
