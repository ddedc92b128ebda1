-- The laws of reports and outcomes, as statements.
use Rattle.std.specs.Prelude.{◌≡◌, ◌==◌, ◌⊎◌, ◌↔◌, ◌≤◌, ℕ, Bool, not, eqb, if◌then◌else◌, IsTrue, List, [], ◌∷◌, ◌++◌, filter, Contains, codes}
use Rattle.std.specs.List.{concat, list_any, starts_with}
use Rattle.sia_events.specs.Limits.{Limits}
use Rattle.sia_events.specs.declared.event.Event.{Event}
use Rattle.sia_events.specs.declared.fault.TextFault.{TextFault}
use Rattle.sia_events.specs.Laws.{IsPlain, NamesStart, StartsPlainly}
use Rattle.sia_events.specs.Refusals.{IsAccepted, IsAcceptedIn, IsRefusalIn}
use Rattle.sia_events.specs.Text.{StandsFor}
use Rattle.sia_events.specs.Isolation.{IsolationKept}
use Rattle.sia_events.specs.Transactions.{HasEvent, StartsAt}
use Rattle.si_audit.specs.SnapshotLines.{TellsNone}
use Rattle.si_audit.specs.Snapshots.{Fits, FitsStart, IsSnapshot}
use Rattle.si_audit.specs.Account.{Account, IsAccount}
use Rattle.si_audit.specs.declared.options.Form.{Form}
use Rattle.si_audit.specs.declared.options.Form.TheVariants.{Full, Brief, Explained}
use Rattle.si_audit.specs.declared.options.Level.{Level}
use Rattle.si_audit.specs.declared.options.Level.TheVariants.{Serializable, Ssi, Si, Gsi}
use Rattle.si_audit.specs.declared.engine.Outcome.TheVariants.{Clean, Faulty, Refused}
use Rattle.si_audit.specs.Outcomes.{IsOutcome, Meets}
use Rattle.si_audit.specs.Report.{IsReport, TellsAccount, TellsRefusal}

-- a history that meets the level ssi meets serializable and si, one that meets serializable meets si, and one that meets si meets gsi
pub record LevelsLaw (h : List Event) : Type 0 where
  pub ssi : Meets Ssi h → Meets Serializable h × Meets Si h
  pub serializable : Meets Serializable h → Meets Si h
  pub si : Meets Si h → Meets Gsi h

-- the same of how a run over a text ends
pub record CleanLaw (limits : Limits) (text : List ℕ) : Type 0 where
  pub ssi : IsOutcome limits Ssi text Clean → IsOutcome limits Serializable text Clean × IsOutcome limits Si text Clean
  pub serializable : IsOutcome limits Serializable text Clean → IsOutcome limits Si text Clean
  pub si : IsOutcome limits Si text Clean → IsOutcome limits Gsi text Clean

-- isolation is kept exactly if the recorded start of each transaction fits it; such a start is a snapshot, taken before the transaction
-- reads or writes; the snapshots that fit a transaction are an interval; and where none does there is something to tell why
pub record SnapshotsLaw (h : List Event) : Type 0 where
  pub kept : IsolationKept h ↔ ((t : ℕ) → HasEvent h t → FitsStart h t)
  pub start : (t s : ℕ) → StartsAt h t s → Fits h t s → IsSnapshot h t s
  pub interval : (t from n to : ℕ) → IsSnapshot h t from → IsSnapshot h t to → from ≤ n → n ≤ to → IsSnapshot h t n
  pub none : (t : ℕ) → HasEvent h t → ((n : ℕ) → ¬ IsSnapshot h t n) → (why : List ℕ) × TellsNone h t why

-- a byte at the front of the first line
abbrev pub onto_line : ℕ → List (List ℕ) → List (List ℕ)
onto_line c [] = (c ∷ []) ∷ []
onto_line c (l ∷ ls) = (c ∷ l) ∷ ls

-- a byte before these lines: LF is a line that ends there
abbrev pub before_lines : ℕ → List (List ℕ) → List (List ℕ)
before_lines c ls = if c == 10 then (c ∷ []) ∷ ls else onto_line c ls

-- the lines of some bytes, each with the LF that ends it
abbrev pub lines_of : List ℕ → List (List ℕ)
lines_of [] = []
lines_of (c ∷ cs) = before_lines c (lines_of cs)

-- whether a line begins with one of these
abbrev pub begins : List (List ℕ) → List ℕ → Bool
begins words l = list_any (λ w. starts_with eqb l w) words

-- the bytes without the lines that do
abbrev pub without : List (List ℕ) → List ℕ → List ℕ
without words bytes = concat (filter (λ l. not (begins words l)) (lines_of bytes))

-- the brief report of a text is the full one without its lines `edge` and `pivot`, and the explained one without the lines
-- `dangerous` and `snapshot` and those of reasons, which begin with two spaces
pub record FormsLaw (limits : Limits) (text : List ℕ) : Type 0 where
  pub full : (full brief : List ℕ) → IsReport limits Full text full → IsReport limits Brief text brief → brief ≡ without (codes "edge " ∷ codes "pivot " ∷ []) full
  pub explained : (explained brief : List ℕ) → IsReport limits Explained text explained → IsReport limits Brief text brief → brief ≡ without (codes "dangerous " ∷ codes "snapshot " ∷ codes "  " ∷ []) explained

-- the bytes have this line
abbrev pub HasLine : List ℕ → List ℕ → Type 0
HasLine bytes words = Contains (lines_of bytes) (words ++ codes "\n")

-- how a run over the text ends can be read off these bytes
pub record TellsOutcomes (limits : Limits) (text bytes : List ℕ) : Type 0 where
  pub kept : IsOutcome limits Si text Clean ↔ HasLine bytes (codes "isolation kept")
  pub broken : IsOutcome limits Si text Faulty ↔ HasLine bytes (codes "isolation broken")
  pub pass : IsOutcome limits Ssi text Clean ↔ HasLine bytes (codes "ssi pass")
  pub fail : IsOutcome limits Ssi text Faulty ↔ HasLine bytes (codes "ssi fail")
  pub serializable : IsOutcome limits Serializable text Clean ↔ (HasLine bytes (codes "isolation kept") × HasLine bytes (codes "serializable yes"))
  pub not_serializable : IsOutcome limits Serializable text Faulty ↔ (HasLine bytes (codes "isolation broken") ⊎ HasLine bytes (codes "serializable no"))
  pub refused : (level : Level) → IsOutcome limits level text Refused ↔ IsTrue (begins (codes "refused: " ∷ []) bytes)

-- off each form of its report
abbrev pub LinesLaw : Limits → Form → List ℕ → Type 0
LinesLaw limits form text = (bytes : List ℕ) → IsReport limits form text bytes → TellsOutcomes limits text bytes

-- what would be a report of the text if no event could name a start
abbrev pub IsPlainReport : Limits → Form → List ℕ → List ℕ → Type 0
IsPlainReport limits form text bytes = ((fault : TextFault) × IsRefusalIn limits IsPlain text fault × TellsRefusal form text fault bytes)
    ⊎ ((h : List Event) × (a : Account) × IsAcceptedIn limits IsPlain text × StandsFor text h × IsAccount h a × TellsAccount form h a bytes)

-- the rule of named starts doesn't touch the text: it has the reports that it would have without the rule, and where it is
-- accepted each transaction starts right before its first event
pub record IsUntouched (limits : Limits) (form : Form) (text : List ℕ) : Type 0 where
  pub reports : (bytes : List ℕ) → IsReport limits form text bytes ↔ IsPlainReport limits form text bytes
  pub starts : IsAccepted limits text → (h : List Event) → StandsFor text h → (t s : ℕ) → StartsAt h t s ↔ StartsPlainly h t s

-- a text without named starts is untouched
abbrev pub PlainTextLaw : Limits → Form → List ℕ → Type 0
PlainTextLaw limits form text = ((i : ℕ) → ¬ NamesStart text i) → IsUntouched limits form text

-- the text has a report of this form, and no other
abbrev pub HasOneReport : Limits → Form → List ℕ → Type 0
HasOneReport limits form text = (bytes : List ℕ) × IsReport limits form text bytes × ((others : List ℕ) → IsReport limits form text others → bytes ≡ others)

-- both texts have these bytes for a report of this form
abbrev pub HaveSameBytes : Limits → Form → List ℕ → List ℕ → Type 0
HaveSameBytes limits form text other = (bytes : List ℕ) × IsReport limits form text bytes × IsReport limits form other bytes

-- two texts have the same full and the same brief report, and a run at the level gsi ends cleanly over one of them and not over the
-- other
abbrev pub HidesGsi : Limits → Type 0
HidesGsi limits = (text : List ℕ) × (other : List ℕ) × HaveSameBytes limits Full text other × HaveSameBytes limits Brief text other
    × IsOutcome limits Gsi text Clean × IsOutcome limits Gsi other Faulty
