-- The lines of a report, word for word. Words, order and numbers are this project's own format (docs/FORMAT.md).
use Rattle.std.specs.Prelude.{ℕ, Bool, true, false, ◌&&◌, if◌then◌else◌, List, [], ◌∷◌, ◌++◌, map, flat_map, codes}
use Rattle.std.specs.List.{join_with_byte}
use Rattle.sia_events.specs.declared.fault.Reason.{Reason}
use Rattle.sia_events.specs.declared.fault.Reason.TheVariants.{TooManyEvents, BadEvent, BadNumber, AlreadyEnded, AlreadyBegun, EmptyRange, BadList, NotWritten, BadStart}
use Rattle.sia_events.specs.declared.fault.TextFault.{TextFault}
use Rattle.sia_events.specs.declared.fault.TextFault.TheVariants.{NoMemory, TextTooLong, Refused}
use Rattle.sia_events.specs.Text.{numeral}
use Rattle.sia_parts.specs.declared.finding.BadRead.{BadRead}
use Rattle.sia_parts.specs.declared.finding.BadWrite.{BadWrite}
use Rattle.sia_parts.specs.declared.finding.Unexplained.{Unexplained}
use Rattle.sia_parts.specs.declared.finding.Edge.{Edge}
use Rattle.sia_parts.specs.declared.finding.Kind.{Kind}
use Rattle.sia_parts.specs.declared.finding.Kind.TheVariants.{Ww, Wr, Rw}
use Rattle.sia_graph.specs.declared.pivot.Pivot.{Pivot}
use Rattle.sia_graph.specs.declared.cycle.Step.{Step}
use Rattle.sia_graph.specs.declared.judgement.Verdict.{Verdict}
use Rattle.sia_graph.specs.declared.judgement.Verdict.TheVariants.{Order, Cycle}
use Rattle.si_audit.specs.declared.options.Form.{Form}
use Rattle.si_audit.specs.declared.options.Form.TheVariants.{Full, Brief, Explained}
use Rattle.si_audit.specs.Account.{Account}

-- words with one space between two, and LF
abbrev pub line : List (List ℕ) → List ℕ
line words = join_with_byte 32 words ++ 10 ∷ []

-- why a token is refused
abbrev pub reason_words : Reason → List ℕ
reason_words TooManyEvents = codes "too many events"
reason_words BadEvent = codes "bad event"
reason_words BadNumber = codes "number out of range"
reason_words AlreadyEnded = codes "transaction already ended"
reason_words AlreadyBegun = codes "transaction already begun"
reason_words EmptyRange = codes "empty range"
reason_words BadList = codes "bad list"
reason_words NotWritten = codes "version not written"
reason_words BadStart = codes "start too late"

-- want of memory has no line
abbrev pub refusal_line : TextFault → List ℕ
refusal_line NoMemory = []
refusal_line TextTooLong = line (codes "refused: text too long" ∷ [])
refusal_line (Refused token reason) = line (codes "refused: token" ∷ (numeral token ++ codes ":") ∷ reason_words reason ∷ [])

abbrev pub kind_word : Kind → List ℕ
kind_word Ww = codes "ww"
kind_word Wr = codes "wr"
kind_word Rw = codes "rw"

abbrev pub is_empty : {A : Type 0} → List A → Bool
is_empty [] = true
is_empty (x ∷ xs) = false

abbrev pub bad_read_line : BadRead → List ℕ
bad_read_line b = line (codes "bad-read" ∷ numeral b.place ∷ numeral b.txn ∷ numeral b.key ∷ codes "saw" ∷ numeral b.saw ∷ codes "due" ∷ numeral b.due ∷ [])

abbrev pub bad_write_line : BadWrite → List ℕ
bad_write_line b = line (codes "bad-write" ∷ numeral b.key ∷ numeral b.first ∷ numeral b.second ∷ [])

abbrev pub unexplained_line : Unexplained → List ℕ
unexplained_line b = line (codes "unexplained" ∷ numeral b.place ∷ numeral b.txn ∷ numeral b.key ∷ numeral b.saw ∷ [])

abbrev pub edge_line : Edge → List ℕ
edge_line e = line (codes "edge" ∷ numeral e.src ∷ kind_word e.kind ∷ numeral e.dst ∷ numeral e.key ∷ [])

-- the transactions that commit first, where there are any
abbrev pub first_words : List ℕ → List (List ℕ)
first_words [] = []
first_words (t ∷ ts) = codes "first" ∷ map numeral (t ∷ ts)

abbrev pub pivot_line : Pivot → List ℕ
pivot_line p = line (codes "pivot" ∷ numeral p.txn ∷ codes "in" ∷ map numeral p.ins ++ codes "out" ∷ map numeral p.outs ++ first_words p.firsts)

-- an edge of a cycle
abbrev pub edge_word : Kind → ℕ → List ℕ
edge_word kind key = codes ">" ++ kind_word kind ++ codes ":" ++ numeral key ++ codes ">"

-- a transaction, and the edge from it to the next
abbrev pub step_words : Step → List (List ℕ)
step_words s = numeral s.txn ∷ edge_word s.kind s.key ∷ []

-- the first transaction of the cycle, where it comes again
abbrev pub home_word : List Step → List (List ℕ)
home_word [] = []
home_word (s ∷ steps) = numeral s.txn ∷ []

abbrev pub cycle_line : List Step → List ℕ
cycle_line steps = line (codes "cycle" ∷ flat_map step_words steps ++ home_word steps)

abbrev pub verdict_line : Verdict → List ℕ
verdict_line (Order order) = line (codes "order" ∷ map numeral order)
verdict_line (Cycle steps) = cycle_line steps

-- how many events there are, and how many transactions committed, aborted, or are open
abbrev pub events_line : ℕ → ℕ → ℕ → ℕ → List ℕ
events_line events committed aborted unfinished = line (codes "events" ∷ numeral events ∷ codes "committed" ∷ numeral committed ∷ codes "aborted" ∷ numeral aborted ∷ codes "open" ∷ numeral unfinished ∷ [])

abbrev pub isolation_line : Bool → List ℕ
isolation_line kept = line (codes "isolation" ∷ (if kept then codes "kept" else codes "broken") ∷ [])

abbrev pub ssi_line : Bool → List ℕ
ssi_line pass = line (codes "ssi" ∷ (if pass then codes "pass" else codes "fail") ∷ [])

abbrev pub serializable_line : Bool → List ℕ
serializable_line serializable = line (codes "serializable" ∷ (if serializable then codes "yes" else codes "no") ∷ [])

-- what a report of this form tells of the things that a brief one leaves out
abbrev pub told : {A : Type 0} → Form → List A → List A
told Full things = things
told Brief things = []
told Explained things = []

-- all lines, in their order
abbrev pub report_text : Form → Account → List ℕ
report_text form a =
    events_line a.events a.committed a.aborted a.unfinished
    ++ isolation_line (is_empty a.bad_reads && is_empty a.bad_writes)
    ++ flat_map bad_read_line a.bad_reads
    ++ flat_map bad_write_line a.bad_writes
    ++ flat_map unexplained_line a.unexplained
    ++ flat_map edge_line (told form a.edges)
    ++ flat_map pivot_line (told form a.pivots)
    ++ ssi_line a.pass
    ++ serializable_line a.serializable
    ++ verdict_line a.verdict
