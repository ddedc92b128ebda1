-- The explained report of a history: the lines of the brief one, with reasons.
use Rattle.std.specs.Prelude.{◌≡◌, ◌⊎◌, ℕ, List, [], ◌∷◌, ◌++◌, ◌&&◌, codes, Option, Some, None}
use Rattle.sia_events.specs.declared.event.Event.{Event}
use Rattle.sia_events.specs.DangerousStructures.{NoFirst}
use Rattle.sia_events.specs.Isolation.{IsolationKept}
use Rattle.sia_events.specs.Lists.{ListsAscending}
use Rattle.sia_events.specs.Text.{numeral}
use Rattle.sia_events.specs.Transactions.{HasEvent}
use Rattle.sia_parts.specs.declared.finding.Edge.{Edge}
use Rattle.sia_parts.specs.declared.finding.Kind.TheVariants.{Rw}
use Rattle.sia_graph.specs.declared.ssi.Dangerous.{Dangerous}
use Rattle.sia_graph.specs.declared.cycle.Step.{Step}
use Rattle.sia_graph.specs.declared.judgement.Judgement.{Judgement}
use Rattle.sia_graph.specs.declared.judgement.Verdict.{Verdict}
use Rattle.sia_graph.specs.declared.judgement.Verdict.TheVariants.{Order, Cycle}
use Rattle.sia_graph.specs.Cycles.{step_edge}
use Rattle.sia_graph.specs.Dangerous.{IsDangerous}
use Rattle.si_audit.specs.Account.{Account}
use Rattle.si_audit.specs.Lines.{line, edge_word, is_empty, bad_read_line, bad_write_line, unexplained_line, events_line, isolation_line, ssi_line, serializable_line, verdict_line}
use Rattle.si_audit.specs.Reasons.{TellsBadRead, TellsBadWrite, TellsClass, TellsUnexplained, TellsStep}
use Rattle.si_audit.specs.Counts.{TellsCounts}
use Rattle.si_audit.specs.SnapshotLines.{TellsSnapshot}
use Rattle.std.specs.Borrow.{Bor}
use Rattle.sia_parts.specs.declared.reasons.Recorded.{Recorded}

-- what is told of each of these, one after another
abbrev pub TellsAll : {A : Type 0} → (A → List ℕ → Type 0) → List A → List ℕ → Type 0
TellsAll Tells [] bytes = bytes ≡ []
TellsAll Tells (x ∷ xs) bytes = (one : List ℕ) × (rest : List ℕ) × Tells x one × TellsAll Tells xs rest × (bytes ≡ one ++ rest)

-- the line of a thing, with its reasons below
abbrev pub WithReasons : {A : Type 0} → (A → List ℕ) → (A → List ℕ → Type 0) → A → List ℕ → Type 0
WithReasons line_of Tells x bytes = (reasons : List ℕ) × Tells x reasons × (bytes ≡ line_of x ++ reasons)

-- the edges of steps of which the last one leads home
abbrev pub edges_round : List Step → ℕ → List Edge
edges_round [] home = []
edges_round (s ∷ []) home = step_edge s home ∷ []
edges_round (s ∷ next ∷ steps) home = step_edge s next.txn ∷ edges_round (next ∷ steps) home

abbrev pub TellsCycle : List Event → List Edge → List ℕ → Type 0
TellsCycle h edges bytes = (steps : List ℕ) × (class : List ℕ) × TellsAll (TellsStep h) edges steps × TellsClass h edges class × (bytes ≡ steps ++ class)

-- below the order nothing, and below the cycle each of its steps and its class
abbrev pub TellsVerdict : List Event → Verdict → List ℕ → Type 0
TellsVerdict h (Order order) bytes = bytes ≡ []
TellsVerdict h (Cycle []) bytes = bytes ≡ []
TellsVerdict h (Cycle (s ∷ steps)) bytes = TellsCycle h (edges_round (s ∷ steps) s.txn) bytes

abbrev pub dangerous_line : Dangerous → List ℕ
dangerous_line d = line (codes "dangerous" ∷ numeral d.first ∷ edge_word Rw d.first_key ∷ numeral d.pivot ∷ edge_word Rw d.last_key ∷ numeral d.last ∷ [])

-- its two edges
abbrev pub dangerous_edges : Dangerous → List Edge
dangerous_edges d = record { src = d.first; kind = Rw; dst = d.pivot; key = d.first_key } ∷ record { src = d.pivot; kind = Rw; dst = d.last; key = d.last_key } ∷ []

-- where isolation was kept and the test of serializable snapshot isolation fails, a dangerous structure and its steps; else
-- nothing
abbrev pub TellsDanger : List Event → List ℕ → Type 0
TellsDanger h bytes = ((IsolationKept h → NoFirst h) × (bytes ≡ [])) ⊎ (IsolationKept h × (d : Dangerous) × IsDangerous h d × WithReasons dangerous_line (λ d. TellsAll (TellsStep h) (dangerous_edges d)) d bytes)

-- of each transaction in order what there is to tell of its snapshots
abbrev pub TellsSnapshots : List Event → List ℕ → Type 0
TellsSnapshots h bytes = (txns : List ℕ) × ListsAscending (HasEvent h) txns × TellsAll (TellsSnapshot h) txns bytes

-- the lines of the brief report of this account, with reasons
abbrev pub IsExplained : List Event → Account → List ℕ → Type 0
IsExplained h a bytes = (counts : List ℕ) × (reads : List ℕ) × (writes : List ℕ) × (unexplained : List ℕ) × (snapshots : List ℕ) × (danger : List ℕ) × (verdict : List ℕ)
    × TellsCounts h a.bad_reads a.bad_writes counts
    × TellsAll (WithReasons bad_read_line (TellsBadRead h)) a.bad_reads reads
    × TellsAll (WithReasons bad_write_line (TellsBadWrite h)) a.bad_writes writes
    × TellsAll (WithReasons unexplained_line (TellsUnexplained h)) a.unexplained unexplained
    × TellsSnapshots h snapshots
    × TellsDanger h danger
    × WithReasons verdict_line (TellsVerdict h) a.verdict verdict
    × (bytes ≡ events_line a.events a.committed a.aborted a.unfinished
    ++ isolation_line (is_empty a.bad_reads && is_empty a.bad_writes)
    ++ counts ++ reads ++ writes ++ unexplained ++ snapshots
    ++ ssi_line a.pass ++ danger
    ++ serializable_line a.serializable
    ++ verdict)

-- what the history shows that was recorded, or nothing
abbrev pub TellsIf : {A : Type 0} → Option (Bor Recorded) → (List Event → A → List ℕ → Type 0) → A → List ℕ → Type 0
TellsIf None Tells = λ x bytes. bytes ≡ []
TellsIf (Some of) Tells = Tells of.now.history.now

-- behind these bytes stand the lines of a judgement before those of the edges, with reasons from what was recorded, where it is given
abbrev pub PutsFront : Option (Bor Recorded) → Judgement → List ℕ → List ℕ → Type 0
PutsFront of j before all = (counts : List ℕ) × (reads : List ℕ) × (writes : List ℕ) × (others : List ℕ)
    × TellsIf of (λ h. TellsCounts h j.bad_reads.items) j.bad_writes.items counts
    × TellsAll (WithReasons bad_read_line (TellsIf of TellsBadRead)) j.bad_reads.items reads
    × TellsAll (WithReasons bad_write_line (TellsIf of TellsBadWrite)) j.bad_writes.items writes
    × TellsAll (WithReasons unexplained_line (TellsIf of TellsUnexplained)) j.unexplained.items others
    × (all ≡ before
    ++ events_line j.counts.events j.counts.committed j.counts.aborted j.counts.unfinished
    ++ isolation_line (is_empty j.bad_reads.items && is_empty j.bad_writes.items)
    ++ counts ++ reads ++ writes ++ others)
