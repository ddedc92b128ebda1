-- What an explained report says below a finding: the events that make it. Words and their order are this project's own
-- format (docs/FORMAT.md).
use Rattle.std.specs.Prelude.{◌≡◌, ◌⊎◌, ℕ, List, [], ◌++◌, codes}
use Rattle.sia_events.specs.declared.event.Anomaly.{Anomaly}
use Rattle.sia_events.specs.declared.event.Anomaly.TheVariants.{OwnWriteMissed, AbortedRead, UncommittedRead, FutureRead, Phantom, StaleRead}
use Rattle.sia_events.specs.declared.event.Event.{Event}
use Rattle.sia_events.specs.Anomalies.{IsNamed}
use Rattle.sia_events.specs.Isolation.{IsBadRead}
use Rattle.sia_events.specs.Text.{numeral}
use Rattle.sia_events.specs.Transactions.{StartsAt}
use Rattle.sia_parts.specs.declared.finding.BadRead.{BadRead}
use Rattle.sia_parts.specs.declared.finding.BadWrite.{BadWrite}
use Rattle.sia_parts.specs.declared.finding.Unexplained.{Unexplained}
use Rattle.sia_parts.specs.declared.finding.Edge.{Edge}
use Rattle.sia_parts.specs.declared.finding.Kind.{Kind}
use Rattle.sia_parts.specs.declared.finding.Kind.TheVariants.{Ww, Wr, Rw}
use Rattle.sia_parts.specs.LostUpdates.{IsLostUpdate, LosesFirstAt}
use Rattle.sia_parts.specs.Sightings.{Gives, IsFirstSight, reader_of}
use Rattle.sia_parts.specs.Telling.{TellsUnless, TellsVersion, event_words, start_words}
use Rattle.sia_graph.specs.Allowed.{IsAllowed}
use Rattle.si_audit.specs.Lines.{edge_word}

-- a line of reasons
abbrev pub reason : List ℕ → List ℕ
reason words = codes "  " ++ words ++ codes "\n"

abbrev pub anomaly_words : Anomaly → List ℕ
anomaly_words OwnWriteMissed = codes "own write missed"
anomaly_words AbortedRead = codes "aborted read"
anomaly_words UncommittedRead = codes "uncommitted read"
anomaly_words FutureRead = codes "future read"
anomaly_words Phantom = codes "phantom"
anomaly_words StaleRead = codes "stale read"

-- below a bad read: its name, the read, and when its transaction started; the version that was seen; and the one due
abbrev pub TellsBadRead : List Event → BadRead → List ℕ → Type 0
TellsBadRead h b bytes = (name : Anomaly) × (s : ℕ) × (saw : List ℕ) × (due : List ℕ)
    × IsNamed h b.place b.txn b.key b.saw b.due name × StartsAt h b.txn s
    × TellsUnless 0 h (codes "  saw: ") b.key b.saw (codes "\n") saw × TellsUnless 0 h (codes "  due: ") b.key b.due (codes "\n") due
    × (bytes ≡ reason (anomaly_words name ++ codes ": " ++ event_words h b.key b.place ++ codes "; " ++ start_words b.txn s) ++ saw ++ due)

-- below an unexplained read: what stands below the bad read at its place and key
abbrev pub TellsUnexplained : List Event → Unexplained → List ℕ → Type 0
TellsUnexplained h b bytes = (due : ℕ) × IsBadRead h b.place b.txn b.key b.saw due
    × TellsBadRead h (record { place = b.place; txn = b.txn; key = b.key; saw = b.saw; due = due }) bytes

-- the name of a bad write with words on when the second writer started, and of a lost update the first read that makes it one
abbrev pub TellsConflict : List Event → BadWrite → List ℕ → List ℕ → Type 0
TellsConflict h b start words = ((p : ℕ) × LosesFirstAt h b.key b.first b.second p × (words ≡ codes "lost update: " ++ start ++ codes "; " ++ event_words h b.key p))
    ⊎ ((¬ IsLostUpdate h b.key b.first b.second) × (words ≡ codes "write conflict: " ++ start))

-- below a bad write: its name, and both versions
abbrev pub TellsBadWrite : List Event → BadWrite → List ℕ → Type 0
TellsBadWrite h b bytes = (s : ℕ) × (name : List ℕ) × (first : List ℕ) × (second : List ℕ)
    × StartsAt h b.second s × TellsConflict h b (start_words b.second s) name × TellsVersion h b.key b.first first × TellsVersion h b.key b.second second
    × (bytes ≡ reason (name ++ codes "; " ++ first ++ codes "; " ++ second))

-- the version that wants no word: where u saw t's own it is told already, and version 0 has no writer
abbrev pub untold_of : Kind → ℕ → ℕ
untold_of Ww t = 0
untold_of Wr t = t
untold_of Rw t = 0

-- the first read at which a version was seen that gives the edge, and this version
abbrev pub TellsSight : List Event → Edge → List ℕ → Type 0
TellsSight h e words = (p : ℕ) × (v : ℕ) × (version : List ℕ)
    × IsFirstSight (Gives e.kind h e.src e.dst e.key) h (reader_of e.kind e.src e.dst) e.key p v
    × TellsUnless (untold_of e.kind e.src) h (codes "; ") e.key v [] version
    × (words ≡ event_words h e.key p ++ version)

-- the events by which the edge is there: a version and a later one, a version and its reader, a reader and the version that it
-- missed
abbrev pub TellsEvents : Kind → List Event → Edge → List ℕ → Type 0
TellsEvents Ww h e words = (one : List ℕ) × (other : List ℕ) × TellsVersion h e.key e.src one × TellsVersion h e.key e.dst other × (words ≡ one ++ codes "; " ++ other)
TellsEvents Wr h e words = (one : List ℕ) × (other : List ℕ) × TellsVersion h e.key e.src one × TellsSight h e other × (words ≡ one ++ codes "; " ++ other)
TellsEvents Rw h e words = (one : List ℕ) × (other : List ℕ) × TellsSight h e one × TellsVersion h e.key e.dst other × (words ≡ one ++ codes "; " ++ other)

-- the line of a step along the edge
abbrev pub TellsStep : List Event → Edge → List ℕ → Type 0
TellsStep h e bytes = (words : List ℕ) × TellsEvents e.kind h e words
    × (bytes ≡ reason (numeral e.src ++ codes " " ++ edge_word e.kind e.key ++ codes " " ++ numeral e.dst ++ codes ": " ++ words))

abbrev pub allowed_words : List ℕ
allowed_words = codes "allowed under snapshot isolation: two rw steps between overlapping transactions follow one another"

abbrev pub forbidden_words : List ℕ
forbidden_words = codes "forbidden under snapshot isolation: no two rw steps between overlapping transactions follow one another"

-- below the steps of a cycle: whether snapshot isolation allows it
abbrev pub TellsClass : List Event → List Edge → List ℕ → Type 0
TellsClass h edges bytes = (IsAllowed h edges × (bytes ≡ reason allowed_words))
    ⊎ ((¬ IsAllowed h edges) × (bytes ≡ reason forbidden_words))
