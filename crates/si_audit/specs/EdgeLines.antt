-- The lines of edges, source by source.
use Rattle.std.specs.Prelude.{◌≡◌, ◌+◌, ◌++◌, ℕ, List, codes, drop, flat_map, length, None, ⊤}
use Rattle.sia_events.specs.declared.event.Event.{Event}
use Rattle.sia_events.specs.Lists.{ListsAscending}
use Rattle.sia_events.specs.Transactions.{IsCommitted}
use Rattle.sia_parts.specs.declared.edges.EdgeTo.{EdgeTo}
use Rattle.sia_parts.specs.declared.finding.Edge.{Edge}
use Rattle.sia_parts.specs.EdgeRows.{CanTell, ListsEdgesBetween}
use Rattle.sia_parts.specs.Findings.{ListsEdges}
use Rattle.si_audit.specs.declared.edge_lines.EdgeLines.{EdgeLines}
use Rattle.si_audit.specs.declared.spelled.Spelled.{Spelled}
use Rattle.si_audit.specs.Lines.{edge_line, kind_word}
use Rattle.si_audit.specs.Sheet.{word_at}
use Rattle.si_audit.specs.Spelled.{AreSpelled}

-- the text is the lines of all edges
abbrev pub AreEdgeLines : List Event → List ℕ → Type 0
AreEdgeLines h text = (edges : List Edge) × ListsEdges h (λ _. ⊤) edges × (text ≡ flat_map edge_line edges)

-- it is those of the edges whose source has this number
abbrev pub AreLinesFrom : List Event → ℕ → List ℕ → Type 0
AreLinesFrom h i text = (edges : List Edge) × ListsEdgesBetween h (λ _. ⊤) i (i + 1) edges × (text ≡ flat_map edge_line edges)

-- the words of a row, of an edge from the transaction with this number
abbrev pub row_line : Spelled → ℕ → EdgeTo → List ℕ
row_line s i row = codes "edge" ++ word_at s.txns.items i ++ (codes " " ++ kind_word row.kind) ++ word_at s.txns.items row.target ++ word_at s.keys.items row.key

-- those of the rows from one on
abbrev pub row_text : EdgeLines → ℕ → List EdgeTo → ℕ → List ℕ
row_text e i rows row = flat_map (row_line e.spelled.now i) (drop row rows)

-- they can be made
pub record AreReady (e : EdgeLines) : Type 0 where
  pub tell : CanTell e.edges
  pub within : e.edges.within ≡ None
  pub spelled : AreSpelled e.edges.index.now e.spelled.now
  pub count : (txns : List ℕ) × ListsAscending (IsCommitted e.edges.index.now) txns × (e.count ≡ length txns)
