-- What a report has yet to give.
use Rattle.std.specs.Prelude.{◌≡◌, ◌+◌, ◌++◌, ◌∷◌, ℕ, List, [], Option, length}
use Rattle.sia_graph.specs.declared.neighbours.Neighbour.{Neighbour}
use Rattle.sia_graph.specs.Found.{most_found}
use Rattle.sia_parts.specs.declared.edges.EdgeTo.{EdgeTo}
use Rattle.sia_parts.specs.EdgeRows.{row_bound}
use Rattle.si_audit.specs.declared.edge_lines.EdgeLines.{EdgeLines}
use Rattle.si_audit.specs.declared.giving.Giving.{Giving}
use Rattle.si_audit.specs.declared.pivot_lines.PivotLines.{PivotLines}
use Rattle.si_audit.specs.EdgeLines.{AreLinesFrom, AreReady, row_text}
use Rattle.si_audit.specs.Giving.{CanGive, IsLeftOf, left_of}
use Rattle.si_audit.specs.PivotLines.{ArePivotsReady, IsLineOf, pivot_text}

-- the piece that is shown, and what comes behind it: bytes before the lines of edges, these lines and those of pivots, if they are told, and bytes behind them
pub record Left : Type 0 where
  pub piece : List ℕ
  pub front : List ℕ
  pub edges : Option (Giving EdgeLines EdgeTo)
  pub pivots : Option (Giving PivotLines Neighbour)
  pub back : List ℕ

-- these bytes, or others where there are none
abbrev pub first_of : List ℕ → List ℕ → List ℕ
first_of [] others = others
first_of (byte ∷ bytes) others = byte ∷ bytes

-- the lines can be made
abbrev pub CanGiveEdges : Option (Giving EdgeLines EdgeTo) → Type 0
CanGiveEdges edges = CanGive AreReady (λ e. e.count) (λ e. row_bound e.edges) edges

abbrev pub CanGivePivots : Option (Giving PivotLines Neighbour) → Type 0
CanGivePivots pivots = CanGive ArePivotsReady (λ p. p.count) (λ p. most_found p.neighbours) pivots

-- they are these
abbrev pub AreEdgesLeft : Option (Giving EdgeLines EdgeTo) → List ℕ → Type 0
AreEdgesLeft edges text = IsLeftOf (λ e. AreLinesFrom e.edges.index.now) row_text edges text

abbrev pub ArePivotsLeft : Option (Giving PivotLines Neighbour) → List ℕ → Type 0
ArePivotsLeft pivots text = IsLeftOf (λ p. IsLineOf p.neighbours.evidence.index.now) pivot_text pivots text

-- all bytes that come behind the piece
abbrev pub IsYet : Left → List ℕ → Type 0
IsYet r bytes = (edges : List ℕ) × (pivots : List ℕ) × AreEdgesLeft r.edges edges × ArePivotsLeft r.pivots pivots
    × (bytes ≡ r.front ++ edges ++ pivots ++ r.back)

-- how many bytes, rows and transactions are left at most
abbrev pub bytes_left : Left → ℕ
bytes_left r = length r.front + left_of r.edges + left_of r.pivots + length r.back
