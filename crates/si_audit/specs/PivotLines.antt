-- The lines of pivots, one after another.
use Rattle.std.specs.Prelude.{◌≡◌, ◌==◌, ◌⊎◌, ◌++◌, ◌∷◌, [], ℕ, zero, suc, Bool, true, not, if◌then◌else◌, List, Option, None, Some, codes, drop, flat_map, length, map, slice_index}
use Rattle.std.specs.List.{slice_get}
use Rattle.sia_events.specs.declared.event.Event.{Event}
use Rattle.sia_events.specs.DangerousStructures.{IsPivot}
use Rattle.sia_events.specs.Lists.{ListsAscending}
use Rattle.sia_events.specs.Text.{numeral}
use Rattle.sia_events.specs.Transactions.{IsCommitted}
use Rattle.sia_index.specs.Numbers.{IsCommittedAt}
use Rattle.sia_graph.specs.declared.neighbours.Neighbour.{Neighbour}
use Rattle.sia_graph.specs.declared.neighbours.Role.{Role}
use Rattle.sia_graph.specs.declared.neighbours.Role.TheVariants.{In, Out, First}
use Rattle.sia_graph.specs.declared.pivot.Pivot.{Pivot}
use Rattle.sia_graph.specs.Found.{CanFind}
use Rattle.sia_graph.specs.Neighbours.{IsPivotAt, role_number}
use Rattle.sia_graph.specs.Pivots.{ArePivots, ListsNeighbours}
use Rattle.si_audit.specs.declared.pivot_lines.PivotLines.{PivotLines}
use Rattle.si_audit.specs.declared.sheet.Word.{Word}
use Rattle.si_audit.specs.Lines.{pivot_line}
use Rattle.si_audit.specs.Sheet.{word_at}
use Rattle.si_audit.specs.Spelled.{AreSpelled}

-- the text is the lines of all pivots
abbrev pub ArePivotLines : List Event → List ℕ → Type 0
ArePivotLines h text = (pivots : List Pivot) × ArePivots h pivots × (text ≡ flat_map pivot_line pivots)

-- it is the line of the pivot with this number, or nothing where no pivot has it
abbrev pub IsLineOf : List Event → ℕ → List ℕ → Type 0
IsLineOf h i text = ((p : Pivot) × IsCommittedAt h i p.txn × IsPivot h p.txn × ListsNeighbours h p × (text ≡ pivot_line p))
    ⊎ ((¬ IsPivotAt h i) × (text ≡ []))

-- the words with which a role begins in the line of the pivot t
abbrev pub role_words : ℕ → Role → List ℕ
role_words t In = codes "pivot " ++ numeral t ++ codes " in"
role_words t Out = codes " out"
role_words t First = codes " first"

-- whether it begins behind a row of this one, if there is a row
abbrev pub begins : Option Role → Role → Bool
begins None role = true
begins (Some before) role = not (role_number before == role_number role)

abbrev pub lead_words : ℕ → Option Role → Role → List ℕ
lead_words t before role = if begins before role then role_words t role else []

-- the rest of the line: these rows, and its end
abbrev pub line_from : {n : ℕ} → ℕ → List (Word n) → Option Role → List Neighbour → List ℕ
line_from t words before [] = codes "\n"
line_from t words before (n ∷ rows) = lead_words t before n.role ++ word_at words n.txn ++ line_from t words (Some n.role) rows

-- there is none where no rows are left
abbrev pub rest_of : {n : ℕ} → ℕ → List (Word n) → Option Role → List Neighbour → List ℕ
rest_of t words before [] = []
rest_of t words before (n ∷ rows) = line_from t words before (n ∷ rows)

-- the role of the row before this one, if there is one
abbrev pub role_before : List Neighbour → ℕ → Option Role
role_before rows zero = None
role_before rows (suc row) = slice_get (map (λ n. n.role) rows) row

-- what the rows tell from one on
abbrev pub pivot_text : PivotLines → ℕ → List Neighbour → ℕ → List ℕ
pivot_text p i rows row = rest_of (slice_index p.txns.now i) p.spelled.now.txns.items (role_before rows row) (drop row rows)

-- the numbers of the words before a row's and behind it among those that begin the roles, the end of the line, and none
abbrev pub lead_number : Option Role → Role → ℕ
lead_number before role = if begins before role then role_number role else 4

abbrev pub end_number : List Neighbour → ℕ
end_number [] = 3
end_number (n ∷ rows) = 4

-- they can be made
pub record ArePivotsReady (p : PivotLines) : Type 0 where
  pub find : CanFind p.neighbours
  pub spelled : AreSpelled p.neighbours.evidence.index.now p.spelled.now
  pub txns : ListsAscending (IsCommitted p.neighbours.evidence.index.now) p.txns.now
  pub count : p.count ≡ length p.txns.now
