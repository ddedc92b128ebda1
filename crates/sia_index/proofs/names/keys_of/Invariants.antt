-- The rows so far are those of the keys of the writes so far, and then each name so far stands at the place of its row.
use Rattle.std.proofs.Common.{ℕ, ◌≡◌, false, true, length}
use Rattle.std.specs.Prelude.{Contains, slice_index, slice_index_or}
use Rattle.sia_events.specs.Numbering.{keys_of}
use Rattle.sia_index.specs.declared.names.Numbered.{Numbered}
use Rattle.sia_index.specs.Rows.{IsColumn}
use Rattle.sia_index.proofs.TxnTables.Collected.{HoldsBelow}
use Rattle.sia_index.proofs.Shared.NumberedNames.{IsRowOfWrite}
use Rattle.sia_index.proofs.names.keys_of.Given as goal

abbrev pub invariant-loop-row : goal.invariant-loop-row
invariant-loop-row l = IsColumn (λ (row : Numbered ℕ). row.name) l.row-items l.row-index l.keys.items

-- the rows of the keys of the writes so far, and which keys have one
abbrev pub invariant-loop-before : goal.invariant-loop-before
invariant-loop-before l = HoldsBelow (IsRowOfWrite l.log) l.before l.rows.items × (length l.known.items ≡ length (keys_of l.log))
    × ((q : ℕ) → slice_index_or l.known.items q false ≡ true → Contains l.rows.items (record { name = slice_index (keys_of l.log) q; number = q }))
