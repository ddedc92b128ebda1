-- The words so far, and those of the rest.
use Rattle.std.proofs.Common.{◌≡◌, ◌++◌, ◌-◌, ◌≤◌, ℕ, List, length, take}
use Rattle.si_audit.specs.PivotLines.{pivot_text}
use Rattle.si_audit.specs.Sheet.{text_on}
use Rattle.si_audit.proofs.pivot_lines.PivotLinesTold.put_rows.Given as goal

abbrev pub invariant-putting : goal.invariant-putting
invariant-putting l = record {
  piece : List ℕ;
  bytes : take l.end l.bytes ≡ text_on l.fn.sheet ++ piece;
  lines : pivot_text l.fn.self l.number l.rows l.fn.row ≡ piece ++ pivot_text l.fn.self l.number l.rows l.row;
  long : length l.bytes ≡ length l.fn.sheet.bytes.items;
  low : l.fn.row ≤ l.row;
  high : l.row ≤ length l.rows;
  from : l.fn.sheet.end ≤ l.end;
  to : l.end ≤ length l.bytes;
  same : l.row ≡ l.fn.row → l.end ≡ l.fn.sheet.end;
}

abbrev pub decreases-putting : goal.decreases-putting
decreases-putting l = length l.rows - l.row
