-- What was left stands on the sheet, or is left still.
use Rattle.std.proofs.Common.{◌≡◌, ◌⊎◌, ◌<◌, ◌≤◌, ◌++◌, ℕ, List, length}
use Rattle.si_audit.specs.Giving.{CanFill, IsLeft, rows_left}
use Rattle.si_audit.specs.Sheet.{text_on}
use Rattle.si_audit.proofs.giving.Stretch.fill.Given as goal

abbrev pub invariant-filling : goal.invariant-filling
invariant-filling g l = record {
  can : CanFill (g.T.Told.count l.told) (g.T.Told.most l.told) l.self;
  left : (text : List ℕ) → IsLeft (g.T.Told.tells l.told) (g.T.Told.text l.told) l.fn.self text
      → (rest : List ℕ) × (text ≡ text_on l.sheet ++ rest) × IsLeft (g.T.Told.tells l.told) (g.T.Told.text l.told) l.self rest;
  most : rows_left l.self ≤ rows_left l.fn.self;
  still : (rows_left l.self < rows_left l.fn.self) ⊎ (l.sheet.end ≡ 0);
  size : length l.sheet.bytes.items ≡ length l.fn.sheet.bytes.items;
}

abbrev pub decreases-filling : goal.decreases-filling
decreases-filling g l = rows_left l.self
