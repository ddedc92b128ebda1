-- A sheet of bytes, and the words that are put on it.
use Rattle.std.specs.Prelude.{ℕ, List, [], map, slice_index_or, take}
use Rattle.si_audit.specs.Blocks.{word_in}
use Rattle.si_audit.specs.declared.sheet.Sheet.{Sheet}
use Rattle.si_audit.specs.declared.sheet.Word.{Word}

-- what stands on it
abbrev pub text_on : Sheet → List ℕ
text_on s = take s.end s.bytes.items

abbrev pub text_of : {n : ℕ} → Word n → List ℕ
text_of w = word_in w.bytes

-- the word of a number, or none
abbrev pub word_at : {n : ℕ} → List (Word n) → ℕ → List ℕ
word_at words i = slice_index_or (map text_of words) i []
