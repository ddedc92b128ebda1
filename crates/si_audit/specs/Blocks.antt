-- A block of bytes whose last one says how many of the others are a word.
use Rattle.std.specs.Prelude.{ℕ, List, ◌-◌, length, slice_index, take}

abbrev pub word_len : List ℕ → ℕ
word_len block = slice_index block (length block - 1)

abbrev pub word_in : List ℕ → List ℕ
word_in block = take (word_len block) block
