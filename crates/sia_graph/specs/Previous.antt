-- The least transaction that is left and has an edge to another.
use Rattle.std.specs.Prelude.{ℕ, Bool, false, List, IsTrue, slice_index_or}

-- the entry at this position says so
abbrev pub IsLeftIn : List Bool → ℕ → Type 0
IsLeftIn left i = IsTrue (slice_index_or left i false)
