-- Blocks of keys, so that few numbers stand for the keys of a stretch. Key j has the block size + j, its leaf, and a block h has
-- the halves 2 * h and 2 * h + 1.
use Rattle.std.specs.Prelude.{ℕ, ◌+◌, ◌*◌, ◌^◌, ◌<◌, ◌≤◌, List, Contains}

-- the block is the key's leaf, halved some times and rounded down each time
abbrev pub IsOver : ℕ → ℕ → ℕ → Type 0
IsOver size block key = (e : ℕ) × (block * 2 ^ e ≤ size + key) × (size + key < (block + 1) * 2 ^ e)

-- one of the blocks is over the key
abbrev pub IsUnderSome : ℕ → List ℕ → ℕ → Type 0
IsUnderSome size blocks key = (b : ℕ) × Contains blocks b × IsOver size b key
