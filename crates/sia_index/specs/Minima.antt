-- Rows in blocks of 16, and a tree over the blocks with a number at each node that no row below it is below.
use Rattle.std.specs.Prelude.{◌≡◌, ◌<◌, ◌≤◌, ◌+◌, ◌*◌, ◌^◌, ℕ, List, length, slice_index, slice_index_or}
use Rattle.std.specs.List.{AllWithin}

abbrev pub IsPower : ℕ → Type 0
IsPower n = (e : ℕ) × (n ≡ 2 ^ e)

-- the number at the leaf of each block is at most that of each of the first n rows in the block
abbrev pub AreLeaves : {A : Type 0} → (A → ℕ) → List A → ℕ → ℕ → List ℕ → Type 0
AreLeaves {A} num rows n size minima = (length minima ≡ 2 * size) × ((block i : ℕ) (d : A) → block * 16 ≤ i → i < block * 16 + 16 → i < n → (block < size) × (slice_index minima (size + block) ≤ num (slice_index_or rows i d)))

-- the number at a node is at most those at the two below it
abbrev pub IsLeastAt : List ℕ → ℕ → Type 0
IsLeastAt minima node = (slice_index minima node ≤ slice_index minima (2 * node)) × (slice_index minima node ≤ slice_index minima (2 * node + 1))

-- a tree of so many leaves
pub record IsTree (size : ℕ) (minima : List ℕ) : Type 0 where
  pub power : IsPower size
  pub count : length minima ≡ 2 * size
  pub inner : (node : ℕ) → 0 < node → node < size → IsLeastAt minima node

abbrev pub AreMinima : {A : Type 0} → (A → ℕ) → List A → List ℕ → Type 0
AreMinima {A} num rows minima = (size : ℕ) × IsTree size minima × AreLeaves num rows (length rows) size minima

-- the node has so many blocks below it, from block low on
abbrev pub Covers : List ℕ → ℕ → ℕ → ℕ → Type 0
Covers minima node low width = (size : ℕ) × IsTree size minima × IsPower width × (node * width ≡ size + low) × (low + width ≤ size)

-- no block from one to below another has a number below the limit
abbrev pub PassesBlocks : List ℕ → ℕ → ℕ → ℕ → Type 0
PassesBlocks minima limit from to = (size block : ℕ) → length minima ≡ 2 * size → from ≤ block → block < to → limit ≤ slice_index minima (size + block)

-- i is the first place, from one to below another, of a row whose number is below the limit
abbrev pub IsNextBelow : {A : Type 0} → (A → ℕ) → List A → ℕ → ℕ → ℕ → ℕ → Type 0
IsNextBelow {A} num rows from to limit i = (from ≤ i) × (i < to) × ((d : A) → num (slice_index_or rows i d) < limit) × AllWithin (λ row. limit ≤ num row) rows from i
