-- The nodes of the sparse graph: blocks of keys, each of them over some of `size` keys, and the committed transactions. Block h is
-- node h, and transaction number i is node 2 * size + i.
use Rattle.std.specs.Prelude.{ℕ, ◌+◌, ◌-◌, ◌*◌, List, slice_index}

abbrev pub node_of : ℕ → ℕ → ℕ
node_of size txn = 2 * size + txn

-- the transaction of a node
abbrev pub name_of : ℕ → List ℕ → ℕ → ℕ
name_of size txns node = slice_index txns (node - 2 * size)
