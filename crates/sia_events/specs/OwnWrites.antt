-- How the writes of each transaction are found.
use Rattle.std.specs.Prelude.{◌≡◌, ◌⊎◌, ℕ, ◌+◌, ◌-◌, ◌*◌, ◌<◌, ◌≤◌, List, map, length, Some, slice_get}
use Rattle.sia_events.specs.declared.log.WriteRow.{WriteRow}
use Rattle.sia_events.specs.declared.own_writes.Writer.{Writer}
use Rattle.sia_events.specs.declared.own_writes.OwnWrites.{OwnWrites}
use Rattle.sia_events.specs.Finding.{FindsBelow}

abbrev pub new_write : ℕ → ℕ → WriteRow
new_write txn key = record { txn = txn; key = key }

-- a write's transaction and key in one number
abbrev pub write_code : WriteRow → ℕ
write_code w = w.txn * 4294967296 + w.key

abbrev pub no_writes : Writer
no_writes = record { newest = 0; count = 0 }

-- none of the rows is of that transaction and that key
abbrev pub IsNoneOf : List WriteRow → ℕ → ℕ → Type 0
IsNoneOf rows txn key = (n : ℕ) (w : WriteRow) → slice_get rows n ≡ Some w → w.txn ≡ txn → w.key ≡ key → ⊥

-- 0, or the number of a row of the transaction, from 1
abbrev pub IsOwn : List WriteRow → ℕ → ℕ → Type 0
IsOwn rows txn p = 0 < p → (w : WriteRow) × (slice_get rows (p - 1) ≡ Some w) × (w.txn ≡ txn)

-- all rows of a transaction stand from its newest back, and those of one with many in the table
pub record Tracks (o : OwnWrites) (rows : List WriteRow) : Type 0 where
  pub newest : (n : ℕ) (w : WriteRow) → slice_get rows n ≡ Some w → (x : Writer) × (slice_get o.writers.items w.txn ≡ Some x) × (n < x.newest) × ((n < o.in_table) ⊎ (x.count ≤ 12))
  pub own : (t : ℕ) (x : Writer) → slice_get o.writers.items t ≡ Some x → IsOwn rows t x.newest
  pub before : (n p : ℕ) (w : WriteRow) → slice_get o.before.items n ≡ Some p → slice_get rows n ≡ Some w → (p ≤ n) × IsOwn rows w.txn p × ((m : ℕ) (v : WriteRow) → m < n → slice_get rows m ≡ Some v → v.txn ≡ w.txn → m < p)
  pub long : length o.before.items ≡ length rows
  pub table : FindsBelow o.table (map write_code rows) o.in_table
  pub lags : o.in_table ≤ length rows
