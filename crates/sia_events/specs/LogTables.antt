-- What a log's tables hold.
use Rattle.std.specs.Prelude.{◌≡◌, ℕ, ◌-◌, ◌<◌, ◌≤◌, ◌^◌, List, [], map, length, take, drop, All, Some, slice_get}
use Rattle.std.specs.List.{slice_index_or}
use Rattle.sia_events.specs.declared.event.Event.{Event}
use Rattle.sia_events.specs.declared.log.TxnRow.{TxnRow}
use Rattle.sia_events.specs.declared.log.WriteRow.{WriteRow}
use Rattle.sia_events.specs.declared.log.RangeRow.{RangeRow}
use Rattle.sia_events.specs.declared.log.Row.{Row}
use Rattle.sia_events.specs.declared.log.Tables.{Tables}
use Rattle.sia_events.specs.Transactions.{StartsAt}
use Rattle.sia_events.specs.Numbering.{Names, names_of, pair_at, event_of, IsWithin, IsMarked, IsPair, Ends}

abbrev pub txn_names : List TxnRow → List ℕ
txn_names txns = map (λ x. x.name) txns

-- key and version of each write
abbrev pub write_names : List ℕ → List ℕ → List WriteRow → List (ℕ × ℕ)
write_names txns keys writes = map (λ w. (slice_index_or keys w.key 0, slice_index_or txns w.txn 0)) writes

-- the range of a row with its listed keys, where writes and keys are known and no ranges are needed
abbrev pub range_of : Names → List ℕ → RangeRow → ℕ × ℕ × List (ℕ × ℕ)
range_of names pairs r = (r.lo, r.hi, map (pair_at names) (take (r.to - r.from) (drop r.from pairs)))

-- transactions, keys and writes by number, without ranges
abbrev pub names_but_ranges : List TxnRow → List ℕ → List WriteRow → Names
names_but_ranges txns keys writes = record { txns = txn_names txns; keys = keys; writes = write_names (txn_names txns) keys writes; ranges = [] }

abbrev pub names_by : List TxnRow → List ℕ → List WriteRow → List RangeRow → List ℕ → Names
names_by txns keys writes ranges pairs = record { txns = txn_names txns; keys = keys; writes = write_names (txn_names txns) keys writes; ranges = map (range_of (names_but_ranges txns keys writes) pairs) ranges }

-- what the numbers of the tables stand for
abbrev pub names_in : Tables → Names
names_in t = names_by t.txns.items t.keys.items t.writes.items t.ranges.items t.pairs.items

-- the events that the rows spell
abbrev pub events_of : Tables → List Event
events_of t = map (event_of (names_in t)) t.events.items

-- a write's row has a transaction and a key
abbrev pub IsWriteRow : Names → WriteRow → Type 0
IsWriteRow names w = (w.txn < length names.txns) × (w.key < length names.keys)

abbrev pub IsRangeRow : List ℕ → RangeRow → Type 0
IsRangeRow pairs r = (r.from ≤ r.to) × (r.to ≤ length pairs)

-- no table is longer than its numbers reach
pub record AreShort (t : Tables) : Type 0 where
  pub txns : length t.txns.items ≤ 2 ^ 29
  pub keys : length t.keys.items ≤ 2 ^ 29
  pub writes : length t.writes.items ≤ 2 ^ 29
  pub ranges : length t.ranges.items ≤ 2 ^ 29
  pub pairs : length t.pairs.items ≤ 2 ^ 31

-- no name stands twice
abbrev pub AreOnce : List ℕ → Type 0
AreOnce xs = (i j x : ℕ) → slice_get xs i ≡ Some x → slice_get xs j ≡ Some x → i ≡ j

-- each number in the tables stands for something
pub record AreSound (t : Tables) : Type 0 where
  pub short : AreShort t
  pub txns_once : AreOnce (txn_names t.txns.items)
  pub keys_once : AreOnce t.keys.items
  pub rows : All (IsWithin (names_in t)) t.events.items
  pub writes : All (IsWriteRow (names_in t)) t.writes.items
  pub ranges : All (IsRangeRow t.pairs.items) t.ranges.items
  pub pairs : All (IsPair (names_in t)) t.pairs.items

-- t started and ended as the row says
abbrev pub Lives : List Event → TxnRow → Type 0
Lives h x = StartsAt h x.name x.start × Ends h x.name x.end

-- names are numbered as they appear in the history that the rows spell, and what the rows say of it is so
pub record AreTables (t : Tables) : Type 0 where
  pub sound : AreSound t
  pub names : names_in t ≡ names_of (events_of t)
  pub lives : All (Lives (events_of t)) t.txns.items
  pub marked : (i : ℕ) (r : Row) → slice_get t.events.items i ≡ Some r → IsMarked (names_in t) (take i (events_of t)) r
