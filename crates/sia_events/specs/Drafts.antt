-- What a log that is being made holds of the events so far.
use Rattle.std.specs.Prelude.{◌≡◌, ◌≢◌, ◌⊎◌, ℕ, zero, suc, ◌+◌, ◌-◌, ◌==◌, ◌<◌, ◌≤◌, ◌^◌, true, false, List, [], ◌∷◌, ◌++◌, map, length, Some, None, Result, Ok, Err, ⊤, slice_get}
use Rattle.std.specs.Prelude.{Bool, ◌||◌}
use Rattle.std.specs.List.{list_any, list_all, fold}
use Rattle.sia_events.specs.declared.event.Event.{Event}
use Rattle.sia_events.specs.declared.event.Event.TheVariants.{Read}
use Rattle.sia_events.specs.declared.log.Row.{Row}
use Rattle.sia_events.specs.declared.fault.Refusal.{Refusal}
use Rattle.sia_events.specs.declared.fault.Refusal.TheVariants as refusals
use Rattle.sia_events.specs.declared.fault.Reason.TheVariants.{AlreadyEnded, NotWritten}
use Rattle.sia_events.specs.declared.log.TxnEnd.TheVariants.{Open}
use Rattle.sia_events.specs.declared.log.TxnRow.{TxnRow}
use Rattle.sia_events.specs.declared.log.WriteRow.{WriteRow}
use Rattle.sia_events.specs.declared.log.SeenRow.{SeenRow}
use Rattle.sia_events.specs.declared.draft.Mention.{Mention}
use Rattle.sia_events.specs.declared.log.Tables.{Tables}
use Rattle.sia_events.specs.declared.draft.Draft.{Draft}
use Rattle.sia_events.specs.Finding.{Finds}
use Rattle.sia_events.specs.OwnWrites.{Tracks}
use Rattle.sia_events.specs.Known.{ends, fault_of}
use Rattle.sia_events.specs.Numbering.{Names, entered, same_number, same_pair, IsSeen, IsWithin, IsMarked, event_of, mark, pair_at, writes_of}
use Rattle.sia_events.specs.LogTables.{AreTables, AreSound, txn_names, names_in, events_of}

-- a row by key: its write made its version of the key
abbrev pub AreSeen : Names → List SeenRow → Type 0
AreSeen names seen = (i : ℕ) (x : SeenRow) → slice_get seen i ≡ Some x → (slice_get names.keys i ≡ Some x.key) × IsSeen names x.key x.version x.write

-- each row is found by its name
pub record AreFound (d : Draft) : Type 0 where
  pub sound : AreSound d.tables
  pub txns : Finds d.txns (txn_names d.tables.txns.items)
  pub keys : Finds d.keys (map (λ row. row.key) d.last_seen.items)
  pub writes : Tracks d.writes d.tables.writes.items
  pub long : length d.tables.txns.items ≤ length d.writes.writers.items
  pub level : map (λ row. row.key) d.last_seen.items ≡ d.tables.keys.items
  pub seen : AreSeen (names_in d.tables) d.last_seen.items

unfoldable pub Knows : Draft → Type 0
Knows d = AreTables d.tables × AreFound d

-- one event more has a place
pub record CanTake (d : Draft) : Type 0 where
  pub knows : Knows d
  pub few : length d.tables.events.items ≤ 2 ^ 29

-- all tables but those of transactions, of keys, and of writes
pub record SameButTxns (t u : Tables) : Type 0 where
  pub keys : u.keys.items ≡ t.keys.items
  pub writes : u.writes.items ≡ t.writes.items
  pub ranges : u.ranges.items ≡ t.ranges.items
  pub pairs : u.pairs.items ≡ t.pairs.items
  pub events : u.events.items ≡ t.events.items

pub record SameButKeys (t u : Tables) : Type 0 where
  pub txns : u.txns.items ≡ t.txns.items
  pub writes : u.writes.items ≡ t.writes.items
  pub ranges : u.ranges.items ≡ t.ranges.items
  pub pairs : u.pairs.items ≡ t.pairs.items
  pub events : u.events.items ≡ t.events.items

pub record SameButWrites (t u : Tables) : Type 0 where
  pub txns : u.txns.items ≡ t.txns.items
  pub keys : u.keys.items ≡ t.keys.items
  pub ranges : u.ranges.items ≡ t.ranges.items
  pub pairs : u.pairs.items ≡ t.pairs.items
  pub events : u.events.items ≡ t.events.items

-- x is none of these
abbrev pub IsNew : List ℕ → ℕ → Type 0
IsNew xs x = (n : ℕ) → slice_get xs n ≢ Some x

-- one more transaction, which is open
abbrev pub new_txn : ℕ → ℕ → TxnRow
new_txn name start = record { name = name; start = start; end = Open }

-- the transaction of that name, which hasn't ended, has the number, and may be a new one that starts there
pub record Acts (t u : Tables) (name number : ℕ) : Type 0 where
  pub same : SameButTxns t u
  pub going : list_any (ends name) (events_of t) ≡ false
  pub is : slice_get (txn_names u.txns.items) number ≡ Some name
  pub rows : (u.txns.items ≡ t.txns.items) ⊎ (IsNew (txn_names t.txns.items) name × (u.txns.items ≡ t.txns.items ++ new_txn name (length (events_of t)) ∷ []))

-- the key has the number, and may be a new one
pub record HasKey (t u : Tables) (name number : ℕ) : Type 0 where
  pub same : SameButKeys t u
  pub is : slice_get u.keys.items number ≡ Some name
  pub keys : u.keys.items ≡ entered same_number t.keys.items name

-- the number of the write of that key and transaction, from 1, or 0 where there is none
abbrev pub IsWriteOr : Names → ℕ × ℕ → ℕ → Type 0
IsWriteOr names p zero = list_any (same_pair p) names.writes ≡ false
IsWriteOr names p (suc w) = slice_get names.writes w ≡ Some p

-- the version is 0, or made by one of the writes
abbrev pub is_seen : List (ℕ × ℕ) → ℕ × ℕ → Bool
is_seen writes p = (p.1 == 0) || list_any (same_pair p) writes

-- the first write of that key and transaction has the number, and may be a new one
pub record HasWrite (t u : Tables) (p : ℕ × ℕ) (number : ℕ) : Type 0 where
  pub same : SameButWrites t u
  pub above : 0 < number
  pub is : slice_get (names_in u).writes (number - 1) ≡ Some p
  pub more : List WriteRow
  pub rows : u.writes.items ≡ t.writes.items ++ more
  pub names : (names_in u).writes ≡ entered same_pair (names_in t).writes p

-- the row spells the read, and says whether the reader had written the key
pub record IsReadRow (names : Names) (t k v : ℕ) (r : Row) : Type 0 where
  pub spells : event_of names r ≡ Read t k v
  pub within : IsWithin names r
  pub marked : (h : List Event) → names.writes ≡ writes_of h → IsMarked names h r

-- the listed keys with their versions
abbrev pub mentioned : List Mention → List (ℕ × ℕ)
mentioned listed = map (λ m. (m.key, m.saw)) listed

-- a listed pair has the number: that of its write, or of its key, which may be a new one, where version 0 was seen
pub record HasPair (t u : Tables) (k v pair : ℕ) : Type 0 where
  pub number : ℕ
  pub write : ℕ
  pub has : HasKey t u k number
  pub seen : IsSeen (names_in u) k v write
  pub some : 0 < write → pair ≡ write
  pub none : write ≡ 0 → pair ≡ mark + number

-- a listed pair has a number at the end of the list of all pairs
pub record ListsOne (t u : Tables) (k v : ℕ) : Type 0 where
  pub txns : u.txns.items ≡ t.txns.items
  pub keys : u.keys.items ≡ entered same_number t.keys.items k
  pub writes : u.writes.items ≡ t.writes.items
  pub ranges : u.ranges.items ≡ t.ranges.items
  pub events : u.events.items ≡ t.events.items
  pub pair : ℕ
  pub pairs : u.pairs.items ≡ t.pairs.items ++ pair ∷ []
  pub is : pair_at (names_in u) pair ≡ (k, v)
  pub seen : is_seen (names_in t).writes (k, v) ≡ true

-- the same of several
pub record Lists (t u : Tables) (listed : List (ℕ × ℕ)) : Type 0 where
  pub txns : u.txns.items ≡ t.txns.items
  pub keys : u.keys.items ≡ fold (entered same_number) t.keys.items (map (λ p. p.0) listed)
  pub writes : u.writes.items ≡ t.writes.items
  pub ranges : u.ranges.items ≡ t.ranges.items
  pub events : u.events.items ≡ t.events.items
  pub more : List ℕ
  pub pairs : u.pairs.items ≡ t.pairs.items ++ more
  pub are : map (pair_at (names_in u)) more ≡ listed
  pub seen : list_all (is_seen (names_in t).writes) listed ≡ true

-- why a pair can't be listed
abbrev pub StopsAtPair : Draft → Draft → ℕ → ℕ → Refusal → Type 0
StopsAtPair d e k v refusals.NoMemory = ⊤
StopsAtPair d e k v (refusals.Bad reason) = (reason ≡ NotWritten) × (is_seen (names_in d.tables).writes (k, v) ≡ false) × (events_of e.tables ≡ events_of d.tables)

abbrev pub StopsListing : Draft → Draft → List (ℕ × ℕ) → Refusal → Type 0
StopsListing d e listed refusals.NoMemory = ⊤
StopsListing d e listed (refusals.Bad reason) = (reason ≡ NotWritten) × (list_all (is_seen (names_in d.tables).writes) listed ≡ false) × (events_of e.tables ≡ events_of d.tables)

-- why a transaction can't act
abbrev pub StopsActing : Draft → Draft → ℕ → Refusal → Type 0
StopsActing d e name refusals.NoMemory = ⊤
StopsActing d e name (refusals.Bad reason) = (reason ≡ AlreadyEnded) × (list_any (ends name) (events_of d.tables) ≡ true) × (e.tables ≡ d.tables)

-- what taking in an event answers: it follows the others, or it has that reason and they stay as they are
unfoldable pub Takes : Draft → Draft → Event → Result ⊤ Refusal → Type 0
Takes d e event (Ok done) = (fault_of (events_of d.tables) (length (events_of d.tables)) event ≡ None) × (events_of e.tables ≡ events_of d.tables ++ event ∷ []) × Knows e
Takes d e event (Err refusals.NoMemory) = ⊤
Takes d e event (Err (refusals.Bad reason)) = (fault_of (events_of d.tables) (length (events_of d.tables)) event ≡ Some reason) × (events_of e.tables ≡ events_of d.tables)

-- a token that is refused leaves the events as they are
abbrev pub Stays : Refusal → List Event → List Event → Type 0
Stays refusals.NoMemory before after = ⊤
Stays (refusals.Bad reason) before after = after ≡ before
