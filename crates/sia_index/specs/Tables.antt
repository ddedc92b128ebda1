-- What the tables of an index hold of its history.
use Rattle.std.specs.Prelude.{◌≡◌, ◌<◌, ◌≤◌, ℕ, All, AllPairs, Some, List, [], ◌∷◌, length, slice_get, slice_index, slice_index_or}
use Rattle.sia_events.specs.declared.event.Event.{Event}
use Rattle.sia_events.specs.declared.log.TxnRow.{TxnRow}
use Rattle.sia_events.specs.Finding.{Finds}
use Rattle.sia_events.specs.Lists.{ListsAscending, Precedes}
use Rattle.sia_events.specs.LogTables.{Lives, txn_names}
use Rattle.sia_events.specs.Numbering.{names_of, txns_of, keys_of, write_at, writes_of}
use Rattle.sia_events.specs.Refusals.{IsWellFormed}
use Rattle.sia_events.specs.Transactions.{IsCommitted, WritesAt}
use Rattle.sia_index.specs.Lifetimes.{AreLifetimes}
use Rattle.sia_index.specs.Lists.{joined}
use Rattle.sia_index.specs.Minima.{AreMinima}
use Rattle.sia_index.specs.Rows.{IsColumn, IsWritten}
use Rattle.sia_index.specs.VersionRows.{AreFirsts, AreRowsByPosition, AreWritesAt, commit_behind, made_row}
use Rattle.sia_index.specs.declared.versions.VersionRow.{VersionRow}
use Rattle.sia_index.specs.declared.names.Keys.{Keys}
use Rattle.sia_index.specs.declared.txns.Txns.{Txns}
use Rattle.sia_index.specs.declared.versions.Versions.{Versions}
use Rattle.sia_index.specs.declared.writes.Writes.{Writes}

-- for each number below the count the place of the row that has it, or one behind all rows
pub record ArePlaces {A : Type 0} (number : A → ℕ) (rows : List A) (count : ℕ) (places : List ℕ) : Type 0 where
  pub long : length places ≡ count
  pub few : length rows ≤ count
  pub each : (i : ℕ) (d : A) → i < length rows → slice_index places (number (slice_index_or rows i d)) ≡ i
  pub only : (q : ℕ) (d : A) → q < count → slice_index places q < length rows → number (slice_index_or rows (slice_index places q) d) ≡ q

-- the listed names are those in a log that have K, ascending, and each number there has the place of its name among them, or one
-- behind them all
pub record AreNumbers (K : ℕ → Type 0) (names listed numbers : List ℕ) : Type 0 where
  pub listed_are : ListsAscending K listed
  pub long : length numbers ≡ length names
  pub few : length listed ≤ length names
  pub each : (q : ℕ) → q < length names → slice_index numbers q < length listed → slice_index listed (slice_index numbers q) ≡ slice_index names q
  pub none : (q : ℕ) → q < length names → length listed ≤ slice_index numbers q → ¬ K (slice_index names q)

-- the row of each transaction stands at its number in the log
pub record AreTxnRows (h : List Event) (rows : List TxnRow) : Type 0 where
  pub names : txn_names rows ≡ txns_of h
  pub lives : All (Lives h) rows

pub record AreTxns (h : List Event) (t : Txns) : Type 0 where
  pub known : AreTxnRows h t.known.items
  pub found : Finds t.finder (txn_names t.known.items)
  pub committed : AreNumbers (IsCommitted h) (txns_of h) t.committed.items t.committed_numbers.items
  pub lifetimes : AreLifetimes h t.committed.items t.lifetimes.items

abbrev pub AreKeys : List Event → Keys → Type 0
AreKeys h k = AreNumbers (IsWritten h) (keys_of h) k.keys.items k.numbers.items

-- the positions of the versions that each of so many transactions made, by its number, each ascending
abbrev pub AreMadeBy : List ℕ → ℕ → List (List ℕ) → Type 0
AreMadeBy makers txns lists = (length lists ≡ txns) × ((t : ℕ) → t < txns → ListsAscending (λ q. slice_get makers q ≡ Some t) (slice_index_or lists t []))

-- the tables by position, by key, by write and by transaction
pub record AreVersionTables (h : List Event) (committed keys : List ℕ) (v : Versions) : Type 0 where
  pub rows : List VersionRow
  pub rows_are : AreRowsByPosition h committed keys rows
  pub made_are : IsColumn (made_row h) rows (length rows) v.made.items
  pub keys_are : IsColumn (λ row. row.key) rows (length rows) v.keys.items
  pub makers_are : IsColumn (λ row. row.maker) rows (length rows) v.makers.items
  pub firsts_are : AreFirsts rows (length rows) (length keys) v.firsts.items
  pub writes_are : AreWritesAt h keys rows (length rows) v.writes.items
  pub made_by_are : AreMadeBy v.makers.items (length committed) v.made_by
  pub first_commits_are : IsColumn (commit_behind v.made.items) v.firsts.items (length v.firsts.items) v.first_commits.items
  pub minima_are : AreMinima (λ place. place) v.first_commits.items v.minima.items

-- the place of each write, of those behind place n
pub record AreWritePlaces (h : List Event) (n : ℕ) (places : List ℕ) : Type 0 where
  pub long : length places ≡ length (writes_of h)
  pub each : (w k t p : ℕ) → slice_get (writes_of h) w ≡ Some (k, t) → WritesAt h t k p → n < p → WritesAt h t k (slice_index places w) × (slice_index places w ≤ p)

-- the writes of each key, of each transaction the places of its own among them, and where these stand in the history
pub record AreWriteTables (h : List Event) (keys : List ℕ) (w : Writes) : Type 0 where
  pub key_count : length w.by_key ≡ length keys
  pub by_key : (i : ℕ) → i < length keys → ListsAscending (λ n. (t : ℕ) × (slice_get (writes_of h) n ≡ Some (slice_index keys i, t))) (slice_index_or w.by_key i [])
  pub rise : AllPairs (λ m n. Precedes ((write_at (names_of h) m).0 ∷ m ∷ []) ((write_at (names_of h) n).0 ∷ n ∷ [])) (joined w.by_key)
  pub txn_count : length w.by_txn ≡ length (txns_of h)
  pub by_txn : (d : ℕ) → d < length (txns_of h) → ListsAscending (λ p. (n k : ℕ) × (slice_get (joined w.by_key) p ≡ Some n) × (slice_get (writes_of h) n ≡ Some (k, slice_index (txns_of h) d))) (slice_index_or w.by_txn d [])
  pub places : List ℕ
  pub places_are : AreWritePlaces h 0 places
  pub own_places : IsColumn (λ p. slice_index places (slice_index (joined w.by_key) p)) (joined w.by_txn) (length (joined w.by_txn)) w.own_places.items
  pub minima_are : AreMinima (λ place. place) w.own_places.items w.minima.items

pub record AreTables (h : List Event) (t : Txns) (k : Keys) (v : Versions) (w : Writes) : Type 0 where
  pub well_formed : IsWellFormed h
  pub txns_are : AreTxns h t
  pub keys_are : AreKeys h k
  pub versions_are : AreVersionTables h t.committed.items k.keys.items v
  pub writes_are : AreWriteTables h k.keys.items w
