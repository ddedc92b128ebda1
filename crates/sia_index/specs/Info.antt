-- What is known of a transaction, and of a committed transaction's version of a key.
use Rattle.std.specs.Prelude.{◌≡◌, ◌<◌, ◌≤◌, ℕ, true, false, List, [], ◌∷◌, Option, Some, None, slice_get, slice_index, length}
use Rattle.sia_events.specs.declared.event.Event.{Event}
use Rattle.sia_events.specs.Lists.{ListsBy, ListsAscending}
use Rattle.sia_events.specs.Numbering.{txns_of}
use Rattle.sia_events.specs.Transactions.{StartsAt, CommitsAt, AbortsAt, IsOpen, WritesAt, Wrote}
use Rattle.sia_index.specs.declared.info.Made.{Made}
use Rattle.sia_index.specs.declared.info.Reader.{Reader}
use Rattle.sia_index.specs.declared.info.TxnInfo.{TxnInfo}
use Rattle.sia_index.specs.declared.info.Fate.{Fate}
use Rattle.sia_index.specs.declared.info.Fate.TheVariants.{Committed, Aborted, Unfinished}

-- how t ended, and where
abbrev pub EndsAs : List Event → ℕ → Fate → Option ℕ → Type 0
EndsAs h t Committed None = ⊥
EndsAs h t Committed (Some p) = CommitsAt h t p
EndsAs h t Aborted None = ⊥
EndsAs h t Aborted (Some p) = AbortsAt h t p
EndsAs h t Unfinished None = IsOpen h t
EndsAs h t Unfinished (Some p) = ⊥

-- where t starts, and how it ended
abbrev pub IsInfo : List Event → ℕ → TxnInfo → Type 0
IsInfo h t info = StartsAt h t info.start × EndsAs h t info.fate info.ended

-- a committed writer of k, with its commit
abbrev pub IsMade : List Event → ℕ → Made → Type 0
IsMade h k made = Wrote h made.txn k × CommitsAt h made.txn made.commit

-- the committed writers of k, each once, by commit
abbrev pub AreVersions : List Event → ℕ → List Made → Type 0
AreVersions h k versions = ListsBy (λ made. made.commit ∷ []) (IsMade h k) versions

-- the keys that some write event names, each once, ascending
abbrev pub AreWrittenKeys : List Event → List ℕ → Type 0
AreWrittenKeys h keys = ListsAscending (λ k. (t : ℕ) × Wrote h t k) keys

-- p is the place where t wrote key k first
abbrev pub IsFirstWrite : List Event → ℕ → ℕ → ℕ → Type 0
IsFirstWrite h t k p = WritesAt h t k p × ((q : ℕ) → WritesAt h t k q → p ≤ q)

-- there is a number i of the written keys, counted from 0
abbrev pub HasKeyAt : List Event → ℕ → Type 0
HasKeyAt h i = (keys : List ℕ) × AreWrittenKeys h keys × (i < length keys)

-- k is number i of the written keys, counted from 0
abbrev pub IsKeyAt : List Event → ℕ → ℕ → Type 0
IsKeyAt h i k = (keys : List ℕ) × AreWrittenKeys h keys × (i < length keys) × (slice_index keys i ≡ k)

-- what is known of t, which reads at place p: where it starts, whether it committed, and whether it wrote at all
pub record IsReader (h : List Event) (t p : ℕ) (r : Reader) : Type 0 where
  pub txn_is : r.txn ≡ t
  pub place_is : r.place ≡ p
  pub starts : StartsAt h t r.start
  pub numbered : slice_get (txns_of h) r.number ≡ Some t
  pub wrote_none : r.has_written ≡ false → (k : ℕ) → ¬ Wrote h t k
  pub wrote_some : r.has_written ≡ true → (k : ℕ) × Wrote h t k
