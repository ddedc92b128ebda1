-- Transactions, keys and first writes, numbered as they first appear, and events by these numbers.
use Rattle.std.specs.Prelude.{◌≡◌, ◌⊎◌, AllPairs, ℕ, zero, suc, ◌+◌, ◌-◌, ◌<◌, ◌≤◌, ◌==◌, ◌&&◌, Bool, true, false, if◌then◌else◌, nat_lt, List, [], ◌∷◌, ◌++◌, map, length, Some, slice_get, ⊤}
use Rattle.std.specs.List.{list_any, fold, flat_map, slice_index_or}
use Rattle.sia_events.specs.declared.event.Event.{Event}
use Rattle.sia_events.specs.declared.event.Event.TheVariants.{Begin, Read, Range, Write, Commit, Abort}
use Rattle.sia_events.specs.declared.log.Row.{Row}
use Rattle.sia_events.specs.declared.log.Row.TheVariants as rows
use Rattle.sia_events.specs.declared.log.TxnEnd.{TxnEnd}
use Rattle.sia_events.specs.declared.log.TxnEnd.TheVariants as ends
use Rattle.sia_events.specs.Events.{actor}
use Rattle.sia_events.specs.Transactions.{IsOpen, CommitsAt, AbortsAt}

-- x behind xs, unless it is there already
abbrev pub entered : {A : Type 0} → (A → A → Bool) → List A → A → List A
entered same xs x = if list_any (same x) xs then xs else xs ++ x ∷ []

-- each once, in the order in which they first appear
abbrev pub distinct : {A : Type 0} → (A → A → Bool) → List A → List A
distinct same xs = fold (entered same) [] xs

abbrev pub same_number : ℕ → ℕ → Bool
same_number t u = t == u

abbrev pub same_pair : ℕ × ℕ → ℕ × ℕ → Bool
same_pair p q = (p.0 == q.0) && (p.1 == q.1)

abbrev pub keys_in : Event → List ℕ
keys_in (Begin t start) = []
keys_in (Read t k v) = k ∷ []
keys_in (Range t lo hi listed) = map (λ p. p.0) listed
keys_in (Write t k) = k ∷ []
keys_in (Commit t) = []
keys_in (Abort t) = []

-- the key that an event writes, and the version that it makes
abbrev pub writes_in : Event → List (ℕ × ℕ)
writes_in (Begin t start) = []
writes_in (Read t k v) = []
writes_in (Range t lo hi listed) = []
writes_in (Write t k) = (k, t) ∷ []
writes_in (Commit t) = []
writes_in (Abort t) = []

-- a range with its listed keys
abbrev pub ranges_in : Event → List (ℕ × ℕ × List (ℕ × ℕ))
ranges_in (Begin t start) = []
ranges_in (Read t k v) = []
ranges_in (Range t lo hi listed) = (lo, hi, listed) ∷ []
ranges_in (Write t k) = []
ranges_in (Commit t) = []
ranges_in (Abort t) = []

-- transactions by number, from 0
unfoldable pub txns_of : List Event → List ℕ
txns_of h = distinct same_number (map actor h)

-- keys that an event reads, lists or writes, by number, from 0
unfoldable pub keys_of : List Event → List ℕ
keys_of h = distinct same_number (flat_map keys_in h)

-- first writes of a key by a transaction: the first has number 1
unfoldable pub writes_of : List Event → List (ℕ × ℕ)
writes_of h = distinct same_pair (flat_map writes_in h)

-- range reads by number, from 0
unfoldable pub ranges_of : List Event → List (ℕ × ℕ × List (ℕ × ℕ))
ranges_of h = flat_map ranges_in h

-- what numbers stand for
pub record Names : Type 0 where
  pub txns : List ℕ
  pub keys : List ℕ
  pub writes : List (ℕ × ℕ)
  pub ranges : List (ℕ × ℕ × List (ℕ × ℕ))

abbrev pub names_of : List Event → Names
names_of h = record { txns = txns_of h; keys = keys_of h; writes = writes_of h; ranges = ranges_of h }

abbrev pub txn_at : Names → ℕ → ℕ
txn_at names d = slice_index_or names.txns d 0

abbrev pub key_at : Names → ℕ → ℕ
key_at names d = slice_index_or names.keys d 0

-- the key and the version of write number w + 1
abbrev pub write_at : Names → ℕ → ℕ × ℕ
write_at names w = slice_index_or names.writes w (0, 0)

-- version 0, or that which the write made
abbrev pub version_at : Names → ℕ → ℕ
version_at names zero = 0
version_at names (suc w) = (write_at names w).1

abbrev pub range_at : Names → ℕ → ℕ × ℕ × List (ℕ × ℕ)
range_at names r = slice_index_or names.ranges r (0, 0, [])

-- more than there are writes
abbrev pub mark : ℕ
mark = 2147483648

-- a listed key with the version that was seen: a write's number, or the mark and the number of a key that was seen at version 0
unfoldable pub pair_at : Names → ℕ → ℕ × ℕ
pair_at names p = if nat_lt p mark then write_at names (p - 1) else (key_at names (p - mark), 0)

-- the event that a row spells
abbrev pub event_of : Names → Row → Event
event_of names (rows.Begin d start) = Begin (txn_at names d) start
event_of names (rows.Read d k w) = Read (txn_at names d) (key_at names k) (version_at names w)
event_of names (rows.OwnRead d k w) = Read (txn_at names d) (key_at names k) (version_at names w)
event_of names (rows.Range d r w) = Range (txn_at names d) (range_at names r).0 (range_at names r).1 (range_at names r).2
event_of names (rows.Write d k w) = Write (txn_at names d) (key_at names k)
event_of names (rows.Commit d) = Commit (txn_at names d)
event_of names (rows.Abort d) = Abort (txn_at names d)

-- write number w is of that key and that transaction
abbrev pub IsWriteOf : Names → ℕ → ℕ → ℕ → Type 0
IsWriteOf names w k t = (0 < w) × (slice_get names.writes (w - 1) ≡ Some (k, t))

-- the version of the key, and the number of the write that made it: both 0 for version 0
abbrev pub IsSeen : Names → ℕ → ℕ → ℕ → Type 0
IsSeen names k v zero = v ≡ 0
IsSeen names k v (suc w) = slice_get names.writes w ≡ Some (k, v)

-- listed pairs by number, each of a greater key than those before it
abbrev pub AscendByKey : List Event → List ℕ → Type 0
AscendByKey h pairs = AllPairs (λ p q. (pair_at (names_of h) p).0 < (pair_at (names_of h) q).0) pairs

-- a number of a listed pair has something that it stands for
abbrev pub IsPair : Names → ℕ → Type 0
IsPair names p = ((0 < p) × (p ≤ length names.writes) × (length names.writes < mark)) ⊎ ((mark ≤ p) × (p < mark + length names.keys))

-- each number of a row has something that it stands for, and a version is one of the key
abbrev pub IsWithin : Names → Row → Type 0
IsWithin names (rows.Begin d start) = d < length names.txns
IsWithin names (rows.Read d k w) = (d < length names.txns) × (k < length names.keys) × IsSeen names (key_at names k) (version_at names w) w
IsWithin names (rows.OwnRead d k w) = (d < length names.txns) × (k < length names.keys) × IsSeen names (key_at names k) (version_at names w) w
IsWithin names (rows.Range d r w) = (d < length names.txns) × (r < length names.ranges)
IsWithin names (rows.Write d k w) = (d < length names.txns) × (k < length names.keys) × IsWriteOf names w (key_at names k) (txn_at names d)
IsWithin names (rows.Commit d) = d < length names.txns
IsWithin names (rows.Abort d) = d < length names.txns

-- what a row says of the events before it: whether the reader wrote the key, and how many first writes there are
abbrev pub IsMarked : Names → List Event → Row → Type 0
IsMarked names before (rows.Begin d start) = ⊤
IsMarked names before (rows.Read d k w) = list_any (same_pair (key_at names k, txn_at names d)) (writes_of before) ≡ false
IsMarked names before (rows.OwnRead d k w) = list_any (same_pair (key_at names k, txn_at names d)) (writes_of before) ≡ true
IsMarked names before (rows.Range d r w) = w ≡ length (writes_of before)
IsMarked names before (rows.Write d k w) = ⊤
IsMarked names before (rows.Commit d) = ⊤
IsMarked names before (rows.Abort d) = ⊤

-- how t ended, and at which place
abbrev pub Ends : List Event → ℕ → TxnEnd → Type 0
Ends h t ends.Open = IsOpen h t
Ends h t (ends.Committed p) = CommitsAt h t p
Ends h t (ends.Aborted p) = AbortsAt h t p
