-- The edges from one transaction as rows, by numbers, and what they are made from: the positions of what was written and seen.
use Rattle.std.specs.Prelude.{◌≡◌, ◌≢◌, ◌↔◌, ◌⊎◌, ℕ, ◌+◌, ◌-◌, ◌*◌, ◌<◌, ◌≤◌, List, [], Contains, length, map, slice_index, slice_index_or, take, vec_capacity}
use Rattle.std.specs.Global.{Vec}
use Rattle.std.specs.List.Sorted.{IsNonDecreasingBy}
use Rattle.sia_events.specs.declared.event.Event.{Event}
use Rattle.sia_events.specs.Lists.{ListsAscending, ListsBy}
use Rattle.sia_events.specs.Transactions.{IsCommitted}
use Rattle.sia_index.specs.declared.info.KeyVersion.{KeyVersion}
use Rattle.sia_index.specs.Info.{AreWrittenKeys, IsKeyAt}
use Rattle.sia_index.specs.Lists.{joined}
use Rattle.sia_index.specs.Numbers.{IsCommittedAt}
use Rattle.sia_index.specs.Positions.{ArePositions, HasPosition, IsAtPosition}
use Rattle.sia_parts.specs.declared.accesses.RangeMiss.{RangeMiss}
use Rattle.sia_parts.specs.declared.accesses.Accesses.{Accesses}
use Rattle.sia_parts.specs.declared.edges.EdgeTo.{EdgeTo}
use Rattle.sia_parts.specs.declared.edges.Edges.{Edges}
use Rattle.sia_parts.specs.declared.ordered.Ordered.{Ordered}
use Rattle.sia_parts.specs.declared.finding.Edge.{Edge}
use Rattle.sia_parts.specs.declared.finding.Kind.{Kind}
use Rattle.sia_parts.specs.declared.finding.Kind.TheVariants.{Ww, Wr, Rw}
use Rattle.sia_parts.specs.Accesses.{AreAccesses, Missed, SawPosition}
use Rattle.sia_parts.specs.Entries.{IsEdge, edge_rank}
use Rattle.sia_parts.specs.Parts.{IsWithin}
use Rattle.sia_parts.specs.Sights.{Adds}

-- the row by names, from this source
abbrev pub edge_of : List ℕ → List ℕ → ℕ → EdgeTo → Edge
edge_of txns keys i row = record { src = slice_index txns i; dst = slice_index txns row.target; kind = row.kind; key = slice_index keys row.key }

-- an edge at one of these keys, whose source has a number from the one to before the other
abbrev pub IsEdgeBetween : List Event → (ℕ → Type 0) → ℕ → ℕ → Edge → Type 0
IsEdgeBetween h Within from to e = IsEdge h e × Within e.key × (i : ℕ) × (from ≤ i) × (i < to) × IsCommittedAt h i e.src

-- these edges, each once, in order
abbrev pub ListsEdgesBetween : List Event → (ℕ → Type 0) → ℕ → ℕ → List Edge → Type 0
ListsEdgesBetween h Within from to edges = ListsBy edge_rank (IsEdgeBetween h Within from to) edges

-- the rows are the edges at these keys from number i, each once, in order
pub record AreEdgesFrom (h : List Event) (Within : ℕ → Type 0) (i : ℕ) (rows : List EdgeTo) : Type 0 where
  pub targets : (row : EdgeTo) → Contains rows row → (u : ℕ) × IsCommittedAt h row.target u
  pub keys : (row : EdgeTo) → Contains rows row → (k : ℕ) × IsKeyAt h row.key k
  pub edges : (txns keys : List ℕ) → ListsAscending (IsCommitted h) txns → AreWrittenKeys h keys → ListsEdgesBetween h Within i (i + 1) (map (edge_of txns keys i) rows)

-- the version at position q is of key number j
pub record IsOfKey (h : List Event) (j q : ℕ) : Type 0 where
  pub version : KeyVersion
  pub at : IsAtPosition h q version
  pub key : IsKeyAt h j version.key

-- number i made the version of key number j at position q
pub record IsMadeAt (h : List Event) (i j q : ℕ) : Type 0 where
  pub version : KeyVersion
  pub at : IsAtPosition h q version
  pub key : IsKeyAt h j version.key
  pub made : 0 < version.commit
  pub maker : IsCommittedAt h i version.txn

-- both positions are of one key, and the second isn't before the first
pub record StandsBehind (h : List Event) (q p : ℕ) : Type 0 where
  pub le : q ≤ p
  pub forth : (j : ℕ) → IsOfKey h j q → IsOfKey h j p
  pub back : (j : ℕ) → IsOfKey h j p → IsOfKey h j q

-- an edge of this kind leads from i to u at key number j, as the positions tell: behind a version that i made u made one; u saw
-- what i made or what is behind it; behind a version that i saw u made one, or i passed over the key and u made a version
abbrev pub IsToldEdge : List Event → Accesses → Kind → ℕ → ℕ → ℕ → Type 0
IsToldEdge h a Ww i u j = (q : ℕ) × (p : ℕ) × IsMadeAt h i j q × IsMadeAt h u j p × (q < p)
IsToldEdge h a Wr i u j = (u ≢ i) × (q : ℕ) × (p : ℕ) × IsMadeAt h i j q × SawPosition a u p × IsOfKey h j p × (q ≤ p)
IsToldEdge h a Rw i u j = (u ≢ i) × (p : ℕ) × IsMadeAt h u j p × (((q : ℕ) × SawPosition a i q × IsOfKey h j q × (q < p)) ⊎ Missed a i j)

-- number u is noted at position p
abbrev pub HasReading : List (List ℕ) → ℕ → ℕ → Type 0
HasReading readings p u = Contains (slice_index_or readings p []) u

-- at each position stand those who saw the version there
pub record AreSeen (h : List Event) (a : Accesses) (seen : List (List ℕ)) : Type 0 where
  pub long : ArePositions h (length seen)
  pub each : (p u : ℕ) → HasReading seen p u ↔ SawPosition a u p

-- those of them, among whom each stands at the newest that it saw of a key
pub record AreReadings (h : List Event) (a : Accesses) (readings : List (List ℕ)) : Type 0 where
  pub long : ArePositions h (length readings)
  pub seen : (p u : ℕ) → HasReading readings p u → SawPosition a u p
  pub newest : (u q : ℕ) → SawPosition a u q → (p : ℕ) × StandsBehind h q p × HasReading readings p u

-- accesses in order, and who saw each version
pub record AreOrdered (h : List Event) (Within : ℕ → Type 0) (o : Ordered) : Type 0 where
  pub accesses : AreAccesses h Within o.accesses
  pub saw_rise : (i : ℕ) → IsNonDecreasingBy (λ q. q) (slice_index_or o.accesses.saw i [])
  pub missed_rise : (i : ℕ) → IsNonDecreasingBy (λ miss. miss.from) (slice_index_or o.accesses.missed i [])
  pub seen : AreSeen h o.accesses o.seen
  pub newest : AreReadings h o.accesses o.newest

-- the list has some of these positions, and one of each key of them that isn't older than theirs
pub record IsNewest (h : List Event) (Saw : ℕ → Type 0) (list : List ℕ) : Type 0 where
  pub each : (p : ℕ) → Contains list p → Saw p
  pub newest : (q : ℕ) → Saw q → (p : ℕ) × StandsBehind h q p × Contains list p

-- each list has such of the list of its number
pub record AreNewest (h : List Event) (saw newest : List (List ℕ)) : Type 0 where
  pub long : length newest ≡ length saw
  pub each : (i : ℕ) → i < length saw → IsNewest h (Contains (slice_index_or saw i [])) (slice_index_or newest i [])

-- what number i saw, and what it passed over
abbrev pub saw_by : Edges → ℕ → List ℕ
saw_by edges i = slice_index_or edges.accesses.now.saw i []

abbrev pub missed_by : Edges → ℕ → List RangeMiss
missed_by edges i = slice_index_or edges.accesses.now.missed i []

-- how many are noted before position q, and from one to before another
abbrev pub noted_before : List (List ℕ) → ℕ → ℕ
noted_before readings q = length (joined (take q readings))

abbrev pub noted_between : List (List ℕ) → ℕ → ℕ → ℕ
noted_between readings q e = noted_before readings e - noted_before readings q

-- how many rows there are from one source at most: for each position three to its maker, which are of what the source made, saw
-- and passed over, and one for each who is noted
abbrev pub row_bound : Edges → ℕ
row_bound edges = 3 * length edges.readings.now + length (joined edges.readings.now)

-- there is room for so many rows more
abbrev pub HasRoom : ℕ → Vec EdgeTo → Type 0
HasRoom n rows = length rows.items + n ≤ vec_capacity rows

-- the list has what has P more, which are so many at most, in the same room
pub record Puts (P : EdgeTo → Type 0) (most : ℕ) (old new : Vec EdgeTo) : Type 0 where
  pub adds : Adds P old.items new.items
  pub few : length new.items ≤ length old.items + most
  pub room : vec_capacity new ≡ vec_capacity old

-- edges can be told from it
pub record CanTell (edges : Edges) : Type 0 where
  pub accesses : AreAccesses edges.index.now (IsWithin edges.within) edges.accesses.now
  pub saw_rise : (i : ℕ) → IsNonDecreasingBy (λ q. q) (saw_by edges i)
  pub missed_rise : (i : ℕ) → IsNonDecreasingBy (λ miss. miss.from) (missed_by edges i)
  pub readings : AreReadings edges.index.now edges.accesses.now edges.readings.now

-- the positions of the key that q is of end before e
pub record IsKeyEnd (h : List Event) (q e : ℕ) : Type 0 where
  pub of : (j : ℕ) × IsOfKey h j q
  pub there : (p : ℕ) → q ≤ p → p < e → HasPosition h p
  pub own : (j p : ℕ) → IsOfKey h j q → q ≤ p → p < e → IsOfKey h j p
  pub past : (j p : ℕ) → IsOfKey h j q → IsOfKey h j p → p < e

-- the row is an edge from i to who made a version of its key behind position q
abbrev pub IsMakerRow : List Event → ℕ → Kind → ℕ → EdgeTo → Type 0
IsMakerRow h i kind q row = (row.kind ≡ kind) × (row.target ≢ i) × IsOfKey h row.key q × (p : ℕ) × (q < p) × IsMadeAt h row.target row.key p

-- to this reader
abbrev pub IsReadingRow : ℕ → ℕ → ℕ → EdgeTo → Type 0
IsReadingRow i j u row = (row ≡ record { target = u; kind = Wr; key = j }) × (u ≢ i)

-- to who is noted at position q or behind it
abbrev pub IsReaderRow : Edges → ℕ → ℕ → EdgeTo → Type 0
IsReaderRow edges i q row = (row.kind ≡ Wr) × (row.target ≢ i) × IsOfKey edges.index.now row.key q
    × (p : ℕ) × (q ≤ p) × IsOfKey edges.index.now row.key p × HasReading edges.readings.now p row.target

-- either of these, at a version within that i made
abbrev pub IsMadeRow : Edges → ℕ → EdgeTo → Type 0
IsMadeRow edges i row = (q : ℕ) × IsMadeAt edges.index.now i row.key q × ((k : ℕ) × IsKeyAt edges.index.now row.key k × IsWithin edges.within k)
    × (IsMakerRow edges.index.now i Ww q row ⊎ IsReaderRow edges i q row)

-- to who made a version of a key from one number to before another
abbrev pub IsMissRow : List Event → ℕ → ℕ → ℕ → EdgeTo → Type 0
IsMissRow h i from to row = (row.kind ≡ Rw) × (row.target ≢ i) × (from ≤ row.key) × (row.key < to) × (p : ℕ) × IsMadeAt h row.target row.key p
