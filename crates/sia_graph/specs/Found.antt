-- What the neighbours of pivots are found by: what each transaction saw and passed over, and who saw a version and passed over a key.
use Rattle.std.specs.Prelude.{◌≡◌, ◌≢◌, ◌↔◌, ◌+◌, ◌-◌, ◌*◌, ◌<◌, ◌≤◌, ℕ, Bool, true, false, List, [], Contains, length, slice_index, slice_index_or, vec_capacity}
use Rattle.std.specs.Global.{Vec}
use Rattle.std.specs.List.Sorted.{IsNonDecreasingBy}
use Rattle.sia_events.specs.declared.event.Event.{Event}
use Rattle.sia_events.specs.Transactions.{CommitsAt, Overlap, StartsAt}
use Rattle.sia_index.specs.declared.info.KeyVersion.{KeyVersion}
use Rattle.sia_index.specs.Lists.{joined}
use Rattle.sia_index.specs.Minima.{AreMinima}
use Rattle.sia_index.specs.Numbers.{IsCommittedAt}
use Rattle.sia_index.specs.Positions.{ArePositions, IsAtPosition}
use Rattle.sia_parts.specs.declared.accesses.Accesses.{Accesses}
use Rattle.sia_parts.specs.declared.accesses.RangeMiss.{RangeMiss}
use Rattle.sia_parts.specs.Accesses.{HasMiss}
use Rattle.sia_parts.specs.EdgeRows.{AreSeen, HasReading}
use Rattle.sia_parts.specs.Sights.{Adds, FromSome}
use Rattle.sia_graph.specs.declared.neighbours.Neighbour.{Neighbour}
use Rattle.sia_graph.specs.declared.neighbours.Neighbours.{Neighbours}
use Rattle.sia_graph.specs.declared.neighbours.Passing.{Passing}
use Rattle.sia_graph.specs.declared.neighbours.Role.{Role}
use Rattle.sia_graph.specs.declared.neighbours.Role.TheVariants.{In, Out, First}
use Rattle.sia_graph.specs.Evidence.{IsEvidence}
use Rattle.sia_graph.specs.Neighbours.{HasRole}

-- the range misses of all, each with the number of who has it, by their first keys
pub record ArePassings (a : Accesses) (passings : List Passing) : Type 0 where
  pub each : (p : Passing) → Contains passings p ↔ HasMiss a p.reader (record { from = p.from; to = p.to })
  pub rise : IsNonDecreasingBy (λ p. p.from) passings

abbrev pub saw_of : Neighbours → ℕ → List ℕ
saw_of n i = slice_index_or n.evidence.accesses.now.saw i []

abbrev pub missed_of : Neighbours → ℕ → List RangeMiss
missed_of n i = slice_index_or n.evidence.accesses.now.missed i []

-- the number at a position is at most the start of any who made the version there or a later one of its key
pub record AreFirstStarts (h : List Event) (starts : List ℕ) : Type 0 where
  pub long : ArePositions h (length starts)
  pub first : (p q s : ℕ) (v w : KeyVersion) → IsAtPosition h p v → IsAtPosition h q w → w.key ≡ v.key → p ≤ q → StartsAt h w.txn s → slice_index starts p ≤ s

-- the number at a position is at least the commit of any who is noted there or at an earlier one of its key
pub record AreLastCommits (h : List Event) (looks : List (List ℕ)) (ends : List ℕ) : Type 0 where
  pub long : length ends ≡ length looks
  pub last : (p q u t c : ℕ) (v w : KeyVersion) → IsAtPosition h p v → IsAtPosition h q w → w.key ≡ v.key → q ≤ p → HasReading looks q u → IsCommittedAt h u t → CommitsAt h t c → c ≤ slice_index ends p

-- neighbours can be found
pub record CanFind (n : Neighbours) : Type 0 where
  pub evidence : IsEvidence n.evidence
  pub saw_rise : (i : ℕ) → IsNonDecreasingBy (λ q. q) (saw_of n i)
  pub missed_rise : (i : ℕ) → IsNonDecreasingBy (λ miss. miss.from) (missed_of n i)
  pub looks : AreSeen n.evidence.index.now n.evidence.accesses.now n.looks.now
  pub passings : ArePassings n.evidence.accesses.now n.passings.items
  pub reaches : AreMinima (λ p. 4294967295 - p.to) n.passings.items n.reaches.items
  pub starts : AreFirstStarts n.evidence.index.now n.starts.items
  pub ends : AreLastCommits n.evidence.index.now n.looks.now n.ends.items

-- how many ins there are at most, counted as often as they are found: each look and each range miss once
abbrev pub most_ins : Neighbours → ℕ
most_ins n = length (joined n.looks.now) + length n.passings.items

-- and of outs: for each position two, to its maker, of what was seen and of what was passed over
abbrev pub most_outs : Neighbours → ℕ
most_outs n = 2 * length n.looks.now

-- how many rows the neighbours of one take at most, where each out may be a first
abbrev pub most_found : Neighbours → ℕ
most_found n = most_ins n + 2 * most_outs n

-- both numbers are of transactions that overlap
abbrev pub OverlapAt : List Event → ℕ → ℕ → Type 0
OverlapAt h i j = (t : ℕ) × (u : ℕ) × IsCommittedAt h i t × IsCommittedAt h j u × Overlap h t u

-- there is room for so many rows more
abbrev pub HasRoom : ℕ → Vec Neighbour → Type 0
HasRoom n rows = length rows.items + n ≤ vec_capacity rows

-- the list has those more that have P, in so many rows at most, in the same room
pub record PutsMore (P : Neighbour → Type 0) (most : ℕ) (old new : Vec Neighbour) : Type 0 where
  pub adds : Adds P old.items new.items
  pub few : length new.items ≤ length old.items + most
  pub room : vec_capacity new ≡ vec_capacity old

-- the row of number u, which is another than number i and overlaps it, as one from whom an edge leads
abbrev pub IsInRow : List Event → ℕ → ℕ → Neighbour → Type 0
IsInRow h i u row = (row ≡ record { role = In; txn = u }) × (u ≢ i) × OverlapAt h i u

-- of one who saw a version from the one position to before the other
abbrev pub IsLookerRow : Neighbours → ℕ → ℕ → ℕ → Neighbour → Type 0
IsLookerRow n i from to row = (q : ℕ) × (from ≤ q) × (q < to) × FromSome (IsInRow n.evidence.index.now i) (slice_index_or n.looks.now q []) row

-- of one who passed over key number j, in a range miss from the one place to before the other
abbrev pub IsPasserRow : Neighbours → ℕ → ℕ → ℕ → ℕ → Neighbour → Type 0
IsPasserRow n i j from to row = (place : ℕ) × (p : Passing) × (from ≤ place) × (place < to) × (slice_index_or n.passings.items place p ≡ p)
    × (p.from ≤ j) × (j < p.to) × IsInRow n.evidence.index.now i p.reader row

-- no range miss before the place begins behind key number j
abbrev pub BeginUpTo : Neighbours → ℕ → ℕ → Type 0
BeginUpTo n j place = (place ≤ length n.passings.items) × ((i : ℕ) (p : Passing) → i < place → (slice_index_or n.passings.items i p).from ≤ j)

-- the rows are the other ends of all vulnerable edges of number i
abbrev pub AreEnds : List Event → ℕ → List Neighbour → Type 0
AreEnds h i rows = (n : Neighbour) → Contains rows n ↔ ((n.role ≢ First) × HasRole h i n.role n.txn)

-- the row is an in that commits at place c
abbrev pub InCommits : List Event → Neighbour → ℕ → Type 0
InCommits h n c = (n.role ≡ In) × (u : ℕ) × IsCommittedAt h n.txn u × CommitsAt h u c

abbrev pub is_out : Neighbour → Bool
is_out n = is_of n.role
  where
    is_of : Role → Bool
    is_of In = false
    is_of Out = true
    is_of First = false
