-- The two least numbers that something has, so that the least one but one's own is at hand. A number is less than 4294967295,
-- which stands for none.
use Rattle.std.specs.Prelude.{◌≡◌, ◌≢◌, ◌⊎◌, ◌↔◌, ℕ, ◌*◌, ◌<◌, ◌≤◌, Bool, List, Contains, length, slice_index_or}
use Rattle.sia_events.specs.declared.event.Event.{Event}
use Rattle.sia_index.specs.Info.{IsKeyAt}
use Rattle.sia_index.specs.Numbers.{IsCommittedAt}
use Rattle.sia_index.specs.Positions.{ArePositions, IsAtPosition}
use Rattle.sia_index.specs.declared.info.KeyVersion.{KeyVersion}
use Rattle.sia_parts.specs.Accesses.{Missed, SawPosition}
use Rattle.sia_parts.specs.declared.accesses.Accesses.{Accesses}
use Rattle.sia_parts.specs.Entries.{IsEdge}
use Rattle.sia_graph.specs.KeyBlocks.{IsOver}
use Rattle.sia_graph.specs.Orders.{Leads}
use Rattle.sia_graph.specs.Passed.{IsSizeFor}
use Rattle.sia_graph.specs.Previous.{IsLeftIn}
use Rattle.sia_graph.specs.declared.twos.Earlier.{Earlier}
use Rattle.sia_graph.specs.declared.twos.Two.{Two}

-- r is the least that has P, or says that nothing has
abbrev pub IsLeastNumber : (ℕ → Type 0) → ℕ → Type 0
IsLeastNumber P r = (P r × ((q : ℕ) → P q → r ≤ q)) ⊎ ((r ≡ 4294967295) × ((q : ℕ) → ¬ P q))

-- the least that has P, and the least other
abbrev pub IsTwo : (ℕ → Type 0) → Two → Type 0
IsTwo P two = IsLeastNumber P two.least × IsLeastNumber (λ r. P r × (r ≢ two.least)) two.next

-- the same, once one more number is there
abbrev pub IsWith : Two → ℕ → Two → Type 0
IsWith two number new = (number < two.least → (new.least ≡ number) × (new.next ≡ two.least))
    × (two.least < number → number < two.next → (new.least ≡ two.least) × (new.next ≡ number))
    × (two.least ≤ number → (number ≡ two.least) ⊎ (two.next ≤ number) → new ≡ two)

-- at each place the two least that have P there
abbrev pub AreTwosOf : (ℕ → ℕ → Type 0) → List Two → Type 0
AreTwosOf P twos = (at : ℕ) (d : Two) → at < length twos → IsTwo (P at) (slice_index_or twos at d)

-- the versions at both positions are of one key
abbrev pub HaveOneKey : List Event → ℕ → ℕ → Type 0
HaveOneKey h p q = (v w : KeyVersion) × IsAtPosition h p v × IsAtPosition h q w × (v.key ≡ w.key)

-- r has P at the position or at an earlier one of its key
abbrev pub IsUpTo : List Event → (ℕ → ℕ → Type 0) → ℕ → ℕ → Type 0
IsUpTo h P q r = (p : ℕ) × (p ≤ q) × HaveOneKey h p q × P p r

-- transaction number r is left, and made the version at the position
abbrev pub IsLeftMaker : List Event → List Bool → ℕ → ℕ → Type 0
IsLeftMaker h left q r = IsLeftIn left r × (v : KeyVersion) × IsAtPosition h q v × IsCommittedAt h r v.txn × (0 < v.commit)

-- it is left, and saw that version
abbrev pub IsLeftReader : Accesses → List Bool → ℕ → ℕ → Type 0
IsLeftReader a left q r = IsLeftIn left r × SawPosition a r q

-- it is left, and passed over key number j
abbrev pub IsLeftPasser : Accesses → List Bool → ℕ → ℕ → Type 0
IsLeftPasser a left j r = IsLeftIn left r × Missed a r j

-- at each of some blocks over the keys the two least of what stands there, so that what has P at a key stands with blocks over it
pub record AreTwosOver (size : ℕ) (P : ℕ → ℕ → Type 0) (nodes : List Two) : Type 0 where
  pub entries : List (ℕ × ℕ)
  pub few : (block r : ℕ) → Contains entries (block, r) → r < 4294967295
  pub over : (key r : ℕ) → key < size → ((block : ℕ) × Contains entries (block, r) × IsOver size block key) ↔ P key r
  pub within : (block r : ℕ) → Contains entries (block, r) → (0 < block) × (block < length nodes)
  pub twos : AreTwosOf (λ block r. Contains entries (block, r)) nodes

-- by position those who made a version up to there, and who saw one; by blocks of keys those who passed over some
pub record AreEarlier (h : List Event) (a : Accesses) (left : List Bool) (e : Earlier) : Type 0 where
  pub makers_long : ArePositions h (length e.makers.items)
  pub readers_long : length e.readers.items ≡ length e.makers.items
  pub makers : AreTwosOf (IsUpTo h (IsLeftMaker h left)) e.makers.items
  pub readers : AreTwosOf (IsUpTo h (IsLeftReader a left)) e.readers.items
  pub size : IsSizeFor e.size h a
  pub passed_long : length e.passed.items ≡ 2 * e.size
  pub passed : AreTwosOver e.size (IsLeftPasser a left) e.passed.items

-- r made a version up to the position, saw one below it, or passed over its key
abbrev pub IsBeforeVersion : List Event → Accesses → List Bool → ℕ → ℕ → Type 0
IsBeforeVersion h a left q r = IsUpTo h (IsLeftMaker h left) q r
    ⊎ ((p : ℕ) × (p < q) × HaveOneKey h p q × IsLeftReader a left p r)
    ⊎ ((v : KeyVersion) × IsAtPosition h q v × (j : ℕ) × IsKeyAt h j v.key × IsLeftIn left r × Missed a r j)

-- transaction number r is left, and an edge leads from it to number i
abbrev pub IsLeftSource : List Event → List Bool → ℕ → ℕ → Type 0
IsLeftSource h left i r = IsLeftIn left r × (t u : ℕ) × IsCommittedAt h r t × IsCommittedAt h i u × Leads (IsEdge h) t u
