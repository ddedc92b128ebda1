-- What holds while the nodes of a graph are taken one after another: how many steps hold each node back, and which nodes wait
-- where.
use Rattle.std.specs.Prelude.{◌≡◌, ◌≢◌, ◌⊎◌, ◌↔◌, ℕ, suc, ◌+◌, ◌<◌, ◌≤◌, ◌==◌, Bool, true, false, IsTrue, List, [], ◌∷◌, Some, Contains, count_by, length, slice_get, slice_index, slice_index_or}
use Rattle.std.specs.BinaryHeap.{IsHeap, heap_items}
use Rattle.std.specs.List.Sorted.{IsStrictlyIncreasing}
use Rattle.std.specs.Ordering.{nat_cmp}
use Rattle.std.specs.declared.cmp.Reverse.{Reverse}
use Rattle.sia_graph.specs.Fronts.{IsFront}
use Rattle.sia_graph.specs.Graphs.{IsGraphEdge, LeadsTo}
use Rattle.sia_graph.specs.declared.order.Graph.{Graph}
use Rattle.sia_graph.specs.declared.order.Taking.{Taking}

-- how often t stands in the list
abbrev pub times : ℕ → List ℕ → ℕ
times t xs = count_by (λ x. x == t) xs

-- how often t stands in those of the lists that aren't done
abbrev pub told : List (List ℕ) → List Bool → ℕ → ℕ
told [] done t = 0
told (row ∷ rows) [] t = times t row + told rows [] t
told (row ∷ rows) (true ∷ done) t = told rows done t
told (row ∷ rows) (false ∷ done) t = times t row + told rows done t

-- node s is done
abbrev pub IsDone : List Bool → ℕ → Type 0
IsDone done s = IsTrue (slice_index_or done s false)

-- these nodes, one after the other: each leads to the next, and the last to none
abbrev pub IsChain : List ℕ → ℕ → List ℕ → Type 0
IsChain next at [] = at ≡ 4294967295
IsChain next at (x ∷ xs) = (at ≡ x) × (x < 4294967295) × (x < length next) × IsChain next (slice_index next x) xs

-- each of the lists stands as the chain from its first one
abbrev pub AreChains : List ℕ → List ℕ → List (List ℕ) → Type 0
AreChains first next lists = (length lists ≡ length first) × ((s : ℕ) → s < length first → IsChain next (slice_index first s) (slice_index_or lists s []))

-- nothing but its sources holds t back, and s is the first that wasn't passed
abbrev pub WaitsAt : List (List ℕ) → List ℕ → List ℕ → ℕ → ℕ → Type 0
WaitsAt sources counts passed t s = (t < length counts) × (slice_index counts t ≡ 1) × (slice_get (slice_index_or sources t []) (slice_index passed t) ≡ Some s)

-- so many are still to be taken from the count of each node besides the steps from those that aren't done; where nothing is left
-- in a count, all that lead to the node are done; nodes wait where they stopped, and at no node that is done but perhaps one
pub record IsUnderWay (g : Graph) (done : List Bool) (counts passed first next : List ℕ) (pending : ℕ → ℕ) (waking : ℕ) : Type 0 where
  pub passed_long : length passed ≡ length counts
  pub first_long : length first ≡ length counts
  pub next_long : length next ≡ length counts
  pub done_long : length done ≡ length counts
  pub lists : List (List ℕ)
  pub chains : AreChains first next lists
  pub waits : (t s : ℕ) → s < length counts → Contains (slice_index_or lists s []) t ↔ WaitsAt g.sources counts passed t s
  pub held : (t : ℕ) → t < length counts → 0 < slice_index counts t → slice_index counts t ≡ told g.targets done t + pending t + 1
  pub free : (t : ℕ) → t < length counts → slice_index counts t ≡ 0 → (told g.targets done t + pending t ≡ 0) × ((s : ℕ) → Contains (slice_index_or g.sources t []) s → IsDone done s)
  pub passed_done : (t i s : ℕ) → t < length counts → i < slice_index passed t → slice_get (slice_index_or g.sources t []) i ≡ Some s → IsDone done s
  pub stops : (t : ℕ) → t < length counts → slice_index counts t ≡ 1 → (s : ℕ) × WaitsAt g.sources counts passed t s
  pub left : (t s : ℕ) → WaitsAt g.sources counts passed t s → IsDone done s → s ≡ waking
  pub taken : (t : ℕ) → t < length counts → IsDone done t → slice_index counts t ≡ 0

-- how often a place stands in a run and among others
abbrev pub held : List ℕ → List (Reverse ℕ) → ℕ → ℕ
held run others i = times i run + count_by (λ x. x.0 == i) others

-- the place stands in one of the two, once
abbrev pub HasReady : List ℕ → List (Reverse ℕ) → ℕ → Type 0
HasReady run others i = held run others i ≡ 1

-- a run that ascends, and others as a heap: places before an end, each once
pub record AreBefore (run : List ℕ) (others : List (Reverse ℕ)) (end : ℕ) : Type 0 where
  pub ascends : IsStrictlyIncreasing run
  pub order : IsHeap (λ x y. nat_cmp y.0 x.0) others
  pub once : (i : ℕ) → held run others i ≤ 1
  pub before : (i : ℕ) → HasReady run others i → i < end

-- i is ready: it is one of those behind the end, or it stands from the end on and nothing is left in its count
abbrev pub IsReadyAt : (ℕ → Type 0) → ℕ → List ℕ → ℕ → Type 0
IsReadyAt IsBehind end counts i = IsBehind i ⊎ ((end ≤ i) × (i < length counts) × (slice_index counts i ≡ 0))

abbrev pub IsBehind : Taking → ℕ → Type 0
IsBehind k = HasReady k.run.items (heap_items k.others)

abbrev pub IsReadyIn : Taking → ℕ → Type 0
IsReadyIn k = IsReadyAt (IsBehind k) k.end k.counts.items

-- what is ready behind the end stands as it should
abbrev pub AreBehind : Taking → Type 0
AreBehind k = AreBefore k.run.items (heap_items k.others) k.end × (k.end ≤ length k.counts.items)

-- the least that is ready no more is, and what isn't told of that stays as it was
pub record IsTaken (old new : Taking) (place : ℕ) : Type 0 where
  pub member : IsReadyIn old place
  pub least : (i : ℕ) → IsReadyIn old i → place ≤ i
  pub taken : (i : ℕ) → IsReadyIn new i ↔ (IsReadyIn old i × (place ≢ i))
  pub behind : AreBehind new
  pub same : new ≡ record { counts = old.counts; passed = old.passed; first_waiting = old.first_waiting; next_waiting = old.next_waiting; run = new.run; others = new.others; end = new.end }

-- and what is ready is at hand
pub record IsTaking (g : Graph) (done : List Bool) (k : Taking) (pending : ℕ → ℕ) (waking : ℕ) : Type 0 where
  pub under_way : IsUnderWay g done k.counts.items k.passed.items k.first_waiting.items k.next_waiting.items pending waking
  pub ready : (t : ℕ) → t < length k.counts.items → IsReadyIn k t ↔ ((slice_index k.counts.items t ≡ 0) × ¬ IsDone done t)
  pub before : AreBefore k.run.items (heap_items k.others) k.end
  pub within : k.end ≤ length k.counts.items

-- one fewer is still to be taken from the count of the node, and as many as before from others
abbrev pub IsOneFewer : ℕ → (ℕ → ℕ) → (ℕ → ℕ) → Type 0
IsOneFewer node pending less = (pending node ≡ suc (less node)) × ((t : ℕ) → t ≢ node → pending t ≡ less t)

-- nothing is still to be taken
abbrev pub none_pending : ℕ → ℕ
none_pending t = 0

-- a front whose members are done, and each of so many nodes that isn't done is led to from one that isn't
pub record IsLastFront (IsNode : ℕ → Type 0) (g : Graph) (done : List Bool) (front : List ℕ) : Type 0 where
  pub is_front : IsFront IsNode (IsGraphEdge g) front
  pub is_done : (t : ℕ) → IsNode t → IsDone done t ↔ ((i : ℕ) × (slice_get front i ≡ Some t))
  pub fed : (t : ℕ) → IsNode t → ¬ IsDone done t → (s : ℕ) × IsNode s × (¬ IsDone done s) × LeadsTo g s t
