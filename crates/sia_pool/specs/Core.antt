-- The core of the pool: a machine with one event, and the states that it reaches. No thread and no deque stands here.
use Rattle.std.specs.Prelude.{◌≡◌, ℕ, ◌-◌, ◌<◌, ◌≤◌, List, [], ◌∷◌, ◌++◌, length, replicate, slice_index_or, slice_set, All, IsPermutation}
use Rattle.std.specs.List.{range_with_len, concat}
use Rattle.std.specs.List.Sorted.{IsStrictlyIncreasing}

-- the parts that are left, front first, and the share of each worker, in the order in which it took them
pub record State : Type 0 where
  pub left : List ℕ
  pub shares : List (List ℕ)

-- all parts below `count` are left, in ascending order, and each share is empty
abbrev pub opening : ℕ → ℕ → State
opening count workers = record { left = range_with_len 0 count; shares = replicate workers [] }

-- the shares once this part joined the end of the share of worker w
abbrev pub with_part : List (List ℕ) → ℕ → ℕ → List (List ℕ)
with_part shares w part = slice_set shares w (slice_index_or shares w [] ++ part ∷ [])

-- the one event: worker w takes the front of what is left, which joins the end of its share
pub record Takes (w : ℕ) (s t : State) : Type 0 where
  pub part : ℕ
  pub is_worker : w < length s.shares
  pub front : s.left ≡ part ∷ t.left
  pub end : t.shares ≡ with_part s.shares w part

-- these workers take, one after another
abbrev pub TakeInTurn : List ℕ → State → State → Type 0
TakeInTurn [] s t = s ≡ t
TakeInTurn (w ∷ ws) s t = (u : State) × Takes w s u × TakeInTurn ws u t

-- some takes lead from the opening state to this one
pub record Reached (count workers : ℕ) (left : List ℕ) (shares : List (List ℕ)) : Type 0 where
  pub takers : List ℕ
  pub in_turn : TakeInTurn takers (opening count workers) (record { left = left; shares = shares })

-- c parts were taken: those from c on are left, in order, and the shares hold those below c, once each and ascending
pub record IsDealt (count workers c : ℕ) (left : List ℕ) (shares : List (List ℕ)) : Type 0 where
  pub taken : c ≤ count
  pub rest : left ≡ range_with_len c (count - c)
  pub each_worker : length shares ≡ workers
  pub ascending : All IsStrictlyIncreasing shares
  pub once : IsPermutation (range_with_len 0 c) (concat shares)
