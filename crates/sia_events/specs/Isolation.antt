-- What snapshot isolation forbids, and reads that no serial order explains.
-- The rules of snapshot reads and of first-committer-wins are those of Berenson et al. (1995), section 4.2; unexplained
-- reads are this project's own notion.
use Rattle.std.specs.Prelude.{◌≢◌, ◌⊎◌, ℕ, List}
use Rattle.sia_events.specs.declared.event.Event.{Event}
use Rattle.sia_events.specs.Transactions.{IsCommitted, Wrote, WroteBefore, StartsBeforeCommit, CommitsBefore}
use Rattle.sia_events.specs.Reads.{SawAt, IsDue}

-- at place p, t read k and saw another version than the one due
abbrev pub IsBadRead : List Event → ℕ → ℕ → ℕ → ℕ → ℕ → Type 0
IsBadRead h p t k saw due = SawAt h p t k saw × IsDue h t p k due × (saw ≢ due)

-- first committer wins: both wrote k, and first committed after second had started and before it committed
abbrev pub IsBadWrite : List Event → ℕ → ℕ → ℕ → Type 0
IsBadWrite h k first second = Wrote h first k × Wrote h second k × StartsBeforeCommit h second first × CommitsBefore h first second

-- a committed t missed its own write, or saw a version whose transaction hasn't committed
abbrev pub IsUnexplained : List Event → ℕ → ℕ → ℕ → ℕ → Type 0
IsUnexplained h p t k v = IsCommitted h t × SawAt h p t k v × ((WroteBefore h t k p × (v ≢ t)) ⊎ ((v ≢ 0) × (v ≢ t) × ¬ IsCommitted h v))

-- no bad read and no bad write
pub record IsolationKept (h : List Event) : Type 0 where
  pub reads : (p t k saw due : ℕ) → ¬ IsBadRead h p t k saw due
  pub writes : (k first second : ℕ) → ¬ IsBadWrite h k first second

abbrev pub NoneUnexplained : List Event → Type 0
NoneUnexplained h = (p t k v : ℕ) → ¬ IsUnexplained h p t k v
