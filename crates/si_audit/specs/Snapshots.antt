-- Which snapshots fit a transaction. A snapshot is taken when so many events have been recorded, and goes by their number. That it
-- may be any one of the time before the first read is of Berenson et al. (1995), section 4.2; Elnikety, Zwaenepoel and Pedone (2005)
-- call the isolation that asks no more generalized.
use Rattle.std.specs.Prelude.{◌≡◌, ◌≢◌, ◌⊎◌, ℕ, ◌<◌, ◌≤◌, List}
use Rattle.sia_events.specs.declared.event.Event.{Event}
use Rattle.sia_events.specs.NarrowDependencies.{CommitsVersion, IsAsOf}
use Rattle.sia_events.specs.Reads.{SawAt}
use Rattle.sia_events.specs.Transactions.{CommitsAt, HasEvent, IsCommitted, StartsAt, WritesAt, WroteBefore}

-- of the versions of k that are committed among the first n events, u's is the last
abbrev pub IsNewestIn : List Event → ℕ → ℕ → ℕ → Type 0
IsNewestIn h n k u = (c : ℕ) × CommitsVersion h k u c × (c ≤ n) × ((w : ℕ) (d : ℕ) → CommitsVersion h k w d → d ≤ n → d ≤ c)

-- the version due from snapshot n to a read of k by t at place p: its own write before p, or else the newest one in n, or else 0
abbrev pub IsDueFrom : List Event → ℕ → ℕ → ℕ → ℕ → ℕ → Type 0
IsDueFrom h n t p k v = (WroteBefore h t k p × (v ≡ t))
    ⊎ (¬ WroteBefore h t k p × (IsNewestIn h n k v ⊎ (((u : ℕ) (c : ℕ) → CommitsVersion h k u c → n < c) × (v ≡ 0))))

-- each read of t saw what is due from snapshot n, and of the keys that t wrote no version is committed behind n and before t's own
pub record Fits (h : List Event) (t n : ℕ) : Type 0 where
  pub reads : (p k v : ℕ) → SawAt h p t k v → IsDueFrom h n t p k v
  pub writes : (k u c d : ℕ) → CommitsVersion h k t d → CommitsVersion h k u c → c < d → c ≤ n

-- at place p, t read or wrote some key
abbrev pub AccessesAt : List Event → ℕ → ℕ → Type 0
AccessesAt h t p = (k : ℕ) × (WritesAt h t k p ⊎ ((v : ℕ) × SawAt h p t k v))

-- a snapshot is taken before t reads or writes, and it fits t
abbrev pub IsSnapshot : List Event → ℕ → ℕ → Type 0
IsSnapshot h t n = ((p : ℕ) → AccessesAt h t p → n < p) × Fits h t n

-- some snapshot fits each transaction: generalized snapshot isolation
abbrev pub IsGeneralized : List Event → Type 0
IsGeneralized h = (t : ℕ) → HasEvent h t → (n : ℕ) × IsSnapshot h t n

-- the recorded start of t fits it
abbrev pub FitsStart : List Event → ℕ → Type 0
FitsStart h t = (s : ℕ) × StartsAt h t s × Fits h t s

-- no snapshot has what t saw at place p: another version of k, which t had written before, or one whose transaction didn't commit
abbrev pub IsInNone : List Event → ℕ → ℕ → ℕ → Type 0
IsInNone h t p k = (v : ℕ) × SawAt h p t k v × ((WroteBefore h t k p × (v ≢ t)) ⊎ ((v ≢ 0) × (v ≢ t) × ¬ IsCommitted h v))

-- t's snapshot has to have the commit at place c, for at place p t saw the version of k that is committed there
abbrev pub ReadAsks : List Event → ℕ → ℕ → ℕ → ℕ → Type 0
ReadAsks h t c p k = (v : ℕ) × SawAt h p t k v × (v ≢ t) × CommitsAt h v c

-- or for there t wrote k, of which a version is committed at c and t's own behind it
abbrev pub WriteAsks : List Event → ℕ → ℕ → ℕ → ℕ → Type 0
WriteAsks h t c p k = WritesAt h t k p × (u : ℕ) × (d : ℕ) × CommitsVersion h k u c × CommitsAt h t d × (c < d)

abbrev pub IsAsked : List Event → ℕ → ℕ → Type 0
IsAsked h t c = (p : ℕ) × (k : ℕ) × (ReadAsks h t c p k ⊎ WriteAsks h t c p k)

-- t's snapshot must not have the commit at place c, for at place p t saw a version of k before the one that is committed there
abbrev pub Bars : List Event → ℕ → ℕ → ℕ → ℕ → Type 0
Bars h t c p k = (v : ℕ) × (b : ℕ) × (u : ℕ) × SawAt h p t k v × (v ≢ t) × IsAsOf h v b × CommitsVersion h k u c × (b < c)

-- the first place and key that have P, by place and then by key
abbrev pub IsFirst : (ℕ → ℕ → Type 0) → ℕ → ℕ → Type 0
IsFirst P p k = P p k × ((q : ℕ) (j : ℕ) → P q j → (p < q) ⊎ ((p ≡ q) × (k ≤ j)))
