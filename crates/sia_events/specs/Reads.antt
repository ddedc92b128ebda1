-- What a read saw, and the version due to it. A transaction reads its own writes, and else from the snapshot of its start:
-- Berenson et al. (1995), section 4.2. The least version, 0, is what no transaction wrote.
use Rattle.std.specs.Prelude.{◌≡◌, ◌⊎◌, ℕ, ◌≤◌, List, Some}
use Rattle.sia_events.specs.declared.event.Event.{Event}
use Rattle.sia_events.specs.Places.{at_place}
use Rattle.sia_events.specs.Events.{actor, Saw}
use Rattle.sia_events.specs.Transactions.{CommitsAt, Wrote, WroteBefore, Sees}

-- at place p, t read k and saw version v
abbrev pub SawAt : List Event → ℕ → ℕ → ℕ → ℕ → Type 0
SawAt h p t k v = (e : Event) × (at_place h p ≡ Some e) × (actor e ≡ t) × Saw e k v

-- u wrote k, and t sees its commit
abbrev pub IsVisible : List Event → ℕ → ℕ → ℕ → Type 0
IsVisible h t k u = Wrote h u k × Sees h t u

-- of the visible writers of k, u committed last
abbrev pub IsNewestVisible : List Event → ℕ → ℕ → ℕ → Type 0
IsNewestVisible h t k u = IsVisible h t k u × ((w : ℕ) (c : ℕ) (d : ℕ) → IsVisible h t k w → CommitsAt h w c → CommitsAt h u d → c ≤ d)

-- the version due to a read of k by t at place p: its own write before p, or else the newest that it sees, or else 0
abbrev pub IsDue : List Event → ℕ → ℕ → ℕ → ℕ → Type 0
IsDue h t p k v = (WroteBefore h t k p × (v ≡ t))
    ⊎ (¬ WroteBefore h t k p × (IsNewestVisible h t k v ⊎ (((u : ℕ) → ¬ IsVisible h t k u) × (v ≡ 0))))
