-- What a bad write is called: lost updates are P4 of Berenson et al. (1995), stated over the whole history.
use Rattle.std.specs.Prelude.{◌≤◌, ℕ, List}
use Rattle.sia_events.specs.declared.event.Event.{Event}
use Rattle.sia_events.specs.Dependencies.{IsVersionBefore}
use Rattle.sia_events.specs.Reads.{SawAt}
use Rattle.sia_events.specs.Transactions.{WroteBefore}

-- at place p, and before it wrote k, second saw a version of k that comes before first's
abbrev pub LosesAt : List Event → ℕ → ℕ → ℕ → ℕ → Type 0
LosesAt h k first second p = (v : ℕ) × SawAt h p second k v × (¬ WroteBefore h second k p) × IsVersionBefore h k v first

-- then the bad write is a lost update, and else a write conflict
abbrev pub IsLostUpdate : List Event → ℕ → ℕ → ℕ → Type 0
IsLostUpdate h k first second = (p : ℕ) × LosesAt h k first second p

-- the first such place
abbrev pub LosesFirstAt : List Event → ℕ → ℕ → ℕ → ℕ → Type 0
LosesFirstAt h k first second p = LosesAt h k first second p × ((q : ℕ) → LosesAt h k first second q → p ≤ q)
