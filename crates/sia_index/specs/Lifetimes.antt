-- When transactions start and commit, in a list beside theirs.
use Rattle.std.specs.Prelude.{◌≡◌, ◌<◌, ℕ, List, length, slice_index, slice_index_or}
use Rattle.sia_events.specs.declared.event.Event.{Event}
use Rattle.sia_events.specs.Transactions.{StartsAt, CommitsAt}
use Rattle.sia_index.specs.declared.info.Lifetime.{Lifetime}

-- t starts and commits at these places
abbrev pub IsLifetime : List Event → ℕ → Lifetime → Type 0
IsLifetime h t lifetime = StartsAt h t lifetime.start × CommitsAt h t lifetime.commit

-- each of the transactions has its lifetime at its own place
pub record AreLifetimes (h : List Event) (txns : List ℕ) (lifetimes : List Lifetime) : Type 0 where
  pub long : length lifetimes ≡ length txns
  pub each : (i : ℕ) (d : Lifetime) → i < length txns → IsLifetime h (slice_index txns i) (slice_index_or lifetimes i d)
