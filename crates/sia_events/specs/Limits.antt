-- How long a text may be, and how many events it may have.
use Rattle.std.specs.Prelude.{ℕ, ◌≤◌}

-- the most events, and the most bytes
pub record Limits : Type 0 where
  pub events : ℕ
  pub bytes : ℕ

-- the limits where none are chosen
abbrev pub standard : Limits
standard = record { events = 100000; bytes = 16777216 }

-- the greatest limits that can be chosen
abbrev pub greatest : Limits
greatest = record { events = 500000000; bytes = 17179869184 }

-- what these limits allow, the others allow too
pub record AreWithin (limits others : Limits) : Type 0 where
  pub events : limits.events ≤ others.events
  pub bytes : limits.bytes ≤ others.bytes
