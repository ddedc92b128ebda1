-- The views of the takers: of the owner, of a stealer, and one that was taken back.
use Rattle.std.specs.Prelude.{ℕ, zero, suc, true, false, List, []}
use Rattle.sia_pool.specs.declared.rule.View.{View}

-- the owner knows its share, how many views it gave out, and the shares of those that it has back, in order
abbrev pub owner_view : ℕ → ℕ → List ℕ → ℕ → List (List ℕ) → View
owner_view count workers share given back = record { number = 0; spent = false; count = count; workers = workers; share = share; given = given; back = back }

-- a stealer knows its number and its share
abbrev pub stealer_view : ℕ → ℕ → ℕ → List ℕ → View
stealer_view number count workers share = record { number = number; spent = false; count = count; workers = workers; share = share; given = 0; back = [] }

-- nothing is known by a view that was taken back
abbrev pub spent_view : View
spent_view = record { number = 0; spent = true; count = 0; workers = 0; share = []; given = 0; back = [] }

-- how many takers the owner knows of, once it gave out so many views of a line of this size
abbrev pub line_size : ℕ → ℕ → ℕ
line_size workers zero = 1
line_size workers (suc given) = workers

-- the same view with another share
abbrev pub with_share : View → List ℕ → View
with_share v share = record { number = v.number; spent = v.spent; count = v.count; workers = v.workers; share = share; given = v.given; back = v.back }
