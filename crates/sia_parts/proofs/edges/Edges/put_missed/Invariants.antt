-- The rows of the range misses so far, which hold all keys from where the last one begins to the end of all, and of one miss those of
-- the keys so far. The positions of later keys stand behind as many as there are rows.
use Rattle.std.specs.Prelude.{◌≡◌, ◌⊎◌, ◌≤◌, ◌-◌}
use Rattle.sia_parts.specs.EdgeRows.{IsMissRow}
use Rattle.sia_parts.specs.Sights.{Adds}
use Rattle.sia_parts.specs.declared.accesses.RangeMiss.{RangeMiss}
use Rattle.sia_parts.proofs.Shared.Adding.{FromFirst}
use Rattle.sia_parts.proofs.EdgeRows.EdgeLoops.{ReachesTo}
use Rattle.sia_parts.proofs.EdgeRows.Room.{TakesTo}
use Rattle.sia_parts.proofs.edges.Edges.put_missed.Given as goal

abbrev pub invariant-loop-miss : goal.invariant-loop-miss
invariant-loop-miss l = ReachesTo l.miss-items l.miss-index l.end × TakesTo l.fn.self l.end l.fn.rows l.rows
    × Adds (FromFirst (λ (miss : RangeMiss). IsMissRow l.fn.self.index.now l.source miss.from miss.to) l.miss-items l.miss-index) l.fn.rows.items l.rows.items

abbrev pub invariant-loop-key : goal.invariant-loop-key
invariant-loop-key l = (l.initial.from ≤ l.from) × ((l.from ≡ l.initial.from) ⊎ (l.from ≤ l.miss.to)) × TakesTo l.fn.self l.from l.fn.rows l.rows
    × Adds (IsMissRow l.fn.self.index.now l.source l.initial.from l.from) l.initial.rows.items l.rows.items

abbrev pub decreases-loop-key : goal.decreases-loop-key
decreases-loop-key l = l.miss.to - l.from
