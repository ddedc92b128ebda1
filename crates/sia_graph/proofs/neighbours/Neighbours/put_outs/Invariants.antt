-- The rows of the positions so far: a later one before the end is of the key of one of them, and behind it. Then those of the range
-- misses so far, which hold all keys from where the last one begins to the end of all, and of one miss those of the keys so far.
use Rattle.std.specs.Prelude.{◌≡◌, ◌⊎◌, ◌≤◌, ◌-◌, length}
use Rattle.sia_parts.specs.Sights.{Adds}
use Rattle.sia_parts.proofs.Shared.Adding.{FromFirst}
use Rattle.sia_parts.proofs.EdgeRows.EdgeLoops.{ReachesTo}
use Rattle.sia_graph.specs.Found.{PutsMore}
use Rattle.sia_graph.specs.Links.{OverlapsBehind, OverlapsIn}
use Rattle.sia_graph.proofs.OfPivots.Outs.{EndsOne, IsOut, TakesTo, span}
use Rattle.sia_graph.proofs.neighbours.Neighbours.put_outs.Given as goal

abbrev pub invariant-loop-position : goal.invariant-loop-position
invariant-loop-position l = EndsOne l.index l.position-items l.position-index l.end × (l.end ≤ length l.fn.self.looks.now)
    × PutsMore (IsOut (FromFirst (OverlapsBehind l.index l.number) l.position-items l.position-index)) l.end l.fn.rows l.rows

abbrev pub invariant-loop-miss : goal.invariant-loop-miss
invariant-loop-miss l = ReachesTo l.miss-items l.miss-index l.reached × TakesTo l.index (length l.fn.self.looks.now) l.reached l.fn.rows l.rows
    × Adds (IsOut (FromFirst (OverlapsIn l.index l.number) l.miss-items l.miss-index)) l.initial.rows.items l.rows.items

abbrev pub invariant-loop-key : goal.invariant-loop-key
invariant-loop-key l = (l.initial.from ≤ l.from) × ((l.from ≡ l.initial.from) ⊎ (l.from ≤ l.miss.to)) × TakesTo l.index (length l.fn.self.looks.now) l.from l.fn.rows l.rows
    × Adds (IsOut (OverlapsIn l.index l.number (span l.initial.from l.from))) l.initial.rows.items l.rows.items

abbrev pub decreases-loop-key : goal.decreases-loop-key
decreases-loop-key l = l.miss.to - l.from
