-- The keys that a committed transaction passed over, and stretches that hold some keys.
use Rattle.std.specs.Prelude.{◌≡◌, ◌⊎◌, ℕ, ◌<◌, ◌≤◌, List, length}
use Rattle.sia_events.specs.declared.event.Event.{Event}
use Rattle.sia_parts.specs.declared.accesses.Accesses.{Accesses}
use Rattle.sia_parts.specs.declared.accesses.RangeMiss.{RangeMiss}
use Rattle.sia_parts.specs.Accesses.{Missed}
use Rattle.sia_parts.specs.Sights.{FromSome}
use Rattle.sia_index.specs.Info.{AreWrittenKeys}
use Rattle.sia_graph.specs.Makers.{IsFirstMaker}

-- one of the stretches holds key number j
abbrev pub IsHeldBy : List RangeMiss → ℕ → Type 0
IsHeldBy stretches j = FromSome (λ (s : RangeMiss) j. (s.from ≤ j) × (j < s.to)) stretches j

-- number i passed over key number j, and made its first version
abbrev pub IsOwnPassed : List Event → Accesses → ℕ → ℕ → Type 0
IsOwnPassed h a i j = Missed a i j × IsFirstMaker h j i

-- number i passed over key number j, and didn't make its first version
abbrev pub IsPassed : List Event → Accesses → ℕ → ℕ → Type 0
IsPassed h a i j = Missed a i j × ¬ IsFirstMaker h j i

-- blocks are over all written keys, and where nobody passed over a key they may be over none
abbrev pub IsSizeFor : ℕ → List Event → Accesses → Type 0
IsSizeFor size h a = ((keys : List ℕ) × AreWrittenKeys h keys × (length keys ≡ size)) ⊎ ((size ≡ 0) × ((i j : ℕ) → ¬ Missed a i j))
