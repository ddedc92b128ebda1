-- How a transaction ended, by what is known of it.
use Rattle.std.proofs.Common.{◌⊎◌, ℕ, List, Some, None, inl, inr}
use Rattle.sia_events.specs.declared.event.Event.{Event}
use Rattle.sia_events.specs.Transactions.{AbortsAt, CommitsAt, IsOpen}
use Rattle.sia_index.specs.declared.info.Fate.{Fate}
use Rattle.sia_index.specs.declared.info.Fate.TheVariants.{Committed, Aborted, Unfinished}
use Rattle.sia_index.specs.Info.{EndsAs}

-- what is known to have no end is open
pub open_without_end : (h : List Event) (t : ℕ) (fate : Fate) → EndsAs h t fate None → IsOpen h t
open_without_end h t Committed ends = absurd ends
open_without_end h t Aborted ends = absurd ends
open_without_end h t Unfinished ends = ends

-- and what has an end committed there, or aborted
pub ended_at : (h : List Event) (t : ℕ) (fate : Fate) (p : ℕ) → EndsAs h t fate (Some p) → CommitsAt h t p ⊎ AbortsAt h t p
ended_at h t Committed p ends = inl ends
ended_at h t Aborted p ends = inr ends
ended_at h t Unfinished p ends = absurd ends
