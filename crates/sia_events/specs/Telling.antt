-- An event as far as it tells of one key.
use Rattle.std.specs.Prelude.{ℕ, ◌==◌, List, [], filter, Option, Some, None}
use Rattle.sia_events.specs.declared.event.Event.{Event}
use Rattle.sia_events.specs.declared.event.Event.TheVariants.{Begin, Read, Range, Write, Commit, Abort}
use Rattle.sia_events.specs.Places.{at_place}
use Rattle.sia_events.specs.Text.{spell}

-- the event, but of the pairs that a range read listed only that of k
abbrev pub about : ℕ → Event → Event
about k (Begin t start) = Begin t start
about k (Read t key saw) = Read t key saw
about k (Range t lo hi listed) = Range t lo hi (filter (λ pair. pair.0 == k) listed)
about k (Write t key) = Write t key
about k (Commit t) = Commit t
about k (Abort t) = Abort t

-- the event, but these are the pairs that a range read listed
abbrev pub listing : List (ℕ × ℕ) → Event → Event
listing pairs (Begin t start) = Begin t start
listing pairs (Read t key saw) = Read t key saw
listing pairs (Range t lo hi listed) = Range t lo hi pairs
listing pairs (Write t key) = Write t key
listing pairs (Commit t) = Commit t
listing pairs (Abort t) = Abort t

-- its spelling, or nothing where there is no event
abbrev pub spell_about : ℕ → Option Event → List ℕ
spell_about k None = []
spell_about k (Some e) = spell (about k e)

-- the spelling of the event at place p as far as it is about k
abbrev pub told_about : List Event → ℕ → ℕ → List ℕ
told_about h p k = spell_about k (at_place h p)
