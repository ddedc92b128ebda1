-- What a line of reasons tells of events, starts and versions. Words and their order are this project's own format
-- (docs/FORMAT.md).
use Rattle.std.specs.Prelude.{◌≡◌, ◌≢◌, ◌⊎◌, ℕ, List, [], ◌++◌, codes}
use Rattle.sia_events.specs.declared.event.Event.{Event}
use Rattle.sia_events.specs.Telling.{told_about}
use Rattle.sia_events.specs.Text.{numeral}
use Rattle.sia_events.specs.Transactions.{AbortsAt, CommitsAt, IsOpen}
use Rattle.sia_index.specs.Info.{IsFirstWrite}

-- the event at place p, as far as it is about k
abbrev pub event_words : List Event → ℕ → ℕ → List ℕ
event_words h k p = codes "event " ++ numeral p ++ codes " " ++ told_about h p k

-- when t started
abbrev pub start_words : ℕ → ℕ → List ℕ
start_words t s = codes "transaction " ++ numeral t ++ codes " starts after event " ++ numeral s

-- where v first wrote k, and where it ended if it did
abbrev pub TellsVersion : List Event → ℕ → ℕ → List ℕ → Type 0
TellsVersion h k v words = (w : ℕ) × IsFirstWrite h v k w
    × ((IsOpen h v × (words ≡ event_words h k w))
    ⊎ ((q : ℕ) × (CommitsAt h v q ⊎ AbortsAt h v q) × (words ≡ event_words h k w ++ codes ", " ++ event_words h k q)))

-- version v of k between these words, unless it is the one that wants no word
abbrev pub TellsUnless : ℕ → List Event → List ℕ → ℕ → ℕ → List ℕ → List ℕ → Type 0
TellsUnless known h before k v behind bytes = ((v ≡ known) × (bytes ≡ [])) ⊎ ((v ≢ known) × (words : List ℕ) × TellsVersion h k v words × (bytes ≡ before ++ words ++ behind))
