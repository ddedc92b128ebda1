-- What the explained report says of the snapshots that fit a transaction. Words and their order are this project's own format
-- (docs/FORMAT.md).
use Rattle.std.specs.Prelude.{◌≡◌, ◌⊎◌, ◌↔◌, ℕ, ◌<◌, ◌≤◌, List, [], ◌∷◌, ◌++◌, codes, Option, Some, None}
use Rattle.sia_events.specs.declared.event.Event.{Event}
use Rattle.sia_events.specs.Places.{at_place}
use Rattle.sia_events.specs.Telling.{listing}
use Rattle.sia_events.specs.Text.{numeral, spell}
use Rattle.sia_parts.specs.Telling.{event_words}
use Rattle.si_audit.specs.Lines.{line}
use Rattle.si_audit.specs.Reasons.{reason}
use Rattle.si_audit.specs.Snapshots.{AccessesAt, Bars, FitsStart, IsAsked, IsFirst, IsInNone, IsSnapshot, ReadAsks, WriteAsks}

-- an event without the pairs that it listed
abbrev pub spell_bare : Option Event → List ℕ
spell_bare None = []
spell_bare (Some e) = spell (listing [] e)

abbrev pub bare_words : List Event → ℕ → List ℕ
bare_words h p = codes "event " ++ numeral p ++ codes " " ++ spell_bare (at_place h p)

-- a commit, and the event by which a snapshot has to have it, or must not have it
abbrev pub bound_words : List ℕ → List Event → ℕ → ℕ → ℕ → List ℕ
bound_words before h c p k = before ++ event_words h k c ++ codes ": " ++ event_words h k p ++ codes "\n"

-- the latest commit that t's snapshot has to have, and the first event that asks for it: a read, or where none does a write
abbrev pub IsNeeded : List Event → ℕ → ℕ → ℕ → ℕ → Type 0
IsNeeded h t c p k = IsAsked h t c × ((d : ℕ) → IsAsked h t d → d ≤ c)
    × (IsFirst (ReadAsks h t c) p k ⊎ (((q : ℕ) (j : ℕ) → ¬ ReadAsks h t c q j) × IsFirst (WriteAsks h t c) p k))

-- the first commit that it must not have, before t reads or writes, and the first read that excludes it
abbrev pub IsExcluded : List Event → ℕ → ℕ → ℕ → ℕ → Type 0
IsExcluded h t c p k = ((q : ℕ) → AccessesAt h t q → c < q) × IsFirst (Bars h t c) p k × ((d : ℕ) (q : ℕ) (j : ℕ) → Bars h t d q j → c ≤ d)

-- the first read or write, where no read excludes a commit before it
abbrev pub IsLatest : List Event → ℕ → ℕ → Type 0
IsLatest h t p = AccessesAt h t p × ((q : ℕ) → AccessesAt h t q → p ≤ q) × ((d : ℕ) (q : ℕ) (j : ℕ) → Bars h t d q j → p ≤ d)

abbrev pub TellsExcluded : List Event → ℕ → List ℕ → Type 0
TellsExcluded h t bytes = ((c : ℕ) × (p : ℕ) × (k : ℕ) × IsExcluded h t c p k × (bytes ≡ bound_words (codes "  not with ") h c p k))
    ⊎ ((p : ℕ) × IsLatest h t p × (bytes ≡ reason (codes "not after " ++ bare_words h p)))

-- why no snapshot fits t: a read that none has, or two bounds that exclude each other
abbrev pub TellsNone : List Event → ℕ → List ℕ → Type 0
TellsNone h t bytes = ((p : ℕ) × (k : ℕ) × IsFirst (IsInNone h t) p k × (bytes ≡ reason (codes "in no snapshot: " ++ event_words h k p)))
    ⊎ (((p : ℕ) (k : ℕ) → ¬ IsInNone h t p k) × (c : ℕ) × (p : ℕ) × (k : ℕ) × (bound : List ℕ) × IsNeeded h t c p k × TellsExcluded h t bound
    × (bytes ≡ bound_words (codes "  not without ") h c p k ++ bound))

-- those that fit t are the ones from one to another
abbrev pub AreSnapshots : List Event → ℕ → ℕ → ℕ → Type 0
AreSnapshots h t from to = (from ≤ to) × ((n : ℕ) → IsSnapshot h t n ↔ ((from ≤ n) × (n ≤ to)))

-- nothing where its recorded start fits t; else the snapshots that do, or that there is none, and why
abbrev pub TellsSnapshot : List Event → ℕ → List ℕ → Type 0
TellsSnapshot h t bytes = (FitsStart h t × (bytes ≡ []))
    ⊎ ((¬ FitsStart h t) × (from : ℕ) × (to : ℕ) × AreSnapshots h t from to × (bytes ≡ line (codes "snapshot" ∷ numeral t ∷ codes "from" ∷ numeral from ∷ codes "to" ∷ numeral to ∷ [])))
    ⊎ ((¬ FitsStart h t) × ((n : ℕ) → ¬ IsSnapshot h t n) × (why : List ℕ) × TellsNone h t why × (bytes ≡ line (codes "snapshot" ∷ numeral t ∷ codes "none" ∷ []) ++ why))
