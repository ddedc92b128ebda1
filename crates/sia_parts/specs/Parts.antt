-- Parts of the keys: how points cut the keys into intervals. This project's own.
use Rattle.std.specs.Prelude.{◌≡◌, ◌≢◌, ◌⊎◌, ℕ, ◌-◌, ◌<◌, ◌≤◌, ◌^◌, ⊤, List, [], ◌∷◌, Contains, length, Option, Some, None}
use Rattle.std.specs.List.{slice_get}
use Rattle.sia_events.specs.Lists.{ListsAscending}
use Rattle.sia_parts.specs.declared.cutting.Part.{Part}

-- from each start to one below the next, and from the last to the greatest key
abbrev pub parts_from : List ℕ → List Part
parts_from [] = []
parts_from (s ∷ []) = record { lo = s; hi = 18446744073709551615 } ∷ []
parts_from (s ∷ next ∷ starts) = record { lo = s; hi = next - 1 } ∷ parts_from (next ∷ starts)

-- the parts that start at 0 and at the points, ascending
abbrev pub IsCutting : List ℕ → List Part → Type 0
IsCutting points parts = (starts : List ℕ) × ListsAscending (λ s. (s ≡ 0) ⊎ Contains points s) starts × (parts ≡ parts_from starts)

-- more than 1,023 distinct points aren't 0
abbrev pub HasTooManyCuts : List ℕ → Type 0
HasTooManyCuts points = (cuts : List ℕ) × ListsAscending (λ s. (s ≢ 0) × Contains points s) cuts × (1023 < length cuts)

-- key k is in the part
abbrev pub IsInPart : Part → ℕ → Type 0
IsInPart part k = (part.lo ≤ k) × (k ≤ part.hi)

-- the same, where no part stands for all keys
abbrev pub IsWithin : Option Part → ℕ → Type 0
IsWithin None = λ _. ⊤
IsWithin (Some part) = IsInPart part

-- key k is in part number i, counted from 0
abbrev pub IsInPartAt : List Part → ℕ → ℕ → Type 0
IsInPartAt parts k i = (part : Part) × (slice_get parts i ≡ Some part) × IsInPart part k

-- each key is in exactly one part of a cutting
abbrev pub OnePartLaw : Type 0
OnePartLaw = (points : List ℕ) (parts : List Part) → IsCutting points parts → (k : ℕ) → k < 2 ^ 64
    → (i : ℕ) × IsInPartAt parts k i × ((j : ℕ) → IsInPartAt parts k j → j ≡ i)
