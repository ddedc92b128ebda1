-- Where a finder has the number of a name's row.
use Rattle.std.specs.Prelude.{◌≡◌, ◌≢◌, ◌⊎◌, ℕ, ◌+◌, ◌*◌, ◌/◌, ◌%◌, ◌^◌, ◌<◌, List, Some, slice_get}
use Rattle.std.specs.Int.RustNames.{bit_and}
use Rattle.std.specs.BTreeMap.{get}
use Rattle.std.specs.Ordering.{nat_cmp}
use Rattle.sia_events.specs.declared.finder.Finder.{Finder}

-- the first slot for a name
unfoldable pub home : Finder → ℕ → ℕ
home f name = bit_and (name * f.factor % 2 ^ 64 / 2 ^ 32) f.mask

-- none of so many slots from there on is free
abbrev pub AreTaken : List ℕ → ℕ → ℕ → Type 0
AreTaken slots from count = (e : ℕ) → e < count → slice_get slots (from + e) ≢ Some 0

-- one of the slots has a row of the name, and none before it is free
abbrev pub IsInSlots : Finder → List ℕ → ℕ → Type 0
IsInSlots f names name = (d : ℕ) × (n : ℕ) × (d < 8) × (slice_get f.slots.items (home f name + d) ≡ Some (n + 1)) × (slice_get names n ≡ Some name) × AreTaken f.slots.items (home f name) d

-- the tree has one, and none of the slots is free
abbrev pub IsInTree : Finder → List ℕ → ℕ → Type 0
IsInTree f names name = (n : ℕ) × (get nat_cmp f.tree name ≡ Some n) × (slice_get names n ≡ Some name) × AreTaken f.slots.items (home f name) 8

-- no free slot, and none with the number of a row of the name
abbrev pub IsOther : List ℕ → List ℕ → ℕ → ℕ → Type 0
IsOther slots names at name = (slice_get slots at ≢ Some 0) × ((n : ℕ) → slice_get slots at ≡ Some (n + 1) → slice_get names n ≢ Some name)

unfoldable pub Reaches : Finder → List ℕ → ℕ → Type 0
Reaches f names name = IsInSlots f names name ⊎ IsInTree f names name

-- each of the names before a number is found
unfoldable pub FindsBelow : Finder → List ℕ → ℕ → Type 0
FindsBelow f names end = (n : ℕ) (name : ℕ) → n < end → slice_get names n ≡ Some name → Reaches f names name

-- each of the names is found
unfoldable pub Finds : Finder → List ℕ → Type 0
Finds f names = (n : ℕ) (name : ℕ) → slice_get names n ≡ Some name → Reaches f names name
