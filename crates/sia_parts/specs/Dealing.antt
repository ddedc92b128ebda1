-- Read events dealt to parts of the keys.
use Rattle.std.specs.Prelude.{◌≡◌, ◌<◌, ◌≤◌, ℕ, List, Contains, length, slice_index_or}
use Rattle.std.specs.Prelude.{Vec}
use Rattle.std.specs.Global.{Global}
use Rattle.sia_events.specs.declared.event.Event.{Event}
use Rattle.sia_events.specs.Reads.{SawAt}
use Rattle.sia_parts.specs.declared.cutting.Part.{Part}
use Rattle.sia_parts.specs.declared.reads.Reads.{Reads}
use Rattle.sia_parts.specs.Parts.{IsInPart}

-- the place of each read of a key of the part is among these
abbrev pub HasReadsOf : List Event → Part → List ℕ → Type 0
HasReadsOf h part places = (p t k v : ℕ) → SawAt h p t k v → IsInPart part k → Contains places p

-- each part has the places of its reads
pub record AreReads (h : List Event) (parts : List Part) (reads : Reads) : Type 0 where
  pub long : length reads.dealt.items ≡ length parts
  pub each : (i : ℕ) (places : Vec ℕ Global) (part : Part) → i < length parts → HasReadsOf h (slice_index_or parts i part) (slice_index_or reads.dealt.items i places).items

-- the new lists hold what the old ones held, and those from one number to before another hold the place
pub record DealsWithin (p from to : ℕ) (old new : List (Vec ℕ Global)) : Type 0 where
  pub long : length new ≡ length old
  pub keeps : (i q : ℕ) (d : Vec ℕ Global) → i < length old → Contains (slice_index_or old i d).items q → Contains (slice_index_or new i d).items q
  pub adds : (i : ℕ) (d : Vec ℕ Global) → from ≤ i → i < to → Contains (slice_index_or new i d).items p

-- the new lists hold what the old ones held, and that of each part of which a key was read at the place holds the place
pub record Deals (h : List Event) (parts : List Part) (p : ℕ) (old new : List (Vec ℕ Global)) : Type 0 where
  pub long : length new ≡ length old
  pub keeps : (i q : ℕ) (d : Vec ℕ Global) → i < length old → Contains (slice_index_or old i d).items q → Contains (slice_index_or new i d).items q
  pub adds : (i t k v : ℕ) (d : Vec ℕ Global) (part : Part) → SawAt h p t k v → i < length parts → IsInPart (slice_index_or parts i part) k → Contains (slice_index_or new i d).items p
