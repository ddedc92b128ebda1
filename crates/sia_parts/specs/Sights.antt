-- How the findings of a part come about: from pairs of a key's versions, and from what reads saw of a key.
use Rattle.std.specs.Prelude.{◌≡◌, ◌≢◌, ◌⊎◌, ◌↔◌, ℕ, List, Contains}
use Rattle.sia_events.specs.declared.event.Event.{Event}
use Rattle.sia_events.specs.NarrowDependencies.{IsAsOf}
use Rattle.sia_events.specs.Reads.{SawAt}
use Rattle.sia_events.specs.Isolation.{IsBadRead, IsBadWrite, IsUnexplained}
use Rattle.sia_index.specs.declared.info.KeyVersion.{KeyVersion}
use Rattle.sia_index.specs.Info.{IsKeyAt}
use Rattle.sia_parts.specs.declared.finding.BadRead.{BadRead}
use Rattle.sia_parts.specs.declared.finding.BadWrite.{BadWrite}
use Rattle.sia_parts.specs.declared.finding.Unexplained.{Unexplained}
use Rattle.sia_index.specs.Numbers.{IsCommittedAt}

-- new holds what old held, and what has P, and nothing else
abbrev pub Adds : {A : Type 0} → (A → Type 0) → List A → List A → Type 0
Adds {A} P old new = (x : A) → Contains new x ↔ (Contains old x ⊎ P x)

-- some x of the list gives y
abbrev pub FromSome : {A B : Type 0} → (A → B → Type 0) → List A → B → Type 0
FromSome {A} P xs y = (x : A) × Contains xs x × P x y

-- the new list gives what the old one gave, and what has P, and nothing else
abbrev pub Gives : {A B : Type 0} → (A → B → Type 0) → (B → Type 0) → List A → List A → Type 0
Gives {A} {B} Q P old new = (y : B) → FromSome Q new y ↔ (FromSome Q old y ⊎ P y)

-- a version of a key that a transaction saw at a place
pub record Sight : Type 0 where
  pub place : ℕ
  pub txn : ℕ
  pub key : ℕ
  pub saw : ℕ

-- at its place the transaction saw this version of the key
abbrev pub IsSight : List Event → Sight → Type 0
IsSight h s = SawAt h s.place s.txn s.key s.saw

-- what a bad read saw
abbrev pub bad_sight : BadRead → Sight
bad_sight b = record { place = b.place; txn = b.txn; key = b.key; saw = b.saw }

-- the bad read of a sight
abbrev pub IsBadOf : List Event → Sight → BadRead → Type 0
IsBadOf h s b = (bad_sight b ≡ s) × IsBadRead h b.place b.txn b.key b.saw b.due

-- what an unexplained read saw
abbrev pub unexplained_sight : Unexplained → Sight
unexplained_sight u = record { place = u.place; txn = u.txn; key = u.key; saw = u.saw }

-- the unexplained read of a sight
abbrev pub IsUnexplainedOf : List Event → Sight → Unexplained → Type 0
IsUnexplainedOf h s u = (unexplained_sight u ≡ s) × IsUnexplained h u.place u.txn u.key u.saw

-- the sight is of a committed transaction and a written key, by number, and of a version that isn't the transaction's own, as of
-- its commit
abbrev pub LooksAt : List Event → Sight → ℕ × ℕ × ℕ → Type 0
LooksAt h s at = IsCommittedAt h at.0 s.txn × IsKeyAt h at.1 s.key × (s.saw ≢ s.txn) × IsAsOf h s.saw at.2

-- some sight that has P gives y
abbrev pub FromSight : {B : Type 0} → (Sight → Type 0) → (Sight → B → Type 0) → B → Type 0
FromSight P Q y = (s : Sight) × P s × Q s y

-- the bad write has the version as its second
abbrev pub IsBadWith : List Event → KeyVersion → BadWrite → Type 0
IsBadWith h second b = (b.key ≡ second.key) × (b.second ≡ second.txn) × IsBadWrite h b.key b.first b.second
