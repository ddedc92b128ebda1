-- What reads saw at the keys of a part, by numbers of the log and by positions.
use Rattle.std.specs.Prelude.{◌≡◌, ◌≢◌, ◌⊎◌, ◌↔◌, ℕ, ◌<◌, ◌≤◌, List, Bool, All, false, IsTrue, MatchOption, Option}
use Rattle.sia_events.specs.declared.event.Event.{Event}
use Rattle.sia_events.specs.declared.log.Row.{Row}
use Rattle.sia_events.specs.declared.log.Row.TheVariants as rows
use Rattle.sia_events.specs.Numbering.{names_of, pair_at, AscendByKey, IsPair}
use Rattle.sia_events.specs.Reads.{SawAt}
use Rattle.sia_events.specs.Refusals.{IsWellFormed}
use Rattle.sia_events.specs.Transactions.{IsCommitted, WroteBefore}
use Rattle.sia_index.specs.declared.info.KeyVersion.{KeyVersion}
use Rattle.sia_index.specs.declared.info.WriteAt.{WriteAt}
use Rattle.sia_index.specs.Info.{IsKeyAt}
use Rattle.sia_index.specs.Positions.{HasPosition, IsAtPosition}
use Rattle.sia_parts.specs.declared.audit.sights.Known.{Known}
use Rattle.sia_parts.specs.declared.audit.ranges.Cover.{Cover}
use Rattle.sia_parts.specs.declared.audit.sights.Scope.{Scope}
use Rattle.sia_parts.specs.declared.audit.sights.Seen.{Seen}
use Rattle.sia_parts.specs.Sights.{Sight, Adds, FromSome, FromSight, IsSight, IsBadOf, IsUnexplainedOf, LooksAt}
use Rattle.sia_parts.specs.declared.audit.sights.View.{View}
use Rattle.sia_parts.specs.declared.audit.sights.WrongReads.{WrongReads}
use Rattle.sia_parts.specs.declared.accesses.RangeMiss.{RangeMiss}
use Rattle.sia_parts.specs.Accesses.{IsPassedBy}
use Rattle.sia_parts.specs.Parts.{IsInPart}

-- the log's transaction whose event the row is
abbrev pub txn_in : Row → ℕ
txn_in (rows.Begin d start) = d
txn_in (rows.Read d k w) = d
txn_in (rows.OwnRead d k w) = d
txn_in (rows.Range d r w) = d
txn_in (rows.Write d k w) = d
txn_in (rows.Commit d) = d
txn_in (rows.Abort d) = d

-- the log's transaction whose read the row is, and for other events a number that none has
abbrev pub reader_in : Row → ℕ
reader_in (rows.Begin d start) = 4294967295
reader_in (rows.Read d k w) = d
reader_in (rows.OwnRead d k w) = d
reader_in (rows.Range d r w) = d
reader_in (rows.Write d k w) = 4294967295
reader_in (rows.Commit d) = 4294967295
reader_in (rows.Abort d) = 4294967295

-- an index of the log, and the numbers of the written keys of the part
pub record IsScope (scope : Scope) : Type 0 where
  pub same : scope.ix.now ≡ scope.log.now
  pub well_formed : IsWellFormed scope.ix.now
  pub each : (j : ℕ) → ((scope.first ≤ j) × (j < scope.end)) ↔ ((k : ℕ) × IsKeyAt scope.ix.now j k × IsInPart scope.part k)

-- at place p a version was seen of a written key whose number is from the one to before the other
abbrev pub IsSightWithin : List Event → ℕ → ℕ → ℕ → Sight → Type 0
IsSightWithin h p from to s = (s.place ≡ p) × IsSight h s × (i : ℕ) × IsKeyAt h i s.key × (from ≤ i) × (i < to)

-- the row is of the reader with number at.0, and of the version of key number at.1 as of at.2
abbrev pub IsSeenAt : List Event → ℕ × ℕ → ℕ × ℕ × ℕ → Type 0
IsSeenAt h row at = (row.0 ≡ at.0) × (v : KeyVersion) × IsAtPosition h row.1 v × IsKeyAt h at.1 v.key × (v.commit ≡ at.2)

-- that reader saw that version, or passed over the key
abbrev pub HasSeenAt : List Event → Seen → ℕ × ℕ × ℕ → Type 0
HasSeenAt h seen at = FromSome (IsSeenAt h) seen.saw at ⊎ (FromSome IsPassedBy seen.missed (at.0, at.1) × (at.2 ≡ 0))

-- a row at a position that there is
abbrev pub IsPlaced : List Event → ℕ × ℕ → Type 0
IsPlaced h row = HasPosition h row.1

-- a range miss of some key
abbrev pub IsMiss : ℕ × RangeMiss → Type 0
IsMiss row = row.1.from < row.1.to

-- the new one has what the old one had, and the wrong reads that sights with P are, and nothing else
pub record AddsWrong (h : List Event) (P : Sight → Type 0) (old new : WrongReads) : Type 0 where
  pub bad_reads : Adds (FromSight P (IsBadOf h)) old.bad_reads.items new.bad_reads.items
  pub unexplained : Adds (FromSight P (IsUnexplainedOf h)) old.unexplained.items new.unexplained.items

-- the new one has what the old one had, and what the sights with P give, and nothing else
pub record Gains (h : List Event) (P : Sight → Type 0) (old new : Seen) : Type 0 where
  pub wrong : AddsWrong h P old.wrong new.wrong
  pub looks : (at : ℕ × ℕ × ℕ) → HasSeenAt h new at ↔ (HasSeenAt h old at ⊎ FromSight P (LooksAt h) at)
  pub placed : All (IsPlaced h) old.saw → All (IsPlaced h) new.saw
  pub some : All IsMiss old.missed → All IsMiss new.missed

-- the version of k that v made, or version 0, stands at position q
abbrev pub IsPositionOf : List Event → ℕ → ℕ → ℕ → Type 0
IsPositionOf h k v q = (w : KeyVersion) × IsAtPosition h q w × (w.key ≡ k) × (w.txn ≡ v)

-- the version of a transaction that didn't commit
abbrev pub IsLoose : List Event → ℕ → Type 0
IsLoose h v = (v ≢ 0) × ¬ IsCommitted h v

-- what the reader saw of a key
abbrev pub sight_of : Known → ℕ → ℕ → Sight
sight_of known k v = record { place = known.reader.place; txn = known.reader.txn; key = k; saw = v }

-- version v of k stands where it is said, and nowhere where it didn't commit
pub record IsVersionAt (h : List Event) (k v : ℕ) (at : WriteAt) : Type 0 where
  pub key : IsKeyAt h at.key k
  pub position : MatchOption at.position (IsLoose h v) (IsPositionOf h k v)

-- the reader saw the version at its place
pub record IsView (h : List Event) (known : Known) (view : View) : Type 0 where
  pub pair : IsPair (names_of h) view.pair
  pub saw : SawAt h known.reader.place known.reader.txn (pair_at (names_of h) view.pair).0 (pair_at (names_of h) view.pair).1
  pub at : IsVersionAt h (pair_at (names_of h) view.pair).0 (pair_at (names_of h) view.pair).1 view.at
  pub mine : IsTrue view.mine ↔ WroteBefore h known.reader.txn (pair_at (names_of h) view.pair).0 known.reader.place

-- the keys from lo to hi, of which the reader saw the listed ones at their versions, and the others at version 0
pub record IsCover (h : List Event) (known : Known) (cover : Cover) : Type 0 where
  pub each : (j : ℕ) → ((cover.first ≤ j) × (j < cover.end)) ↔ ((k : ℕ) × IsKeyAt h j k × (cover.lo ≤ k) × (k ≤ cover.hi))
  pub numbers : All (IsPair (names_of h)) cover.pairs.now
  pub ascend : AscendByKey h cover.pairs.now
  pub inside : All (λ p. (cover.lo ≤ (pair_at (names_of h) p).0) × ((pair_at (names_of h) p).0 ≤ cover.hi)) cover.pairs.now
  pub listed : All (λ p. SawAt h known.reader.place known.reader.txn (pair_at (names_of h) p).0 (pair_at (names_of h) p).1) cover.pairs.now
  pub unlisted : (k : ℕ) → cover.lo ≤ k → k ≤ cover.hi → All (λ p. (pair_at (names_of h) p).0 ≢ k) cover.pairs.now → SawAt h known.reader.place known.reader.txn k 0
  pub own : cover.own ≡ false → (k : ℕ) → cover.lo ≤ k → k ≤ cover.hi → ¬ WroteBefore h known.reader.txn k known.reader.place

-- the reader saw version 0 of the keys with numbers from the one to before the other, and hadn't written them where it is said
pub record IsGap (h : List Event) (known : Known) (own : Bool) (from to : ℕ) : Type 0 where
  pub unlisted : (i : ℕ) → from ≤ i → i < to → (k : ℕ) × IsKeyAt h i k × SawAt h known.reader.place known.reader.txn k 0
  pub not_own : own ≡ false → (i k : ℕ) → from ≤ i → i < to → IsKeyAt h i k → ¬ WroteBefore h known.reader.txn k known.reader.place

-- the reader saw the pair, and version 0 of the keys with numbers from the one to before that of its key, and hadn't written them where it is said
pub record IsListed (h : List Event) (known : Known) (own : Bool) (from p : ℕ) : Type 0 where
  pub pair : IsPair (names_of h) p
  pub saw : SawAt h known.reader.place known.reader.txn (pair_at (names_of h) p).0 (pair_at (names_of h) p).1
  pub not_own : own ≡ false → ¬ WroteBefore h known.reader.txn (pair_at (names_of h) p).0 known.reader.place
  pub gap : (i : ℕ) → IsKeyAt h i (pair_at (names_of h) p).0 → (from ≤ i) × IsGap h known own from i

-- all keys with numbers from the one to before the other have P, or those below the number that was found
abbrev pub HaveUpTo : (ℕ → Type 0) → List Event → ℕ → ℕ → Option ℕ → Type 0
HaveUpTo P h from to found = MatchOption found ((i k : ℕ) → from ≤ i → i < to → IsKeyAt h i k → P k)
    (λ j. (from ≤ j) × (j < to) × ((i k : ℕ) → from ≤ i → i < j → IsKeyAt h i k → P k))
