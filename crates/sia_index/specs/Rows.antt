-- The rows of an index's tables: what each says of a history, and the order that they stand in.
use Rattle.std.specs.Prelude.{◌≡◌, ◌<◌, ◌≤◌, ℕ, Option, Some, MatchOption, List, [], ◌∷◌, All, AllPairs, Contains, length, slice_get, slice_index_or}
use Rattle.sia_events.specs.declared.event.Event.{Event}
use Rattle.sia_events.specs.Lists.{ListsBy}
use Rattle.sia_events.specs.Transactions.{Wrote}
use Rattle.sia_index.specs.declared.info.Made.{Made}
use Rattle.sia_index.specs.declared.info.KeyVersion.{KeyVersion}
use Rattle.sia_index.specs.declared.names.Numbered.{Numbered}

-- no number from lo to hi has P, or none below the one that was found
abbrev pub PassesNone : (ℕ → Type 0) → ℕ → ℕ → Option ℕ → Type 0
PassesNone P lo hi found = MatchOption found ((k : ℕ) → lo ≤ k → k ≤ hi → ¬ P k) (λ k. (lo ≤ k) × (k ≤ hi) × ((j : ℕ) → lo ≤ j → j < k → ¬ P j))

abbrev pub AscendsByCommit : List Made → Type 0
AscendsByCommit versions = AllPairs (λ x y. x.commit < y.commit) versions

-- of the versions that commit at most at the place, this one commits last
abbrev pub IsLastWithin : List Made → ℕ → Made → Type 0
IsLastWithin versions place made = Contains versions made × (made.commit ≤ place)
    × All (λ other. other.commit ≤ place → other.commit ≤ made.commit) versions

-- of the names in a log those that have K, by name, each with its number there
abbrev pub AreNumbered : (ℕ → Type 0) → List ℕ → List (Numbered ℕ) → Type 0
AreNumbered K names rows = ListsBy (λ row. row.name ∷ row.number ∷ []) (λ row. (slice_get names row.number ≡ Some row.name) × K row.name) rows

-- some write event names k
abbrev pub IsWritten : List Event → ℕ → Type 0
IsWritten h k = (t : ℕ) × Wrote h t k

-- of the versions of all keys those of k stand from one place to below another, version 0 first
pub record IsKeyStretch (versions : List KeyVersion) (k from to : ℕ) : Type 0 where
  pub some : from < to
  pub bound : to ≤ length versions
  pub lesser : (j : ℕ) (d : KeyVersion) → j < from → (slice_index_or versions j d).key < k
  pub zero_first : (d : KeyVersion) → (slice_index_or versions from d).commit ≡ 0
  pub own : (j : ℕ) (d : KeyVersion) → from ≤ j → j < to → (slice_index_or versions j d).key ≡ k
  pub greater : (j : ℕ) (d : KeyVersion) → to ≤ j → j < length versions → k < (slice_index_or versions j d).key

-- what f gives of each of the first n rows, at the place of its row
abbrev pub IsColumn : {A B : Type 0} → (A → B) → List A → ℕ → List B → Type 0
IsColumn {A} {B} f rows n ys = (length ys ≡ n) × ((i : ℕ) (d : B) (e : A) → i < length ys → slice_index_or ys i d ≡ f (slice_index_or rows i e))
