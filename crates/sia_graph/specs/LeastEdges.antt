-- The least edge from one transaction to another, told from the positions of versions that one of them made and the other made
-- or saw.
use Rattle.std.specs.Prelude.{◌≡◌, ℕ, ◌<◌, ◌≤◌, List, [], ◌∷◌, Contains}
use Rattle.sia_events.specs.declared.event.Event.{Event}
use Rattle.sia_events.specs.Lists.{ListsAscending, Precedes}
use Rattle.sia_index.specs.Info.{IsKeyAt}
use Rattle.sia_index.specs.Positions.{IsAtPosition}
use Rattle.sia_index.specs.declared.info.KeyVersion.{KeyVersion}
use Rattle.sia_parts.specs.declared.accesses.RangeMiss.{RangeMiss}
use Rattle.sia_parts.specs.declared.finding.Kind.{Kind}
use Rattle.sia_parts.specs.declared.finding.Kind.TheVariants.{Ww, Wr, Rw}
use Rattle.sia_parts.specs.Entries.{EdgeOfKind, kind_number}
use Rattle.sia_graph.specs.Twos.{HaveOneKey}

-- of the edges from t to u the least, by kind and key
abbrev pub IsLeastEdgeBetween : List Event → ℕ → ℕ → Kind → ℕ → Type 0
IsLeastEdgeBetween h t u kind k = EdgeOfKind h kind t u k
    × ((other : Kind) (j : ℕ) → EdgeOfKind h other t u j → ¬ Precedes (kind_number other ∷ j ∷ []) (kind_number kind ∷ k ∷ []))

-- the positions of the versions that some transaction made
abbrev pub AreMade : List Event → List ℕ → Type 0
AreMade h made = (t : ℕ) × ListsAscending (λ q. (v : KeyVersion) × IsAtPosition h q v × (0 < v.commit) × (v.txn ≡ t)) made

-- key number j is that of the version at position q
abbrev pub IsKeyOf : List Event → ℕ → ℕ → Type 0
IsKeyOf h q j = (v : KeyVersion) × IsAtPosition h q v × IsKeyAt h j v.key

-- key number j is that of a version made at a position from one to before another
abbrev pub IsMadeWithin : List Event → List ℕ → ℕ → ℕ → ℕ → Type 0
IsMadeWithin h made from to j = (q : ℕ) × Contains made q × (from ≤ q) × (q < to) × IsKeyOf h q j

-- a version made at position q makes an edge of this kind with another of its key, made or seen at position p
abbrev pub Meets : Kind → ℕ → ℕ → Type 0
Meets Ww q p = q < p
Meets Wr q p = q ≤ p
Meets Rw q p = p < q

-- some version made does so, of key number j
abbrev pub IsMet : List Event → Kind → List ℕ → ℕ → ℕ → Type 0
IsMet h kind made p j = (q : ℕ) × Contains made q × HaveOneKey h q p × Meets kind q p × IsKeyOf h q j

-- some version made is of key number j, which the range miss holds
abbrev pub IsMissMet : List Event → List ℕ → RangeMiss → ℕ → Type 0
IsMissMet h made miss j = (q : ℕ) × Contains made q × (miss.from ≤ j) × (j < miss.to) × IsKeyOf h q j
