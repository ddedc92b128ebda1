-- The vulnerable edges, by the numbers of their ends, and what they are found by.
use Rattle.std.specs.Prelude.{◌≡◌, ◌≢◌, ◌+◌, ◌∷◌, [], ℕ, ◌<◌, ◌≤◌, List}
use Rattle.sia_events.specs.declared.event.Event.{Event}
use Rattle.sia_events.specs.DangerousStructures.{IsVulnerable}
use Rattle.sia_events.specs.Lists.{ListsBy}
use Rattle.sia_events.specs.NarrowDependencies.{CommitsVersion}
use Rattle.sia_events.specs.Transactions.{Overlap}
use Rattle.sia_index.specs.declared.info.KeyVersion.{KeyVersion}
use Rattle.sia_index.specs.Info.{IsKeyAt}
use Rattle.sia_index.specs.Numbers.{IsCommittedAt}
use Rattle.sia_index.specs.Positions.{IsAtPosition}
use Rattle.sia_parts.specs.declared.accesses.RangeMiss.{RangeMiss}
use Rattle.sia_graph.specs.declared.pivot.Link.{Link}
use Rattle.sia_graph.specs.Twos.{HaveOneKey}

-- a vulnerable edge leads from number i to number j
abbrev pub IsVulnerableAt : List Event → ℕ → ℕ → Type 0
IsVulnerableAt h i j = (t : ℕ) × (u : ℕ) × IsCommittedAt h i t × IsCommittedAt h j u × IsVulnerable h t u

abbrev pub link_rank : Link → List ℕ
link_rank l = l.at ∷ l.other ∷ []

-- the list holds what R links, each link once, by `at` and then by `other`
abbrev pub ListsLinks : (ℕ → ℕ → Type 0) → List Link → Type 0
ListsLinks R links = ListsBy link_rank (λ l. R l.at l.other) links

-- numbers i and j differ and overlap, and a version of k that j made is committed behind place c
abbrev pub OverlapsAfter : List Event → ℕ → ℕ → ℕ → ℕ → Type 0
OverlapsAfter h i k c j = (t : ℕ) × (u : ℕ) × (d : ℕ) × IsCommittedAt h i t × IsCommittedAt h j u × CommitsVersion h k u d × (c < d) × (j ≢ i) × Overlap h t u

-- so a version of its key behind that at position q
abbrev pub OverlapsBehind : List Event → ℕ → ℕ → ℕ → Type 0
OverlapsBehind h i q j = (v : KeyVersion) × IsAtPosition h q v × OverlapsAfter h i v.key v.commit j

-- the last position before e is of the key of that at position q, and isn't before it
abbrev pub EndsBehind : List Event → ℕ → ℕ → Type 0
EndsBehind h q e = (p : ℕ) × (e ≡ p + 1) × (q ≤ p) × HaveOneKey h q p

-- so any version of a key of the range miss
abbrev pub OverlapsIn : List Event → ℕ → RangeMiss → ℕ → Type 0
OverlapsIn h i miss j = (n : ℕ) × (k : ℕ) × (miss.from ≤ n) × (n < miss.to) × IsKeyAt h n k × OverlapsAfter h i k 0 j
