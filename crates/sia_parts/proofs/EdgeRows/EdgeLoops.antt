-- Rows of edges, position by position and key by key.
use Rattle.std.proofs.Common.{◌≡◌, ◌≢◌, ◌⊎◌, inl, inr, ℕ, ◌+◌, ◌<◌, ◌≤◌, List, [], ◌∷◌, ◌++◌, length, take, refl, sym, subst, arith}
use Rattle.std.specs.Prelude.{Contains, slice_index_or}
use Rattle.std.proofs.lemmas.Bool.{cases_lt}
use Rattle.sia_events.specs.declared.event.Event.{Event}
use Rattle.sia_events.specs.declared.event.Event.TheVariants.{Commit}
use Rattle.sia_events.specs.NarrowDependencies.{CommitsVersion}
use Rattle.sia_events.specs.Refusals.{IsWellFormed}
use Rattle.sia_events.proofs.Shared.TransactionDecisions.{place_within}
use Rattle.sia_events.proofs.Writing.WellFormed.{few_events}
use Rattle.sia_index.specs.declared.info.KeyVersion.{KeyVersion}
use Rattle.sia_index.specs.Info.{IsKeyAt}
use Rattle.sia_index.specs.Numbers.{IsCommittedAt}
use Rattle.sia_index.specs.Positions.{HasVersionUpTo, IsAtPosition}
use Rattle.sia_parts.specs.declared.accesses.RangeMiss.{RangeMiss}
use Rattle.sia_parts.specs.declared.edges.EdgeTo.{EdgeTo}
use Rattle.sia_parts.specs.declared.edges.Edges.{Edges}
use Rattle.sia_parts.specs.declared.finding.Kind.{Kind}
use Rattle.sia_parts.specs.declared.finding.Kind.TheVariants.{Ww, Wr, Rw}
use Rattle.sia_parts.specs.EdgeRows.{AreReadings, HasReading, IsKeyEnd, IsMadeAt, IsMakerRow, IsMissRow, IsOfKey, IsReaderRow, IsReadingRow, StandsBehind}
use Rattle.sia_parts.specs.Parts.{IsWithin}
use Rattle.sia_parts.specs.Sights.{Adds, FromSome}
use Rattle.sia_parts.proofs.Shared.Adding.{adds_both, adds_nothing, adds_push, adds_same}
use Rattle.sia_parts.proofs.Shared.OneNumber.{one_committed_number, one_key, one_key_number}
use Rattle.sia_parts.proofs.EdgeRows.PositionOrder.{by_position, made_of_key, one_version, same_number}
use Rattle.sia_parts.proofs.EdgeRows.PositionEdges.{made_version}

-- what a list holds already adds nothing
pub adds_held : {A : Type 0} (P : A → Type 0) (xs : List A) → ((x : A) → P x → Contains xs x) → Adds P xs xs
adds_held P xs held x = ((λ c. inl c), (λ e. elim e [ inl c ↦ c | inr p ↦ held x p ]))

-- rows to who made a version behind position q and before n
abbrev pub MakersBelow : List Event → ℕ → Kind → ℕ → ℕ → EdgeTo → Type 0
MakersBelow h i kind q n row = (row.kind ≡ kind) × (row.target ≢ i) × IsOfKey h row.key q × (p : ℕ) × (q < p) × (p < n) × IsMadeAt h row.target row.key p

-- the row to who made the version at n
abbrev MakerAt : List Event → ℕ → Kind → ℕ → ℕ → EdgeTo → Type 0
MakerAt h i kind q n row = (row.kind ≡ kind) × (row.target ≢ i) × IsOfKey h row.key q × IsMadeAt h row.target row.key n

module _ (h : List Event) (i : ℕ) where
  pub makers_none : (kind : Kind) (q n : ℕ) (old : List EdgeTo) → n ≤ q + 1 → Adds (MakersBelow h i kind q n) old old
  makers_none kind q n old none = adds_nothing (MakersBelow h i kind q n) old (λ row is. let low = is.4 in let high = is.5 in omega arith)

  -- one position has one maker and one key
  one_maker : (n u w j k : ℕ) → IsMadeAt h u j n → IsMadeAt h w k n → (u ≡ w) × (j ≡ k)
  one_maker n u w j k a b =
      let same = one_version h n b.version a.version b.at a.at in (
        one_committed_number h u w a.version.txn a.maker (subst (λ (v : KeyVersion). IsCommittedAt h w v.txn) same b.maker),
        one_key_number h j k a.version.key a.key (subst (λ (v : KeyVersion). IsKeyAt h k v.key) same b.key),
      )

  -- the next one is added
  pub makers_push : (kind : Kind) (q n m u j : ℕ) (old mid : List EdgeTo) → m ≡ n + 1 → IsOfKey h j q → IsMadeAt h u j n → q < n → u ≢ i
      → Adds (MakersBelow h i kind q n) old mid → Adds (MakersBelow h i kind q m) old (mid ++ record { target = u; kind = kind; key = j } ∷ [])
  makers_push kind q n m u j old mid next of made less other before =
      adds_same (λ row. MakersBelow h i kind q n row ⊎ MakerAt h i kind q n row) (MakersBelow h i kind q m) old (mid ++ record { target = u; kind = kind; key = j } ∷ [])
      (λ row e. elim e [
        | inl is ↦ (is.0, is.1, is.2, is.3, is.4, (let high = is.5 in omega arith), is.6)
        | inr is ↦ (is.0, is.1, is.2, n, less, omega arith, is.3)
      ])
      (λ row is. elim (cases_lt is.3 n) [
        | inl below ↦ inl (is.0, is.1, is.2, is.3, is.4, below, is.6)
        | inr last ↦ let here : is.3 ≡ n = (let high = is.5 in omega arith) in inr (is.0, is.1, is.2, subst (IsMadeAt h row.target row.key) here is.6)
      ])
      (adds_both (MakersBelow h i kind q n) (MakerAt h i kind q n) old mid (mid ++ record { target = u; kind = kind; key = j } ∷ []) before
      (adds_push (MakerAt h i kind q n) mid (record { target = u; kind = kind; key = j }) (refl, other, of, made) (λ row is. row_is row is.0 (one_maker n u row.target j row.key made is.3))))
    where
      row_is : (row : EdgeTo) → row.kind ≡ kind → (u ≡ row.target) × (j ≡ row.key) → record { target = u; kind = kind; key = j } ≡ row
      row_is row same both = λ x. record { target = both.0 x; kind = sym same x; key = both.1 x }

  -- or it is the source's own
  pub makers_skip : (kind : Kind) (q n m j : ℕ) (old mid : List EdgeTo) → m ≡ n + 1 → IsMadeAt h i j n → Adds (MakersBelow h i kind q n) old mid → Adds (MakersBelow h i kind q m) old mid
  makers_skip kind q n m j old mid next own before = adds_same (MakersBelow h i kind q n) (MakersBelow h i kind q m) old mid
      (λ row is. (is.0, is.1, is.2, is.3, is.4, (let high = is.5 in omega arith), is.6))
      (λ row is. elim (cases_lt is.3 n) [
        | inl below ↦ (is.0, is.1, is.2, is.3, is.4, below, is.6)
        | inr last ↦ let here : is.3 ≡ n = (let high = is.5 in omega arith) in absurd (is.1 (one_maker n row.target i row.key j (subst (IsMadeAt h row.target row.key) here is.6) own).0)
      ])
      before

  pub makers_all : (kind : Kind) (q e n : ℕ) (old new : List EdgeTo) → IsKeyEnd h q e → e ≤ n → Adds (MakersBelow h i kind q n) old new → Adds (IsMakerRow h i kind q) old new
  makers_all kind q e n old new end last = adds_same (MakersBelow h i kind q n) (IsMakerRow h i kind q) old new
      (λ row is. (is.0, is.1, is.2, is.3, is.4, is.6))
      (λ row is. (is.0, is.1, is.2, is.3, is.4, (let below = end.past row.key is.3 is.2 (made_of_key h row.target row.key is.3 is.5) in omega arith), is.5))

  -- what is behind a position is behind those before it
  pub makers_behind : (kind : Kind) (q p : ℕ) → StandsBehind h q p → (row : EdgeTo) → IsMakerRow h i kind p row → IsMakerRow h i kind q row
  makers_behind kind q p stands row is = (is.0, is.1, stands.back row.key is.2, is.3, (let le = stands.le in let less = is.4 in omega arith), is.5)

-- rows to who is noted from position q to before n
abbrev pub ReadersBelow : Edges → ℕ → ℕ → ℕ → EdgeTo → Type 0
ReadersBelow edges i q n row = (row.kind ≡ Wr) × (row.target ≢ i) × IsOfKey edges.index.now row.key q
    × (p : ℕ) × (q ≤ p) × (p < n) × IsOfKey edges.index.now row.key p × HasReading edges.readings.now p row.target

module _ (edges : Edges) (i : ℕ) where
  pub readers_none : (q : ℕ) (old : List EdgeTo) → Adds (ReadersBelow edges i q q) old old
  readers_none q old = adds_nothing (ReadersBelow edges i q q) old (λ row is. let low = is.4 in let high = is.5 in omega arith)

  pub readers_more : (q n j : ℕ) (old mid new : List EdgeTo) → AreReadings edges.index.now edges.accesses.now edges.readings.now → q ≤ n → IsOfKey edges.index.now j q → IsOfKey edges.index.now j n
      → Adds (ReadersBelow edges i q n) old mid → Adds (FromSome (IsReadingRow i j) (slice_index_or edges.readings.now n [])) mid new → Adds (ReadersBelow edges i q (n + 1)) old new
  readers_more q n j old mid new are low of here before more =
      adds_same (λ row. ReadersBelow edges i q n row ⊎ FromSome (IsReadingRow i j) (slice_index_or edges.readings.now n []) row) (ReadersBelow edges i q (n + 1)) old new
      (λ row e. elim e [
        | inl is ↦ (is.0, is.1, is.2, is.3, is.4, (let high = is.5 in omega arith), is.6, is.7)
        | inr f ↦ subst (ReadersBelow edges i q (n + 1)) (sym f.2.0) (refl, f.2.1, of, n, low, omega arith, here, f.1)
      ])
      (λ row is. elim (cases_lt is.3 n) [
        | inl below ↦ inl (is.0, is.1, is.2, is.3, is.4, below, is.6, is.7)
        | inr last ↦
            let at : is.3 ≡ n = (let high = is.5 in omega arith) in
            let key : row.key ≡ j = same_number edges.index.now row.key j q is.2 of in
            inr (row.target, subst (λ p. HasReading edges.readings.now p row.target) at is.7, ((λ x. record { target = row.target; kind = is.0 x; key = key x }), is.1))
      ])
      (adds_both (ReadersBelow edges i q n) (FromSome (IsReadingRow i j) (slice_index_or edges.readings.now n [])) old mid new before more)

  pub readers_all : (q e n : ℕ) (old new : List EdgeTo) → IsKeyEnd edges.index.now q e → e ≤ n → Adds (ReadersBelow edges i q n) old new → Adds (IsReaderRow edges i q) old new
  readers_all q e n old new end last = adds_same (ReadersBelow edges i q n) (IsReaderRow edges i q) old new
      (λ row is. (is.0, is.1, is.2, is.3, is.4, is.6, is.7))
      (λ row is. (is.0, is.1, is.2, is.3, is.4, (let below = end.past row.key is.3 is.2 is.5 in omega arith), is.5, is.6))

module _ (h : List Event) (wf : IsWellFormed h) (i : ℕ) where
  -- a key with a version that was made has one that is committed up to the last place
  pub has_version : (u j p k : ℕ) → IsMadeAt h u j p → IsKeyAt h j k → HasVersionUpTo h k 4294967295
  has_version u j p k made key =
      let version = made_version h wf made.version p made.at made.made in
      let same = one_key h j made.version.key k made.key key in
      let within = (place_within h made.version.commit (Commit made.version.txn) version.1).1 in
      let few = few_events h wf in
      (made.version.txn, made.version.commit, subst (λ x. CommitsVersion h x made.version.txn made.version.commit) same version, omega arith)

  pub misses_none : (from : ℕ) (old : List EdgeTo) → Adds (IsMissRow h i from from) old old
  misses_none from old = adds_nothing (IsMissRow h i from from) old (λ row is. let low = is.2 in let high = is.3 in omega arith)

  -- the next key of which a version was made
  pub misses_more : (from a j first : ℕ) (old mid new : List EdgeTo) → from ≤ a → a ≤ j → ((n k : ℕ) → a ≤ n → n < j → IsKeyAt h n k → ¬ HasVersionUpTo h k 4294967295)
      → (v : KeyVersion) → IsAtPosition h first v → IsKeyAt h j v.key → v.commit ≡ 0 → Adds (IsMissRow h i from a) old mid → Adds (IsMakerRow h i Rw first) mid new → Adds (IsMissRow h i from (j + 1)) old new
  misses_more from a j first old mid new low le none v at key zero before more =
      adds_same (λ row. IsMissRow h i from a row ⊎ IsMakerRow h i Rw first row) (IsMissRow h i from (j + 1)) old new
      (λ row e. elim e [
        | inl is ↦ (is.0, is.1, is.2, (let high = is.3 in omega arith), is.4, is.5)
        | inr is ↦ let number : row.key ≡ j = same_number h row.key j first is.2 of in (is.0, is.1, omega arith, omega arith, is.3, is.5)
      ])
      (λ row is. elim (cases_lt row.key a) [
        | inl below ↦ inl (is.0, is.1, is.2, below, is.4, is.5)
        | inr above ↦ elim (cases_lt row.key j) [
          | inl between ↦ absurd (none row.key is.5.version.key above between is.5.key (has_version row.target row.key is.4 is.5.version.key is.5 is.5.key))
          | inr last ↦
              let number : j ≡ row.key = (let high = is.3 in omega arith) in
              let same = one_key h row.key v.key is.5.version.key (subst (λ n. IsKeyAt h n v.key) number key) is.5.key in
              let made = is.5.made in
              inr (is.0, is.1, subst (λ n. IsOfKey h n first) number of, is.4, by_position h first is.4 v is.5.version at is.5.at same (omega arith), is.5)
        ]
      ])
      (adds_both (IsMissRow h i from a) (IsMakerRow h i Rw first) old mid new before more)
    where
      of : IsOfKey h j first
      of = record { version = v; at = at; key = key }

  pub misses_all : (from a to : ℕ) (old new : List EdgeTo) → (a ≡ from) ⊎ (a ≤ to) → ((n k : ℕ) → a ≤ n → n < to → IsKeyAt h n k → ¬ HasVersionUpTo h k 4294967295)
      → Adds (IsMissRow h i from a) old new → Adds (IsMissRow h i from to) old new
  misses_all from a to old new end none = adds_same (IsMissRow h i from a) (IsMissRow h i from to) old new
      (λ row is. (is.0, is.1, is.2, (let low = is.2 in let high = is.3 in elim end [ inl same ↦ absurd (omega arith) | inr most ↦ omega arith ]), is.4, is.5))
      (λ row is. elim (cases_lt row.key a) [
        | inl below ↦ (is.0, is.1, is.2, below, is.4, is.5)
        | inr above ↦ absurd (none row.key is.5.version.key above is.3 is.5.key (has_version row.target row.key is.4 is.5.version.key is.5 is.5.key))
      ])

-- the first n range misses hold each key before the end that isn't before one of their beginnings
abbrev pub ReachesTo : List RangeMiss → ℕ → ℕ → Type 0
ReachesTo misses n end = (j : ℕ) → j < end → ((x : RangeMiss) → Contains (take n misses) x → x.from ≤ j) → (m : RangeMiss) × Contains (take n misses) m × (m.from ≤ j) × (j < m.to)

-- q stands at place n of the list or behind it
abbrev pub StandsFrom : List ℕ → ℕ → ℕ → Type 0
StandsFrom xs n q = (k : ℕ) × (n ≤ k) × (k < length xs) × (slice_index_or xs k q ≡ q)

-- what stands at version q of its key, from who made it
abbrev pub MadeHere : Edges → ℕ → ℕ → EdgeTo → Type 0
MadeHere edges i q row = ((k : ℕ) × IsKeyAt edges.index.now row.key k × IsWithin edges.within k) × (IsMakerRow edges.index.now i Ww q row ⊎ IsReaderRow edges i q row)
