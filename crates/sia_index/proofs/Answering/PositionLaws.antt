-- What the tables of versions say of positions.
use Rattle.std.proofs.Common.{◌≡◌, ◌⊎◌, ◌↔◌, inl, inr, ℕ, zero, suc, ◌+◌, ◌-◌, ◌<◌, ◌≤◌, List, [], ◌∷◌, length, ltb, map, Bool, true, false, Option, Some, refl, sym, subst, ◌∙◌, ap, arith, slice_get}
use Rattle.std.specs.Bool.{then_some}
use Rattle.std.specs.Prelude.{AllPairs, MatchOption, slice_index, slice_index_or, slice_range}
use Rattle.std.proofs.lemmas.Bool.{cases_lt, cases_eq, ltb-false, ltb-true}
use Rattle.std.proofs.lemmas.List.{get_or-map, get_or_past, length-map}
use Rattle.std.proofs.lemmas.List.Edits.{length-between, get_or-between}
use Rattle.std.proofs.lemmas.List.Elements.{Contains-get_or}
use Rattle.std.proofs.lemmas.Option.{slice_get_within, get_or_from_slice_get, slice_get-get_or}
use Rattle.sia_events.specs.declared.event.Event.{Event}
use Rattle.sia_events.specs.Lists.{ListsAscending}
use Rattle.sia_events.specs.NarrowDependencies.{CommitsVersion, IsNextVersion}
use Rattle.sia_events.specs.Numbering.{names_of, writes_of, write_at}
use Rattle.sia_events.specs.Refusals.{IsWellFormed}
use Rattle.sia_events.specs.Transactions.{IsCommitted, Wrote}
use Rattle.sia_events.proofs.Worked.OneList.{one_list_by}
use Rattle.sia_events.proofs.Writing.WellFormed.{one_commit}
use Rattle.sia_index.specs.declared.info.KeyVersion.{KeyVersion}
use Rattle.sia_index.specs.declared.info.Made.{Made}
use Rattle.sia_index.specs.declared.versions.VersionRow.{VersionRow}
use Rattle.sia_index.specs.declared.writes.Written.{Written}
use Rattle.sia_index.specs.declared.versions.Versions.{Versions}
use Rattle.sia_index.specs.Info.{AreVersions, AreWrittenKeys, IsKeyAt, IsMade}
use Rattle.sia_index.specs.Numbers.{IsCommittedAt}
use Rattle.sia_index.specs.Positions.{AreMakersBehind, ArePositions, HasPosition, HasVersionUpTo, IsAtPosition, IsCommitBehind, IsNewestAsOf, IsVersion, NoneBehind}
use Rattle.sia_index.specs.Rows.{IsKeyStretch, IsWritten}
use Rattle.sia_index.specs.Tables.{AreTables, AreVersionTables}
use Rattle.sia_index.specs.declared.names.Keys.{Keys}
use Rattle.sia_index.specs.declared.txns.Txns.{Txns}
use Rattle.sia_index.specs.declared.writes.Writes.{Writes}
use Rattle.sia_index.specs.VersionRows.{IsMadeRow, IsVersionRow, before_commit, made_row, version_of}
use Rattle.sia_index.proofs.VersionRows.DealtVersions.{commit_above, is_made, is_zero, says_version, version_of_write}
use Rattle.sia_index.proofs.Shared.KeyChains.{key_number}
use Rattle.sia_index.proofs.Shared.LogNames.{numbered_wrote, writes_stand_once}
use Rattle.sia_index.proofs.Shared.NumberedNames.{its_number, one_place, place_below, same_some}
use Rattle.sia_index.proofs.Shared.Ordered.{ascends}
use Rattle.sia_index.proofs.Sorting.Points.{PointWithin, point_above, point_within}
use Rattle.sia_index.proofs.VersionRows.RowsByPosition.{order}
use Rattle.sia_index.proofs.VersionRows.VersionTables.{no_row}

abbrev pub no_made : Made
no_made = record { txn = 0; commit = 0 }

module _ (h : List Event) (txns : Txns) (ks : Keys) (v : Versions) (ws : Writes) (are : AreTables h txns ks v ws) where
  wf : IsWellFormed h
  wf = are.well_formed

  abbrev committed : List ℕ
  committed = txns.committed.items

  committed_are : ListsAscending (IsCommitted h) committed
  committed_are = are.txns_are.committed.listed_are

  abbrev keys : List ℕ
  keys = ks.keys.items

  keys_are : AreWrittenKeys h keys
  keys_are = are.keys_are.listed_are

  abbrev t : AreVersionTables h committed keys v
  t = are.versions_are

  up : AllPairs (λ x y. x < y) keys
  up = ascends (λ (x : ℕ). x) (λ k. (u : ℕ) × Wrote h u k) keys keys_are

  committed_up : AllPairs (λ x y. x < y) committed
  committed_up = ascends (λ (x : ℕ). x) (IsCommitted h) committed committed_are

  abbrev pub row : ℕ → VersionRow
  row q = slice_index_or t.rows q no_row

  abbrev pub at : ℕ → KeyVersion
  at q = version_of h keys (row q)

  is_row : (q : ℕ) → q < length t.rows → IsVersionRow h committed keys (row q)
  is_row q below = t.rows_are.right q no_row below

  is_version : (q : ℕ) → q < length t.rows → IsVersion h (at q)
  is_version q below = says_version h wf committed keys keys_are (row q) (is_row q below)

  -- the version at a position is that of the row there
  pub at_position : (q : ℕ) (w : KeyVersion) → IsAtPosition h q w → (q < length t.rows) × (at q ≡ w)
  at_position q w (versions, listed, is) =
      let same = one_list_by _ _ versions (map (version_of h keys) t.rows) listed t.rows_are.listed in
      let there = subst (λ vs. slice_get vs q ≡ Some w) same is in
      let below : q < length t.rows = let long = length-map t.rows (version_of h keys) in let b = slice_get_within (map (version_of h keys) t.rows) q w there in omega arith in
      (below, sym (get_or-map (version_of h keys) t.rows q no_row w below) ∙ get_or_from_slice_get (map (version_of h keys) t.rows) q w w there)

  pub there : (q : ℕ) → q < length t.rows → IsAtPosition h q (at q)
  there q below =
      let long = length-map t.rows (version_of h keys) in (
        map (version_of h keys) t.rows,
        t.rows_are.listed,
        slice_get-get_or (map (version_of h keys) t.rows) q (at q) (omega arith) ∙ ap Some (get_or-map (version_of h keys) t.rows q no_row (at q) below),
      )

  pub positions_count : ArePositions h (length t.rows)
  positions_count = (map (version_of h keys) t.rows, t.rows_are.listed, length-map t.rows (version_of h keys))

  -- each version stands at one
  pub stands : (w : KeyVersion) → IsVersion h w → (q : ℕ) × (q < length t.rows) × (at q ≡ w)
  stands w is =
      let c = (t.rows_are.listed.each w).1 is in
      let below : c.0 < length t.rows = let long = length-map t.rows (version_of h keys) in let b = c.1 in omega arith in
      (c.0, below, sym (get_or-map (version_of h keys) t.rows c.0 no_row w below) ∙ c.2)

  before : (q r : ℕ) → q < r → r < length t.rows → ((at q).key < (at r).key) ⊎ (((at q).key ≡ (at r).key) × ((at q).commit < (at r).commit))
  before q r less below = order h wf committed keys keys_are t.rows t.rows_are q r no_row less below

  -- of the same key, the later commits later
  later : (q r : ℕ) → q < length t.rows → (at q).key ≡ (at r).key → (at q).commit < (at r).commit → q < r
  later q r below key commit = elim (cases_lt q r) [
    | inl less ↦ less
    | inr more ↦ elim (cases_eq q r) [
      | inl same ↦ let e = ap (λ n. (at n).commit) same in absurd (omega arith)
      | inr other ↦ absurd (elim (before r q (omega arith) below) [ inl under ↦ omega arith | inr rest ↦ let c = rest.1 in omega arith ])
    ]
  ]

  written : (q : ℕ) → q < length t.rows → IsWritten h (at q).key
  written q below = elim (is_version q below) [ inl none ↦ none.0 | inr made ↦ ((at q).txn, made.0) ]

  zero_version : (k : ℕ) → IsWritten h k → (z : ℕ) × (z < length t.rows) × ((at z).key ≡ k) × ((at z).commit ≡ 0)
  zero_version k is =
      let found = stands (record { key = k; commit = 0; txn = 0 }) (inl (is, refl, refl)) in
      (found.0, found.1, ap (λ (w : KeyVersion). w.key) found.2, ap (λ (w : KeyVersion). w.commit) found.2)

  committed_version : (q : ℕ) → q < length t.rows → 0 < (at q).commit → CommitsVersion h (at q).key (at q).txn (at q).commit
  committed_version q below some = elim (is_version q below) [ inl none ↦ absurd (let e = none.1 in omega arith) | inr made ↦ made ]

  -- a version that isn't 0 stands right behind one of its key
  next_same : (q : ℕ) → q + 1 < length t.rows → 0 < (at (q + 1)).commit → ((at q).key ≡ (at (q + 1)).key) × ((at q).commit < (at (q + 1)).commit)
  next_same q below some =
      let z = zero_version (at (q + 1)).key (written (q + 1) below) in
      let first : z.0 < q + 1 = let e = z.3 in later z.0 (q + 1) z.1 z.2 (omega arith) in
      let name = z.2 in
      elim (before q (q + 1) (omega arith) below) [
        | inl key ↦ absurd (elim (cases_eq z.0 q) [
          | inl same ↦ let e = ap (λ n. (at n).key) same in omega arith
          | inr other ↦ elim (before z.0 q (omega arith) (omega arith)) [ inl under ↦ omega arith | inr rest ↦ let e = rest.0 in omega arith ]
        ])
        | inr rest ↦ rest
      ]

  next_version : (q : ℕ) → q + 1 < length t.rows → 0 < (at (q + 1)).commit → IsNextVersion h (at q).key (at q).commit (at (q + 1)).txn
  next_version q below some =
      let same = next_same q below some in (
        (at (q + 1)).commit,
        subst (λ k. CommitsVersion h k (at (q + 1)).txn (at (q + 1)).commit) (sym same.0) (committed_version (q + 1) below some),
        same.1,
        λ u e made over.
            let p = stands (record { key = (at q).key; commit = e; txn = u }) (inr made) in
            let key = ap (λ (w : KeyVersion). w.key) p.2 in
            let commit = ap (λ (w : KeyVersion). w.commit) p.2 in
            let behind = later q p.0 (omega arith) (sym key) (omega arith) in
            elim (cases_eq p.0 (q + 1)) [
              | inl here ↦ let c = ap (λ n. (at n).commit) here in omega arith
              | inr other ↦ let name = same.0 in elim (before (q + 1) p.0 (omega arith) p.1) [ inl under ↦ absurd (omega arith) | inr rest ↦ let c = rest.1 in omega arith ]
            ],
      )

  none_behind : (q : ℕ) → q < length t.rows → (q + 1 < length t.rows → (at (q + 1)).commit ≡ 0) → NoneBehind h (at q).key (at q).commit
  none_behind q below last u d made = elim (cases_lt (at q).commit d) [
    | inr most ↦ most
    | inl over ↦
        let p = stands (record { key = (at q).key; commit = d; txn = u }) (inr made) in
        let key = ap (λ (w : KeyVersion). w.key) p.2 in
        let commit = ap (λ (w : KeyVersion). w.commit) p.2 in
        let behind = later q p.0 below (sym key) (omega arith) in
        let inside = p.1 in
        let none = last (omega arith) in
        absurd (elim (cases_eq p.0 (q + 1)) [
          | inl here ↦ let c = ap (λ n. (at n).commit) here in omega arith
          | inr other ↦ elim (before q (q + 1) (omega arith) (omega arith)) [
            | inl under ↦ elim (before (q + 1) p.0 (omega arith) p.1) [ inl more ↦ omega arith | inr rest ↦ let e = rest.0 in omega arith ]
            | inr rest ↦ let c = rest.1 in omega arith
          ]
        ])
  ]

  -- what stands behind a position tells the next version
  pub behind_is : (q : ℕ) → q < length t.rows → (commit : ℕ) → (q + 1 < length t.rows → commit ≡ (at (q + 1)).commit) → (length t.rows ≤ q + 1 → commit ≡ 0) → IsCommitBehind h q (at q) commit
  behind_is q below zero next last = none_behind q below (λ inside. sym (next inside))
  behind_is q below (suc c) next last = elim (cases_lt (q + 1) (length t.rows)) [
    | inl inside ↦
        let is = next inside in
        let some : 0 < (at (q + 1)).commit = omega arith in
        (at (q + 1), there (q + 1) inside, sym (next_same q inside some).0, sym is, next_version q inside some)
    | inr past ↦ absurd (let none = last past in omega arith)
  ]

  -- and before one the version before
  pub before_is : (q : ℕ) → q < length t.rows → 0 < (at q).commit → (0 < q) × (w : KeyVersion) × IsAtPosition h (q - 1) w × (w.key ≡ (at q).key) × (w.commit < (at q).commit) × IsNextVersion h (at q).key w.commit (at q).txn
  before_is q below some =
      let z = zero_version (at q).key (written q below) in
      let first : z.0 < q = let e = z.3 in later z.0 q z.1 z.2 (omega arith) in
      let back : q - 1 + 1 ≡ q = omega arith in
      let same = next_same (q - 1) (omega arith) (let e = ap (λ n. (at n).commit) back in omega arith) in
      let key : (at (q - 1)).key ≡ (at q).key = same.0 ∙ ap (λ n. (at n).key) back in
      let next = next_version (q - 1) (omega arith) (let e = ap (λ n. (at n).commit) back in omega arith) in (
        omega arith,
        at (q - 1),
        there (q - 1) (omega arith),
        key,
        (let c = same.1 in let e = ap (λ n. (at n).commit) back in omega arith),
        subst (λ k. IsNextVersion h k (at (q - 1)).commit (at q).txn) key (subst (λ n. IsNextVersion h (at (q - 1)).key (at (q - 1)).commit (at n).txn) back next),
      )

  -- the newest as of a place: not before its own commit, and before the next
  pub newest_is : (q place next : ℕ) (w : KeyVersion) → IsCommitBehind h q w next → w.commit ≤ place → place < 4294967296 → (place ≤ before_commit next) ↔ IsNewestAsOf h place w
  newest_is q place zero w none within fits = ((λ yes. (within, λ u d made up_to. none u d made)), (λ newest. omega arith))
  newest_is q place (suc c) w (x, there_x, key, commit, next) within fits =
      let p = at_position (q + 1) x there_x in
      let own : CommitsVersion h x.key x.txn x.commit = subst (λ (y : KeyVersion). CommitsVersion h y.key y.txn y.commit) p.1 (committed_version (q + 1) p.0 (let e = ap (λ (y : KeyVersion). y.commit) p.1 in omega arith)) in
      let same : next.0 ≡ x.commit = one_commit h wf x.txn next.0 x.commit next.1.1 own.1 in
      let over = next.2 in (
        (λ yes. (within, λ u e made up_to. elim (cases_lt w.commit e) [ inr most ↦ most | inl more ↦ let least = next.3 u e made more in absurd (omega arith) ])),
        (λ newest. elim (cases_lt place next.0) [ inl less ↦ omega arith | inr up_to ↦ let most = newest.1 x.txn next.0 next.1 up_to in absurd (omega arith) ]),
      )

  -- what has a commit was made
  pub row_made : (q : ℕ) → q < length t.rows → 0 < (at q).commit → IsMadeRow h committed keys (row q)
  row_made q below some = elim (cases_lt 0 (row q).write) [
    | inl written_here ↦ is_made h wf committed keys keys_are (row q) (is_row q below) written_here
    | inr none ↦ absurd (let e = is_zero h wf committed keys keys_are (row q) (is_row q below) (omega arith) in omega arith)
  ]

  -- as was what has the number of a maker
  made_by_number : (q : ℕ) → q < length t.rows → (row q).maker < length committed → IsMadeRow h committed keys (row q)
  made_by_number q below by = elim (is_row q below).1 [ inl none ↦ absurd (let e = none.2 in omega arith) | inr made ↦ made ]

  -- version 0 of each key
  pub first_is : (i : ℕ) → i < length keys → (slice_index v.firsts.items i < length t.rows) × ((row (slice_index v.firsts.items i)).key ≡ i) × ((row (slice_index v.firsts.items i)).commit ≡ 0)
  first_is i inside =
      let z = zero_version (slice_index keys i) ((keys_are.each (slice_index keys i)).0 (Contains-get_or keys i 0 inside)) in
      let is = is_row z.0 z.1 in
      let number : (row z.0).key ≡ i = one_place keys up (row z.0).key i is.0 inside z.2 in
      let write : (row z.0).write ≡ 0 = elim (cases_lt 0 (row z.0).write) [
        | inl some ↦ let made = is_made h wf committed keys keys_are (row z.0) is some in let c = commit_above h made.1 (row z.0).commit made.3 in let e = z.3 in absurd (omega arith)
        | inr none ↦ omega arith
      ] in
      let place : slice_index v.firsts.items i ≡ z.0 = ap (slice_index v.firsts.items) (sym number) ∙ t.firsts_are.each z.0 no_row z.1 write in
      subst (λ q. (q < length t.rows) × ((row q).key ≡ i) × ((row q).commit ≡ 0)) (sym place) (z.1, number, z.3)

  -- what the table of writes says
  pub write_is : (w : ℕ) (d : Written) → w < length (writes_of h) → (found : Option ℕ) → found ≡ place_below (length v.made.items) (slice_index_or v.writes.items w d).position → MatchOption found (¬ IsCommitted h (write_at (names_of h) w).1)
      (λ q. (x : KeyVersion) × IsAtPosition h q x × (x.key ≡ (write_at (names_of h) w).0) × (x.txn ≡ (write_at (names_of h) w).1) × (0 < x.commit))
  write_is w d inside found told = subst (λ o. MatchOption o (¬ IsCommitted h (write_at (names_of h) w).1) (λ q. (x : KeyVersion) × IsAtPosition h q x × (x.key ≡ (write_at (names_of h) w).0) × (x.txn ≡ (write_at (names_of h) w).1) × (0 < x.commit))) (sym told) (by_test (ltb j (length v.made.items)) refl)
    where
      j : ℕ
      j = (slice_index_or v.writes.items w d).position

      pair : slice_get (writes_of h) w ≡ Some (write_at (names_of h) w)
      pair = slice_get-get_or (writes_of h) w (0, 0) inside

      by_test : (b : Bool) → ltb j (length v.made.items) ≡ b → MatchOption (then_some b j) (¬ IsCommitted h (write_at (names_of h) w).1)
          (λ q. (x : KeyVersion) × IsAtPosition h q x × (x.key ≡ (write_at (names_of h) w).0) × (x.txn ≡ (write_at (names_of h) w).1) × (0 < x.commit))
      by_test false more = λ done.
          let k = (write_at (names_of h) w).0 in
          let u = (write_at (names_of h) w).1 in
          let p = stands (record { key = k; commit = done.0; txn = u }) (inr (numbered_wrote h w k u pair, done.1)) in
          let commit = ap (λ (x : KeyVersion). x.commit) p.2 in
          let some = commit_above h u done.0 done.1 in
          let made = row_made p.0 p.1 (omega arith) in
          let key = ap (λ (x : KeyVersion). x.key) p.2 in
          let txn : made.1 ≡ u = sym (version_of_write h (row p.0).write (slice_index keys (row p.0).key) made.1 made.0 made.2) ∙ ap (λ (x : KeyVersion). x.txn) p.2 in
          let same = writes_stand_once h ((row p.0).write - 1) w (k, u) (made.2 ∙ ap (λ j. Some (j, made.1)) key ∙ ap (λ m. Some (k, m)) txn) pair in
          let place : j ≡ p.0 = ap (λ n. (slice_index_or v.writes.items n d).position) (sym same) ∙ t.writes_are.placed p.0 no_row d p.1 made.0 in
          let behind = ltb-false j (length v.made.items) more in
          let below : p.0 < length t.rows = p.1 in
          let long = t.made_are.0 in
          absurd (omega arith)
      by_test true less =
          let under = ltb-true j (length v.made.items) less in
          let long = t.made_are.0 in
          let below : j < length t.rows = omega arith in
          let is = t.writes_are.only w no_row d inside below in
          let made = is_made h wf committed keys keys_are (row j) (is_row j below) (let e = is.1 in omega arith) in
          let same : (row j).write - 1 ≡ w = let e = is.1 in omega arith in
          let both = same_some (slice_index keys (row j).key, made.1) (write_at (names_of h) w) (sym made.2 ∙ ap (slice_get (writes_of h)) same ∙ pair) in
          (at j, there j below, ap (λ (p : ℕ × ℕ). p.0) both, version_of_write h (row j).write (slice_index keys (row j).key) made.1 made.0 made.2 ∙ ap (λ (p : ℕ × ℕ). p.1) both, commit_above h made.1 (row j).commit made.3)

  -- a position is a place in each table
  pub place_is : (q : ℕ) → HasPosition h q → (q < length v.made.items) × (q < length v.keys.items) × (q < length v.makers.items)
  place_is q has =
      let below = (at_position q has.0 has.1).0 in
      (omega (arith, t.made_are.0), omega (arith, t.keys_are.0), omega (arith, t.makers_are.0))

  -- what is read there
  pub made_is : (q : ℕ) (w : KeyVersion) → IsAtPosition h q w → (made : Made) → made ≡ slice_index_or v.made.items q made → made.commit ≡ w.commit
  made_is q w is made read =
      let p = at_position q w is in
      ap (λ (m : Made). m.commit) (read ∙ t.made_are.1 q made no_row (let below = p.0 in let long = t.made_are.0 in omega arith)) ∙ ap (λ (x : KeyVersion). x.commit) p.1

  pub key_is : (q : ℕ) (w : KeyVersion) → IsAtPosition h q w → (key : ℕ) → key ≡ slice_index_or v.keys.items q key → IsKeyAt h key w.key
  key_is q w is key read =
      let p = at_position q w is in
      let own : key ≡ (row q).key = read ∙ t.keys_are.1 q key no_row (let below = p.0 in let long = t.keys_are.0 in omega arith) in
      subst (λ m. IsKeyAt h m w.key) (sym own) (keys, keys_are, (is_row q p.0).0, ap (λ (x : KeyVersion). x.key) p.1)

  -- who made a version that isn't 0
  maker_of : (q : ℕ) → q < length t.rows → 0 < (at q).commit → IsCommittedAt h (row q).maker (at q).txn
  maker_of q below some =
      let made = row_made q below some in
      (committed, committed_are, made.4, made.5 ∙ sym (version_of_write h (row q).write (slice_index keys (row q).key) made.1 made.0 made.2))

  -- it has a number, which version 0 has not
  pub maker_is : (q : ℕ) (w : KeyVersion) → IsAtPosition h q w → (maker : ℕ) → maker ≡ slice_index_or v.makers.items q maker → (found : Option ℕ) → found ≡ place_below (length committed) maker
      → MatchOption found (w.commit ≡ 0) (λ i. (0 < w.commit) × IsCommittedAt h i w.txn)
  maker_is q w is maker read found told = subst (λ o. MatchOption o (w.commit ≡ 0) (λ i. (0 < w.commit) × IsCommittedAt h i w.txn)) (sym told) (by_test (ltb maker (length committed)) refl)
    where
      p : (q < length t.rows) × (at q ≡ w)
      p = at_position q w is

      own : maker ≡ (row q).maker
      own = read ∙ t.makers_are.1 q maker no_row (let below = p.0 in let long = t.makers_are.0 in omega arith)

      commit : (row q).commit ≡ w.commit
      commit = ap (λ (x : KeyVersion). x.commit) p.1

      by_test : (b : Bool) → ltb maker (length committed) ≡ b → MatchOption (then_some b maker) (w.commit ≡ 0) (λ i. (0 < w.commit) × IsCommittedAt h i w.txn)
      by_test true less =
          let below = ltb-true maker (length committed) less in
          let made = made_by_number q p.0 (omega (arith, own)) in
          let some = commit_above h made.1 (row q).commit made.3 in
          (omega (arith, commit), subst (λ m. IsCommittedAt h m w.txn) (sym own) (subst (λ (x : KeyVersion). IsCommittedAt h (row q).maker x.txn) p.1 (maker_of q p.0 some)))
      by_test false more = elim (cases_eq w.commit 0) [
        | inl none ↦ none
        | inr other ↦ absurd (let past = ltb-false maker (length committed) more in let made = row_made q p.0 (omega (arith, commit)) in let below = made.4 in omega (arith, own))
      ]

  pub commit_behind_is : (q : ℕ) (w : KeyVersion) → IsAtPosition h q w → (commit : ℕ) → (q + 1 < length v.made.items → commit ≡ (slice_index_or v.made.items (q + 1) no_made).commit) → (length v.made.items ≤ q + 1 → commit ≡ 0) → IsCommitBehind h q w commit
  commit_behind_is q w is commit next last =
      let p = at_position q w is in
      let long = t.made_are.0 in
      subst (λ x. IsCommitBehind h q x commit) p.1 (behind_is q p.0 commit
      (λ inside. next (omega arith) ∙ ap (λ (m : Made). m.commit) (t.made_are.1 (q + 1) no_made no_row (omega arith)))
      (λ past. last (omega arith)))

  pub before_at : (q : ℕ) (w : KeyVersion) → IsAtPosition h q w → 0 < w.commit → (0 < q) × (x : KeyVersion) × IsAtPosition h (q - 1) x × (x.key ≡ w.key) × (x.commit < w.commit) × IsNextVersion h w.key x.commit w.txn
  before_at q w is some =
      let p = at_position q w is in
      subst (λ (y : KeyVersion). (0 < q) × (x : KeyVersion) × IsAtPosition h (q - 1) x × (x.key ≡ y.key) × (x.commit < y.commit) × IsNextVersion h y.key x.commit y.txn) p.1 (before_is q p.0 (let e = ap (λ (x : KeyVersion). x.commit) p.1 in omega arith))

  -- the first position of a key
  pub first_at : (i k : ℕ) → IsKeyAt h i k → (slice_index v.firsts.items i < length v.made.items) × IsAtPosition h (slice_index v.firsts.items i) (at (slice_index v.firsts.items i)) × IsKeyAt h i (at (slice_index v.firsts.items i)).key × ((at (slice_index v.firsts.items i)).commit ≡ 0)
  first_at i k is =
      let number = key_number h keys keys_are i k is in
      let first = first_is i number.0 in (
        (let below = first.0 in let long = t.made_are.0 in omega arith),
        there (slice_index v.firsts.items i) first.0,
        (keys, keys_are, number.0, ap (slice_index keys) (sym first.1)),
        first.2,
      )

  -- what stands behind, or that nothing does
  pub next_is : (q : ℕ) (w : KeyVersion) (commit : ℕ) → IsCommitBehind h q w commit → ¬ (commit ≡ 0) → (x : KeyVersion) × IsAtPosition h (q + 1) x × (x.key ≡ w.key) × (0 < x.commit) × IsNextVersion h w.key w.commit x.txn × (q < q + 1)
  next_is q w zero is some = absurd (some refl)
  next_is q w (suc c) (x, there_x, key, commit, next) some = (x, there_x, key, omega arith, next, omega arith)

  pub next_fits : (q : ℕ) (w : KeyVersion) (commit : ℕ) → IsCommitBehind h q w commit → ¬ (commit ≡ 0) → q + 1 < 4294967296
  next_fits q w commit is some =
      let next = next_is q w commit is some in
      let below = (at_position (q + 1) next.0 next.1).0 in
      let few = t.rows_are.few in
      omega arith

  -- the versions of all keys by names
  abbrev pub versions : List KeyVersion
  versions = map (version_of h keys) t.rows

  version_at_place : (q : ℕ) (d : KeyVersion) → q < length versions → slice_index_or versions q d ≡ at q
  version_at_place q d below = get_or-map (version_of h keys) t.rows q no_row d (let long = length-map t.rows (version_of h keys) in omega arith)

  key_before : (q r : ℕ) → q < length t.rows → (at q).key < (at r).key → q < r
  key_before q r below less = elim (cases_lt q r) [
    | inl under ↦ under
    | inr more ↦ absurd (elim (cases_eq q r) [
      | inl same ↦ let e = ap (λ n. (at n).key) same in omega arith
      | inr other ↦ elim (before r q (omega arith) below) [ inl over ↦ omega arith | inr rest ↦ let e = rest.0 in omega arith ]
    ])
  ]

  -- where the versions of one key end: with those of all keys, or with version 0 of the next one
  IsEnd : ℕ → ℕ → Type 0
  IsEnd i to = ((length keys ≤ i + 1) × (to ≡ length t.rows)) ⊎ ((i + 1 < length keys) × (to < length t.rows) × ((at to).key ≡ slice_index keys (i + 1)) × ((at to).commit ≡ 0))

  key_rises : (i j : ℕ) → i < j → j < length keys → slice_index keys i < slice_index keys j
  key_rises i j less below = up i j 0 less below

  -- the number of a key that isn't lesser isn't lesser
  number_up : (q i : ℕ) → q < length t.rows → i < length keys → slice_index keys i < (at q).key → i < (row q).key
  number_up q i below inside less = elim (cases_lt i (row q).key) [
    | inl more ↦ more
    | inr most ↦ absurd (elim (cases_eq (row q).key i) [
      | inl same ↦ let e = ap (slice_index keys) same in omega arith
      | inr other ↦ let under = key_rises (row q).key i (omega arith) inside in omega arith
    ])
  ]

  -- a position from version 0 of a key up to its end is of that key
  one_key : (i from to j : ℕ) → i < length keys → from < length t.rows → (at from).key ≡ slice_index keys i → (at from).commit ≡ 0 → IsEnd i to → from ≤ j → j < to → (j < length t.rows) × ((at j).key ≡ slice_index keys i)
  unfolding IsEnd
  one_key i from to j inside below key none end after before_to =
      let in_j : j < length t.rows = elim end [ inl whole ↦ let e = whole.1 in omega arith | inr next ↦ let e = next.1 in omega arith ] in (
        in_j,
        elim (cases_eq from j) [
          | inl same ↦ sym (ap (λ n. (at n).key) same) ∙ key
          | inr other ↦ elim (before from j (omega arith) in_j) [
            | inr rest ↦ sym rest.0 ∙ key
            | inl over ↦
                let number = number_up j i in_j inside (omega arith) in
                let most = (is_row j in_j).0 in
                absurd (elim end [
                  | inl whole ↦ let e = whole.0 in omega arith
                  | inr next ↦ elim (before j to before_to next.1) [
                    | inl under ↦
                        let e = next.2 in
                        elim (cases_eq (row j).key (i + 1)) [
                          | inl same ↦ let f = ap (slice_index keys) same in omega arith
                          | inr differs ↦ let rise = key_rises (i + 1) (row j).key (omega arith) most in omega arith
                        ]
                    | inr rest ↦ let c = rest.1 in let e = next.3 in omega arith
                  ]
                ])
          ]
        ],
      )

  -- the versions of a key stand from its version 0 up to that of the next key
  pub key_stretch : (i k to : ℕ) → IsKeyAt h i k → (i + 1 < length v.firsts.items → to ≡ slice_index v.firsts.items (i + 1)) → (length v.firsts.items ≤ i + 1 → to ≡ length v.made.items) → IsKeyStretch versions k (slice_index v.firsts.items i) to
  unfolding IsEnd
  key_stretch i k to is next last =
      let number = key_number h keys keys_are i k is in
      let count = t.firsts_are.count in
      let long = t.made_are.0 in
      let size = length-map t.rows (version_of h keys) in
      let from = slice_index v.firsts.items i in
      let first = first_is i number.0 in
      let first_below = first.0 in
      let own_key : (at from).key ≡ slice_index keys i = ap (slice_index keys) first.1 in
      let name = number.1 in
      let none = first.2 in
      let end : IsEnd i to = elim (cases_lt (i + 1) (length v.firsts.items)) [
        | inl more ↦
            let second = first_is (i + 1) (omega arith) in
            let e = next more in
            inr (omega arith, (let b = second.0 in omega arith), ap (λ n. (at n).key) e ∙ ap (slice_index keys) second.1, ap (λ n. (at n).commit) e ∙ second.2)
        | inr past ↦ inl (omega arith, last past ∙ long)
      ] in
      record {
        some = elim end [
          | inl whole ↦ let e = whole.1 in omega arith
          | inr later_key ↦ key_before from to first_below (let e = later_key.2 in let rise = key_rises i (i + 1) (omega arith) later_key.0 in omega arith)
        ];
        bound = elim end [ inl whole ↦ let e = whole.1 in omega arith | inr later_key ↦ let e = later_key.1 in omega arith ];
        lesser = λ j d less. let e = ap (λ (x : KeyVersion). x.key) (version_at_place j d (omega arith)) in elim (before j from less first_below) [ inl under ↦ omega arith | inr rest ↦ absurd (let c = rest.1 in omega arith) ];
        zero_first = λ d. ap (λ (x : KeyVersion). x.commit) (version_at_place from d (omega arith)) ∙ none;
        own = λ j d after before_to. let own = one_key i from to j number.0 first_below own_key none end after before_to in ap (λ (x : KeyVersion). x.key) (version_at_place j d (let b = own.0 in omega arith)) ∙ own.1 ∙ name;
        greater = λ j d after below.
            let e = ap (λ (x : KeyVersion). x.key) (version_at_place j d below) in
            elim end [
              | inl whole ↦ absurd (let f = whole.1 in omega arith)
              | inr later_key ↦
                  let f = later_key.2 in
                  let rise = key_rises i (i + 1) (omega arith) later_key.0 in
                  elim (cases_eq to j) [
                    | inl same ↦ let g = ap (λ n. (at n).key) same in omega arith
                    | inr other ↦ elim (before to j (omega arith) (omega arith)) [ inl under ↦ omega arith | inr rest ↦ let g = rest.0 in omega arith ]
                  ]
            ];
      }

  module _ (k from to : ℕ) (stretch : IsKeyStretch versions k from to) where
    abbrev pub chain : List Made
    chain = slice_range v.made.items (from + 1) to

    pub within_made : (from < to) × (to ≤ length v.made.items)
    within_made =
        let size = length-map t.rows (version_of h keys) in
        (stretch.some, omega (arith, stretch.bound, t.made_are.0))

    inside : (j : ℕ) → from ≤ j → j < to → (j < length t.rows) × ((at j).key ≡ k)
    inside j after before_to =
        let size = length-map t.rows (version_of h keys) in
        let bound = stretch.bound in
        (omega arith, sym (ap (λ (x : KeyVersion). x.key) (version_at_place j (at j) (omega arith))) ∙ stretch.own j (at j) after before_to)

    from_zero : (at from).commit ≡ 0
    from_zero =
        let some = stretch.some in
        let bound = stretch.bound in
        sym (ap (λ (x : KeyVersion). x.commit) (version_at_place from (at from) (omega arith))) ∙ stretch.zero_first (at from)

    -- a version of the key stands there
    within_stretch : (q : ℕ) → q < length t.rows → (at q).key ≡ k → (from ≤ q) × (q < to)
    within_stretch q below key =
        let size = length-map t.rows (version_of h keys) in
        let e = ap (λ (x : KeyVersion). x.key) (version_at_place q (at q) (omega arith)) in (
          elim (cases_lt q from) [ inl less ↦ let under = stretch.lesser q (at q) less in absurd (omega arith) | inr more ↦ more ],
          elim (cases_lt q to) [ inl less ↦ less | inr more ↦ let over = stretch.greater q (at q) more (omega arith) in absurd (omega arith) ],
        )

    rises_there : (q r : ℕ) → from ≤ q → q < r → r < to → (at q).commit < (at r).commit
    rises_there q r after less before_to =
        let a = inside q after (omega arith) in
        let b = inside r (omega arith) before_to in
        elim (before q r less b.0) [ inl under ↦ absurd (let e = a.1 in let f = b.1 in omega arith) | inr rest ↦ rest.1 ]

    pub chain_long : length chain ≡ to - (from + 1)
    chain_long = length-between v.made.items (from + 1) to (let bound = stretch.bound in let size = length-map t.rows (version_of h keys) in omega (arith, t.made_are.0))

    chain_at : (n : ℕ) (d : Made) → from + 1 + n < to → slice_index_or chain n d ≡ made_row h (row (from + 1 + n))
    chain_at n d below =
        let bound = stretch.bound in
        let size = length-map t.rows (version_of h keys) in
        get_or-between v.made.items (from + 1) to n d below ∙ t.made_are.1 (from + 1 + n) d no_row (omega (arith, t.made_are.0))

    made_there : (q : ℕ) → from < q → q < to → CommitsVersion h k (at q).txn (at q).commit
    made_there q after before_to =
        let is = inside q (omega arith) before_to in
        let none = from_zero in
        let rise = rises_there from q (omega arith) after before_to in
        subst (λ j. CommitsVersion h j (at q).txn (at q).commit) is.1 (committed_version q is.0 (omega arith))

    -- each version of the key that isn't 0 stands behind its version 0
    found_there : (u d : ℕ) → CommitsVersion h k u d → (q : ℕ) × (from < q) × (q < to) × (at q ≡ record { key = k; commit = d; txn = u })
    found_there u d made =
        let p = stands (record { key = k; commit = d; txn = u }) (inr made) in
        let within = within_stretch p.0 p.1 (ap (λ (x : KeyVersion). x.key) p.2) in
        let commit = ap (λ (x : KeyVersion). x.commit) p.2 in
        let some = commit_above h u d made.1 in
        let low = within.0 in
        let after : from < p.0 = elim (cases_eq p.0 from) [ inl same ↦ let e = ap (λ n. (at n).commit) same in let none = from_zero in absurd (omega arith) | inr other ↦ omega arith ] in
        (p.0, after, within.1, p.2)

    pub chain_versions : AreVersions h k chain
    chain_versions = record {
      ascending = λ n m d less below.
          let long = chain_long in
          let first = ap (λ (x : Made). x.commit) (chain_at n d (omega arith)) in
          let second = ap (λ (x : Made). x.commit) (chain_at m d (omega arith)) in
          let rise = rises_there (from + 1 + n) (from + 1 + m) (omega arith) (omega arith) (omega arith) in
          inl (omega arith);
      each = λ m. (
        (λ c.
            let long = chain_long in
            let below = c.1 in
            subst (IsMade h k) (sym (chain_at c.0 m (omega arith)) ∙ c.2) (made_there (from + 1 + c.0) (omega arith) (omega arith))),
        (λ is.
            let long = chain_long in
            let p = found_there m.txn m.commit is in
            let after = p.1 in
            let before_to = p.2 in
            let place : from + 1 + (p.0 - (from + 1)) ≡ p.0 = omega arith in
            (p.0 - (from + 1), omega arith, chain_at (p.0 - (from + 1)) m (omega arith) ∙ ap (λ n. made_row h (row n)) place ∙ ap (λ (x : KeyVersion). record { txn = x.txn; commit = x.commit }) p.3)),
      );
    }

    -- and behind each position of the key the numbers of who made the later ones
    pub behind_within : (q : ℕ) (w : KeyVersion) → IsAtPosition h q w → w.key ≡ k → (from ≤ q) × (q < to) × (to ≤ length v.makers.items) × (to < 4294967296)
    behind_within q w is key =
        let p = at_position q w is in
        let here = within_stretch q p.0 (ap (λ (x : KeyVersion). x.key) p.1 ∙ key) in
        let bound = within_made.1 in
        let long = t.made_are.0 in
        (here.0, here.1, omega (arith, t.makers_are.0), omega (arith, t.rows_are.few))

    pub behind_long : (q : ℕ) → to ≤ length v.makers.items → length (slice_range v.makers.items (q + 1) to) ≡ to - (q + 1)
    behind_long q bound = length-between v.makers.items (q + 1) to bound

    pub makers_behind : (q : ℕ) (w : KeyVersion) → IsAtPosition h q w → w.key ≡ k → AreMakersBehind h q w (slice_range v.makers.items (q + 1) to)
    makers_behind q w is key =
        let (after, before_to, bound, fits) = behind_within q w is key in
        let long = behind_long q bound in
        record {
          each = λ i d below.
              let low : from < q + 1 + i = omega arith in
              let high : q + 1 + i < to = omega arith in
              let there_is = inside (q + 1 + i) (omega arith) high in
              let some = commit_above h (at (q + 1 + i)).txn (at (q + 1 + i)).commit (made_there (q + 1 + i) low high).1 in
              let own : slice_index_or (slice_range v.makers.items (q + 1) to) i d ≡ (row (q + 1 + i)).maker = get_or-between v.makers.items (q + 1) to i d high ∙ t.makers_are.1 (q + 1 + i) d no_row (omega (arith, there_is.0, t.makers_are.0)) in
              (at (q + 1 + i), there (q + 1 + i) there_is.0, there_is.1 ∙ sym key, some, subst (λ m. IsCommittedAt h m (at (q + 1 + i)).txn) (sym own) (maker_of (q + 1 + i) there_is.0 some));
          all = λ o x at_o same.
              let r = at_position o x at_o in
              let high = (within_stretch o r.0 (ap (λ (y : KeyVersion). y.key) r.1 ∙ same ∙ key)).1 in
              omega arith;
        }

    -- what a search of them finds
    newest_found : (place n : ℕ) → n ≤ length chain → PointWithin (λ (m : Made). m.commit) chain place n → (from + n < length t.rows) × IsNewestAsOf h place (at (from + n)) × ((at (from + n)).key ≡ k)
    newest_found place n most point =
        let long = chain_long in
        let some = stretch.some in
        let own = inside (from + n) (omega arith) (omega arith) in
        let none = from_zero in (
          own.0,
          (
            elim (cases_eq n 0) [
              | inl first ↦ let e : from + n ≡ from = omega arith in let f = ap (λ m. (at m).commit) e in omega arith
              | inr other ↦
                  let within = point_within (λ (m : Made). m.commit) chain place n point (n - 1) no_made (omega arith) (omega arith) in
                  let last : from + 1 + (n - 1) ≡ from + n = omega arith in
                  let e = ap (λ (x : Made). x.commit) (chain_at (n - 1) no_made (omega arith)) in
                  let f = ap (λ m. (at m).commit) last in
                  omega arith
            ],
            λ u d made up_to.
                let p = found_there u d (subst (λ j. CommitsVersion h j u d) own.1 made) in
                let after = p.1 in
                let before_to = p.2 in
                let commit = ap (λ (x : KeyVersion). x.commit) p.3 in
                elim (cases_lt (from + n) p.0) [
                  | inl behind ↦
                      let m = p.0 - (from + 1) in
                      let over = point_above (λ (x : Made). x.commit) chain place n point m no_made (omega arith) (omega arith) in
                      let at_m : from + 1 + m ≡ p.0 = omega arith in
                      let e = ap (λ (x : Made). x.commit) (chain_at m no_made (omega arith)) in
                      let f = ap (λ j. (at j).commit) at_m in
                      absurd (omega arith)
                  | inr most_there ↦ elim (cases_eq p.0 (from + n)) [
                    | inl same ↦ let e = ap (λ j. (at j).commit) same in omega arith
                    | inr other ↦ let rise = rises_there p.0 (from + n) (omega arith) (omega arith) (omega arith) in omega arith
                  ]
                ],
          ),
          own.1,
        )

    -- the same of any list of the key's versions
    pub found_at : (listed : List Made) → AreVersions h k listed → (place n : ℕ) → n ≤ length listed → PointWithin (λ (m : Made). m.commit) listed place n → (from + n < length t.rows) × IsNewestAsOf h place (at (from + n)) × ((at (from + n)).key ≡ k)
    found_at listed are_listed place n most point =
        let same : listed ≡ chain = one_list_by (λ (m : Made). m.commit ∷ []) (IsMade h k) listed chain are_listed chain_versions in
        newest_found place n (subst (λ ms. n ≤ length ms) same most) (subst (λ ms. PointWithin (λ (m : Made). m.commit) ms place n) same point)

  -- the first commit of a key tells whether a version of it is committed up to a place
  pub visible_is : (i k : ℕ) → IsKeyAt h i k → (place : ℕ) → place < 4294967296 → (n : ℕ) → n ≡ slice_index v.first_commits.items i → (n < place) ↔ HasVersionUpTo h k place
  visible_is i k is place fits n read =
      let number = key_number h keys keys_are i k is in
      let first = first_is i number.0 in
      let q = slice_index v.firsts.items i in
      let name : (at q).key ≡ k = ap (slice_index keys) first.1 ∙ number.1 in
      let none = first.2 in
      let count = t.firsts_are.count in
      let value : n ≡ before_commit (slice_index_or v.made.items (q + 1) no_made).commit = read ∙ t.first_commits_are.1 i 0 0 (let long = t.first_commits_are.0 in omega (arith, number.0)) in
      let behind = commit_behind_is q (at q) (there q first.0) (slice_index_or v.made.items (q + 1) no_made).commit (λ inside. refl) (λ past. ap (λ (m : Made). m.commit) (get_or_past v.made.items (q + 1) no_made past)) in
      told (slice_index_or v.made.items (q + 1) no_made).commit behind value name none
    where
      told : (c : ℕ) → IsCommitBehind h (slice_index v.firsts.items i) (at (slice_index v.firsts.items i)) c → n ≡ before_commit c → (at (slice_index v.firsts.items i)).key ≡ k → (at (slice_index v.firsts.items i)).commit ≡ 0 → (n < place) ↔ HasVersionUpTo h k place
      told zero behind value name none = ((λ less. absurd (omega arith)), (λ (u, d, made, up_to). absurd (let most = behind u d (subst (λ j. CommitsVersion h j u d) (sym name) made) in let some = commit_above h u d made.1 in omega arith)))
      told (suc c) (x, there_x, key, commit, next) value name none =
          let p = at_position (slice_index v.firsts.items i + 1) x there_x in
          let own : CommitsVersion h x.key x.txn x.commit = subst (λ (y : KeyVersion). CommitsVersion h y.key y.txn y.commit) p.1 (committed_version (slice_index v.firsts.items i + 1) p.0 (let e = ap (λ (y : KeyVersion). y.commit) p.1 in omega arith)) in
          let same : next.0 ≡ x.commit = one_commit h wf x.txn next.0 x.commit next.1.1 own.1 in (
            (λ less. (x.txn, x.commit, subst (λ j. CommitsVersion h j x.txn x.commit) (key ∙ name) own, omega arith)),
            (λ (u, d, made, up_to). let some = commit_above h u d made.1 in let least = next.3 u d (subst (λ j. CommitsVersion h j u d) (sym name) made) (omega arith) in omega arith),
          )

  -- the positions of a transaction's versions
  pub made_by_is : (i u : ℕ) → IsCommittedAt h i u → (i < length v.made_by) × ListsAscending (λ q. (x : KeyVersion) × IsAtPosition h q x × (0 < x.commit) × (x.txn ≡ u)) (slice_index_or v.made_by i [])
  made_by_is i u is =
      let number = its_number (IsCommitted h) committed committed_are i u is in
      let long = t.made_by_are.0 in
      let list = t.made_by_are.1 i number.0 in (
        (let b = number.0 in omega arith),
        record {
          ascending = list.ascending;
          each = λ q. (
            (λ c.
                let (below, own) = by_maker q i ((list.each q).0 c) in
                let made = made_by_number q below (let b = number.0 in omega arith) in
                let some = commit_above h made.1 (row q).commit made.3 in
                (at q, there q below, some, version_of_write h (row q).write (slice_index keys (row q).key) made.1 made.0 made.2 ∙ sym made.5 ∙ ap (slice_index committed) own ∙ number.1)),
            (λ (x, here, some, txn).
                let p = at_position q x here in
                let made = row_made q p.0 (let e = ap (λ (y : KeyVersion). y.commit) p.1 in omega arith) in
                let name = version_of_write h (row q).write (slice_index keys (row q).key) made.1 made.0 made.2 in
                let same = one_place committed committed_up (row q).maker i made.4 number.0 (made.5 ∙ sym name ∙ ap (λ (y : KeyVersion). y.txn) p.1 ∙ txn ∙ sym number.1) in
                let inside : q < length v.makers.items = omega (arith, p.0, t.makers_are.0) in
                (list.each q).1 (slice_get-get_or v.makers.items q 0 inside ∙ ap Some (t.makers_are.1 q 0 no_row inside ∙ same))),
          );
        },
      )
    where
      by_maker : (q i : ℕ) → slice_get v.makers.items q ≡ Some i → (q < length t.rows) × ((row q).maker ≡ i)
      by_maker q i here =
          let inside = slice_get_within v.makers.items q i here in
          (omega (arith, t.makers_are.0), sym (t.makers_are.1 q 0 no_row inside) ∙ get_or_from_slice_get v.makers.items q i 0 here)
