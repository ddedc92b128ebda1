-- The tables of versions, as loops over their rows fill them.
use Rattle.std.proofs.Common.{◌≡◌, ◌≢◌, inl, inr, ℕ, zero, suc, ◌%◌, ◌+◌, ◌-◌, ◌<◌, ◌≤◌, List, [], ◌∷◌, ◌++◌, length, map, set, Some, refl, sym, subst, ◌∙◌, ap, arith, slice_get}
use Rattle.std.specs.Prelude.{All, AllPairs, Contains, slice_index, slice_index_or}
use Rattle.std.proofs.lemmas.Bool.{cases_lt, cases_eq}
use Rattle.std.proofs.lemmas.List.{get_or_default, get_or_append_left, get_or_push, get_or-set_same, get_or-set_other, length-set, length_push}
use Rattle.std.proofs.lemmas.List.Elements.{All-append, Contains-append_left, Contains-append_right, Contains-get_or}
use Rattle.sia_events.specs.declared.event.Event.{Event}
use Rattle.sia_events.specs.Lists.{Precedes}
use Rattle.sia_events.specs.Numbering.{names_of, writes_of, write_at}
use Rattle.sia_events.specs.Transactions.{CommitsAt}
use Rattle.sia_index.specs.declared.versions.VersionRow.{VersionRow}
use Rattle.sia_index.specs.declared.writes.Written.{Written}
use Rattle.sia_index.specs.VersionRows.{AreFirsts, AreRowsUpTo, AreUnplaced, AreWritesAt, AreZeroRows, IsMadeRow, IsVersionRow, before_commit}
use Rattle.sia_index.proofs.VersionRows.DealtVersions.{commit_above}
use Rattle.sia_index.proofs.VersionRows.StableDeal.{pairs_append}
use Rattle.sia_events.proofs.OfLaws.Endings.{one_committer}

abbrev pub no_row : VersionRow
no_row = record { key = 0; commit = 0; maker = 0; write = 0 }

-- the rows at places
abbrev pub rows_at : List VersionRow → List ℕ → List VersionRow
rows_at rows places = map (λ (p : ℕ). slice_index_or rows p no_row) places

-- less 1, in 32 bits, a commit is how many events stand before it
pub before_wrapped : (n : ℕ) → n < 4294967296 → (n + 4294967295) % 4294967296 ≡ before_commit n
before_wrapped zero fits = refl
before_wrapped (suc n) fits = omega arith

-- one key more
pub zero_more : (nobody n : ℕ) (rows : List VersionRow) (row : VersionRow) → AreZeroRows nobody n rows → row.key ≡ n → row.commit ≡ 0 → row.write ≡ 0 → row.maker ≡ nobody → AreZeroRows nobody (n + 1) (rows ++ row ∷ [])
zero_more nobody n rows row are key commit write maker = (
  length_push rows row ∙ ap (λ m. m + 1) are.0,
  λ i d below. elim (cases_lt i n) [
    | inl less ↦ subst (λ (r : VersionRow). (r.key ≡ i) × (r.commit ≡ 0) × (r.write ≡ 0) × (r.maker ≡ nobody)) (sym (get_or_append_left rows (row ∷ []) d i (let long = are.0 in omega arith))) (are.1 i d less)
    | inr more ↦
        let at : i ≡ n = omega arith in
        subst (λ (r : VersionRow). (r.key ≡ i) × (r.commit ≡ 0) × (r.write ≡ 0) × (r.maker ≡ nobody)) (sym (get_or_push rows row d i (let long = are.0 in omega arith))) (key ∙ sym at, commit, write, maker)
  ],
)

module _ (h : List Event) (committed keys : List ℕ) where
  -- before the first event they are those of version 0
  pub rows_none : (rows : List VersionRow) → AreZeroRows (length committed) (length keys) rows → AreRowsUpTo h committed keys 0 rows
  rows_none rows are =
      let long = are.0 in
      record {
        ascending = λ i j d less below.
            let x = are.1 i d (omega arith) in
            let y = are.1 j d (omega arith) in
            let k = x.0 in
            let m = y.0 in
            inr (x.1 ∙ sym y.1, inl (omega arith));
        right = λ i d below.
            let x = are.1 i d (omega arith) in
            let key = x.0 in
            let commit = x.1 in
            ((omega arith, inl (x.2, x.1, x.3)), omega arith);
        zeros = λ i below. (
          slice_index_or rows i no_row,
          Contains-get_or rows i no_row (omega arith),
          (are.1 i no_row below).0,
          (are.1 i no_row below).2,
        );
        made = λ w k t c none there commits. let some = commit_above h t c commits in absurd (omega arith);
      }

  module _ (n : ℕ) (rows : List VersionRow) (are : AreRowsUpTo h committed keys n rows) where
    -- a place where nothing commits
    pub rows_skip : ((t : ℕ) → ¬ CommitsAt h t (n + 1)) → AreRowsUpTo h committed keys (n + 1) rows
    rows_skip none = record {
      ascending = are.ascending;
      right = λ i d below. ((are.right i d below).0, (let most = (are.right i d below).1 in omega arith));
      zeros = are.zeros;
      made = λ w k t c most there commits. elim (cases_lt n c) [
        | inl last ↦ let at : c ≡ n + 1 = omega arith in absurd (none t (subst (CommitsAt h t) at commits))
        | inr before ↦ are.made w k t c before there commits
      ];
    }

    -- and one where a transaction does, with the rows of its versions
    pub rows_more : (t : ℕ) → CommitsAt h t (n + 1) → (more : List VersionRow) → AllPairs (λ x y. x.key < y.key) more → All (λ row. (row.key < length keys) × (row.commit ≡ n + 1) × IsMadeRow h committed keys row) more
        → ((w k : ℕ) → slice_get (writes_of h) w ≡ Some (k, t) → (row : VersionRow) × Contains more row × (row.write ≡ w + 1)) → AreRowsUpTo h committed keys (n + 1) (rows ++ more)
    rows_more t here more up right all = record {
      ascending = pairs_append (λ (x : VersionRow) y. Precedes (x.commit ∷ x.key ∷ []) (y.commit ∷ y.key ∷ [])) rows more are.ascending
          (λ i j d less below. inr ((right i d (omega arith)).1 ∙ sym (right j d below).1, inl (up i j d less below)))
          (λ i d below j e inside. let most = (are.right i d below).1 in let last = (right j e inside).1 in inl (omega arith));
      right = All-append (λ row. IsVersionRow h committed keys row × (row.commit ≤ n + 1)) rows more
          (λ i d below. ((are.right i d below).0, (let most = (are.right i d below).1 in omega arith)))
          (λ i d below. let is = right i d below in let last = is.1 in ((is.0, inr is.2), omega arith));
      zeros = λ i below. let old = are.zeros i below in (old.0, Contains-append_left rows more old.0 old.1, old.2, old.3);
      made = λ w k u c most there commits. elim (cases_lt n c) [
        | inl last ↦
            let at : c ≡ n + 1 = omega arith in
            let same = one_committer h u t (n + 1) (subst (CommitsAt h u) at commits) here in
            let new = all w k (subst (λ v. slice_get (writes_of h) w ≡ Some (k, v)) same there) in
            (new.0, Contains-append_right rows more new.0 new.1, new.2)
        | inr before ↦ let old = are.made w k u c before there commits in (old.0, Contains-append_left rows more old.0 old.1, old.2)
      ];
    }

-- the position of version 0 of one key more, or none
module _ (rows : List VersionRow) (n keys : ℕ) (firsts : List ℕ) (are : AreFirsts rows n keys firsts) (some : n < length rows) where
  pub firsts_skip : (r : VersionRow) → 0 < (slice_index_or rows n r).write → AreFirsts rows (n + 1) keys firsts
  firsts_skip r made = record {
    count = are.count;
    each = λ j d less none. elim (cases_lt j n) [
      | inl before ↦ are.each j d before none
      | inr last ↦
          let same : j ≡ n = omega arith in
          let a = ap (λ m. (slice_index_or rows m d).write) same in
          let b = ap (λ (x : VersionRow). x.write) (get_or_default rows n d r some) in
          absurd (omega arith)
    ];
  }

  pub firsts_more : AllPairs (λ (x : VersionRow) y. x.write ≡ 0 → y.write ≡ 0 → x.key ≢ y.key) rows → (r : VersionRow) → (slice_index_or rows n r).write ≡ 0 → (slice_index_or rows n r).key < keys → AreFirsts rows (n + 1) keys (set firsts (slice_index_or rows n r).key n)
  firsts_more apart r zero_here within = record {
    count = length-set firsts key n ∙ are.count;
    each = λ j d less none. elim (cases_lt j n) [
      | inl before ↦
          let a = ap (λ (x : VersionRow). x.key) (get_or_default rows n d r some) in
          let b = ap (λ (x : VersionRow). x.write) (get_or_default rows n d r some) in
          let other = apart j n d before some none (b ∙ zero_here) in
          get_or-set_other firsts key (slice_index_or rows j d).key n 0 (λ e. other (e ∙ sym a)) ∙ are.each j d before none
      | inr last ↦
          let same : j ≡ n = omega arith in
          let a : (slice_index_or rows j d).key ≡ key = ap (λ m. (slice_index_or rows m d).key) same ∙ ap (λ (x : VersionRow). x.key) (get_or_default rows n d r some) in
          ap (slice_index (set firsts key n)) a ∙ get_or-set_same firsts key n 0 (let long = are.count in omega arith) ∙ sym same
    ];
  }
    where
      key : ℕ
      key = (slice_index_or rows n r).key

-- the key of one write more
pub writes_more : (h : List Event) (keys : List ℕ) (n : ℕ) (writes : List Written) → AreUnplaced h keys n writes → (write : Written) → write.key < length keys → slice_index keys write.key ≡ (write_at (names_of h) n).0 → write.position ≡ 4294967295 → AreUnplaced h keys (n + 1) (writes ++ write ∷ [])
writes_more h keys n writes so write within key position = (
  length_push writes write ∙ ap (λ m. m + 1) so.0,
  λ w d below. elim (cases_lt w n) [
    | inl less ↦ subst (λ (x : Written). (x.key < length keys) × (slice_index keys x.key ≡ (write_at (names_of h) w).0) × (x.position ≡ 4294967295)) (sym (get_or_append_left writes (write ∷ []) d w (let long = so.0 in omega arith))) (so.1 w d less)
    | inr more ↦
        let at : n ≡ w = omega arith in
        subst (λ (x : Written). (x.key < length keys) × (slice_index keys x.key ≡ (write_at (names_of h) w).0) × (x.position ≡ 4294967295)) (sym (get_or_push writes write d w (let long = so.0 in omega arith))) (within, key ∙ ap (λ m. (write_at (names_of h) m).0) at, position)
  ],
)

pub writes_unplaced : (h : List Event) (keys : List ℕ) (writes : List Written) (rows : List VersionRow) → length rows < 4294967296 → AreUnplaced h keys (length (writes_of h)) writes → AreWritesAt h keys rows 0 writes
writes_unplaced h keys writes rows few so = record {
  count = so.0;
  keys_are = λ w d below. let is = so.1 w d below in (is.0, is.1);
  placed = λ j d e less. absurd (omega arith);
  only = λ w d e below found. let none = (so.1 w e below).2 in absurd (omega arith);
}

module _ (h : List Event) (keys : List ℕ) (rows : List VersionRow) (n : ℕ) (writes : List Written) (are : AreWritesAt h keys rows n writes) (some : n < length rows) (r : VersionRow) where
  pub place_skip : (slice_index_or rows n r).write ≡ 0 → AreWritesAt h keys rows (n + 1) writes
  place_skip none = record {
    count = are.count;
    keys_are = are.keys_are;
    placed = λ j d e less made. elim (cases_lt j n) [
      | inl before ↦ are.placed j d e before made
      | inr last ↦
          let same : j ≡ n = omega arith in
          let a = ap (λ m. (slice_index_or rows m d).write) same in
          let b = ap (λ (x : VersionRow). x.write) (get_or_default rows n d r some) in
          absurd (omega arith)
    ];
    only = λ w d e below found. let old = are.only w d e below found in ((let less = old.0 in omega arith), old.1);
  }

  -- the version of the next row is placed
  pub place_more : AllPairs (λ (x : VersionRow) y. 0 < x.write → x.write ≢ y.write) rows → (w : ℕ) → (slice_index_or rows n r).write ≡ w + 1 → w < length writes → (old : Written) → old ≡ slice_index_or writes w old → AreWritesAt h keys rows (n + 1) (set writes w (record { key = old.key; position = n }))
  place_more apart w write within old read = record {
    count = length-set writes w more ∙ are.count;
    keys_are = λ v d below. elim (cases_eq v w) [
      | inl same ↦
          let is = are.keys_are v old below in
          let own : slice_index_or (set writes w more) v d ≡ more = ap (λ u. slice_index_or (set writes w more) u d) same ∙ get_or-set_same writes w more d within in
          let key : (slice_index_or writes v old).key ≡ (slice_index_or (set writes w more) v d).key = ap (λ u. (slice_index_or writes u old).key) same ∙ sym (ap (λ (x : Written). x.key) read) ∙ sym (ap (λ (x : Written). x.key) own) in
          subst (λ k. (k < length keys) × (slice_index keys k ≡ (write_at (names_of h) v).0)) key is
      | inr other ↦ subst (λ (x : Written). (x.key < length keys) × (slice_index keys x.key ≡ (write_at (names_of h) v).0)) (sym (get_or-set_other writes w v more d other)) (are.keys_are v d below)
    ];
    placed = λ j d e less made. elim (cases_lt j n) [
      | inl before ↦
          let b = ap (λ (x : VersionRow). x.write) (get_or_default rows n d r some) in
          let differs : (slice_index_or rows j d).write ≢ (slice_index_or rows n d).write = apart j n d before some made in
          ap (λ (x : Written). x.position) (get_or-set_other writes w ((slice_index_or rows j d).write - 1) more e (λ same. differs (omega arith))) ∙ are.placed j d e before made
      | inr last ↦
          let same : j ≡ n = omega arith in
          let a = ap (λ m. (slice_index_or rows m d).write) same in
          let b = ap (λ (x : VersionRow). x.write) (get_or_default rows n d r some) in
          let at : (slice_index_or rows j d).write - 1 ≡ w = omega arith in
          ap (λ u. (slice_index_or (set writes w more) u e).position) at ∙ ap (λ (x : Written). x.position) (get_or-set_same writes w more e within) ∙ sym same
    ];
    only = λ v d e below found. elim (cases_eq v w) [
      | inl same ↦
          let own : slice_index_or (set writes w more) v e ≡ more = ap (λ u. slice_index_or (set writes w more) u e) same ∙ get_or-set_same writes w more e within in
          let place : n ≡ (slice_index_or (set writes w more) v e).position = sym (ap (λ (x : Written). x.position) own) in
          let b = ap (λ (x : VersionRow). x.write) (get_or_default rows n d r some) in
          let c = ap (λ m. (slice_index_or rows m d).write) place in
          (omega arith, omega arith)
      | inr other ↦
          let place : (slice_index_or writes v e).position ≡ (slice_index_or (set writes w more) v e).position = ap (λ (x : Written). x.position) (sym (get_or-set_other writes w v more e other)) in
          let old_at = are.only v d e below (omega arith) in
          ((let less = old_at.0 in omega arith), subst (λ m. (slice_index_or rows m d).write ≡ v + 1) place old_at.1)
    ];
  }
    where
      more : Written
      more = record { key = old.key; position = n }
