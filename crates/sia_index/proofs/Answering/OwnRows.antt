-- The row of a transaction, and its first writes by key.
use Rattle.std.proofs.Common.{slice_get, take, ◌≡◌, ℕ, ◌+◌, ◌-◌, ◌<◌, ◌≤◌, List, [], ◌∷◌, length, Some, None, inl, inr, ap, sym, subst, ◌∙◌, arith}
use Rattle.std.specs.Prelude.{Contains, slice_index, slice_index_or, slice_range}
use Rattle.std.proofs.lemmas.Bool.{cases_lt}
use Rattle.std.proofs.lemmas.List.{get_or-map, get_or_default, length-map}
use Rattle.std.specs.List.{AllWithin}
use Rattle.std.proofs.lemmas.List.Edits.{get_or-between, length-between}
use Rattle.std.proofs.lemmas.List.Elements.{Contains-get_or}
use Rattle.std.proofs.lemmas.Option.{get_or_from_slice_get, slice_get-get_or, slice_get_within}
use Rattle.sia_events.specs.declared.event.Event.{Event}
use Rattle.sia_events.specs.declared.event.Event.TheVariants.{Write}
use Rattle.sia_events.specs.declared.log.TxnRow.{TxnRow}
use Rattle.sia_events.specs.Lists.{ListsAscending, Precedes}
use Rattle.sia_events.specs.LogTables.{Lives, txn_names}
use Rattle.sia_events.specs.Numbering.{Ends, names_of, txns_of, write_at, writes_of}
use Rattle.sia_events.specs.Transactions.{StartsAt, Wrote, WroteBefore}
use Rattle.sia_events.proofs.Shared.TransactionDecisions.{place_within}
use Rattle.sia_index.specs.declared.names.Keys.{Keys}
use Rattle.sia_index.specs.declared.txns.Txns.{Txns}
use Rattle.sia_index.specs.declared.writes.Writes.{Writes}
use Rattle.sia_index.specs.declared.versions.Versions.{Versions}
use Rattle.sia_index.specs.Info.{AreWrittenKeys, IsFirstWrite}
use Rattle.sia_index.specs.Lists.{joined}
use Rattle.sia_index.specs.Minima.{IsNextBelow}
use Rattle.sia_index.specs.Rows.{PassesNone}
use Rattle.sia_index.specs.Tables.{AreTables, AreWriteTables}
use Rattle.sia_index.proofs.Shared.LogNames.{numbered_wrote, write_has_number}
use Rattle.sia_index.proofs.Shared.NumberedNames.{same_some}
use Rattle.sia_index.proofs.Shared.Ordered.{ascends, rises}
use Rattle.sia_index.proofs.Sorting.Points.{PointBelow, PointWithin, part_gives, part_has, point_above, point_below, point_from, point_within}
use Rattle.sia_index.proofs.Sorting.SideBySide.{list_before, list_behind}
use Rattle.sia_index.proofs.VersionRows.OwnWrites.{lists_same}
use Rattle.sia_index.proofs.VersionRows.StableDeal.{joined_has}

-- what is known of the log's transaction number n
pub own_row : (g h : List Event) → g ≡ h → (txns : Txns) (keys : Keys) (versions : Versions) (writes : Writes) → AreTables g txns keys versions writes → (n t : ℕ) → slice_get (txns_of h) n ≡ Some t
    → (n < length txns.known.items) × ((row : TxnRow) → row ≡ slice_index_or txns.known.items n row → (row.name ≡ t) × StartsAt h t row.start × Ends h t row.end)
own_row g h same txns keys versions writes are n t at =
    let known = (subst (λ h. AreTables h txns keys versions writes) same are).txns_are.known in
    let named : slice_get (txn_names txns.known.items) n ≡ Some t = subst (λ names. slice_get names n ≡ Some t) (sym known.names) at in
    let within : n < length txns.known.items = let inside = slice_get_within (txn_names txns.known.items) n t named in let long = length-map txns.known.items (λ (row : TxnRow). row.name) in omega arith in (
      within,
      λ row is.
          let name : row.name ≡ t = ap (λ (row : TxnRow). row.name) is ∙ sym (get_or-map (λ (row : TxnRow). row.name) txns.known.items n row 0 within) ∙ get_or_from_slice_get (txn_names txns.known.items) n t 0 named in
          let lives : Lives h row = subst (Lives h) (sym is) (known.lives n row within) in
          (name, subst (λ u. StartsAt h u row.start) name lives.0, subst (λ u. Ends h u row.end) name lives.1),
    )

-- of two places among the writes by key the second has no lesser key
pub keys_rise : (h : List Event) (keys : List ℕ) (w : Writes) → AreWriteTables h keys w → (p q m n k l t u : ℕ) → slice_get (joined w.by_key) p ≡ Some m → slice_get (joined w.by_key) q ≡ Some n → slice_get (writes_of h) m ≡ Some (k, t) → slice_get (writes_of h) n ≡ Some (l, u) → p < q → Precedes (k ∷ m ∷ []) (l ∷ n ∷ [])
keys_rise h keys w are p q m n k l t u at_p at_q at_m at_n less =
    let x = get_or_from_slice_get (joined w.by_key) p m 0 at_p in
    let y = get_or_from_slice_get (joined w.by_key) q n 0 at_q in
    let key_x = ap (λ (r : ℕ × ℕ). r.0) (get_or_from_slice_get (writes_of h) m (k, t) (0, 0) at_m) in
    let key_y = ap (λ (r : ℕ × ℕ). r.0) (get_or_from_slice_get (writes_of h) n (l, u) (0, 0) at_n) in
    subst (λ j. Precedes (j ∷ m ∷ []) (l ∷ n ∷ [])) key_x (subst (λ j. Precedes ((write_at (names_of h) m).0 ∷ m ∷ []) (j ∷ n ∷ [])) key_y
    (subst (λ i. Precedes ((write_at (names_of h) i).0 ∷ i ∷ []) ((write_at (names_of h) n).0 ∷ n ∷ [])) x
    (subst (λ i. Precedes ((write_at (names_of h) (slice_index (joined w.by_key) p)).0 ∷ slice_index (joined w.by_key) p ∷ []) ((write_at (names_of h) i).0 ∷ i ∷ [])) y
    (are.rise p q 0 less (slice_get_within (joined w.by_key) q n at_q)))))

module _ (h : List Event) (keys : List ℕ) (keys_are : AreWrittenKeys h keys) (w : Writes) (are : AreWriteTables h keys w) (n t : ℕ) (named : slice_get (txns_of h) n ≡ Some t) where
  abbrev own : List ℕ
  own = slice_index_or w.by_txn n []

  -- at a place among the writes by key stands one of the transaction's
  abbrev pub IsOwn : ℕ → ℕ → ℕ → Type 0
  IsOwn p m k = (slice_get (joined w.by_key) p ≡ Some m) × (slice_get (writes_of h) m ≡ Some (k, t))

  pub own_within : n < length w.by_txn
  own_within = let within = slice_get_within (txns_of h) n t named in omega (arith, are.txn_count)

  pub own_listed : ListsAscending (λ p. (m k : ℕ) × IsOwn p m k) (slice_index_or w.by_txn n [])
  own_listed = lists_same _ _ _ (λ p. ((λ (m, k, here, there). (m, k, (here, there))), (λ (m, k, is). (m, k, is.0, is.1)))) (subst (λ u. ListsAscending (λ p. (m k : ℕ) × (slice_get (joined w.by_key) p ≡ Some m) × (slice_get (writes_of h) m ≡ Some (k, u))) own) (get_or_from_slice_get (txns_of h) n t 0 named) (are.by_txn n (slice_get_within (txns_of h) n t named)))

  pub own_at : (i d : ℕ) → i < length own → (m k : ℕ) × IsOwn (slice_index_or own i d) m k
  own_at i d below = (own_listed.each (slice_index_or own i d)).0 (Contains-get_or own i d below)

  -- a key that the transaction wrote has a list, in which its write stands
  key_list : (k : ℕ) → Wrote h t k → (i : ℕ) × (i < length keys) × (slice_index keys i ≡ k) × (m : ℕ) × (slice_get (writes_of h) m ≡ Some (k, t)) × Contains (slice_index_or w.by_key i []) m
  key_list k wrote =
      let (i, below, at) = (keys_are.each k).1 (t, wrote) in
      let is = get_or_default keys i 0 k below ∙ at in
      let (m, there) = write_has_number h t k wrote in
      (i, below, is, m, there, ((are.by_key i below).each m).1 (t, there ∙ ap (λ j. Some (j, t)) (sym is)))

  -- and the transaction's list has the place of it
  pub own_has : (k : ℕ) → Wrote h t k → (p m : ℕ) × Contains own p × IsOwn p m k
  own_has k wrote =
      let (i, below, is, m, there, c) = key_list k wrote in
      let (p, inside, at) = joined_has w.by_key i m c in
      let here : slice_get (joined w.by_key) p ≡ Some m = slice_get-get_or (joined w.by_key) p m inside ∙ ap Some at in
      (p, m, (own_listed.each p).1 (m, k, (here, there)), (here, there))

  pub wrote_none : length own ≡ 0 → (k : ℕ) → ¬ Wrote h t k
  wrote_none none k wrote = let c = (own_has k wrote).2 in let below = c.1 in omega arith

  pub wrote_some : 0 < length own → (k : ℕ) × Wrote h t k
  wrote_some some = let (m, k, is) = own_at 0 0 some in (k, numbered_wrote h m k t is.1)

  -- the place of a write is the first one of its key
  pub first_place : (m k : ℕ) → slice_get (writes_of h) m ≡ Some (k, t) → IsFirstWrite h t k (slice_index are.places m)
  first_place m k at =
      let wrote = numbered_wrote h m k t at in (
        (are.places_are.each m k t wrote.0 at wrote.1 (place_within h wrote.0 (Write t k) wrote.1).0).0,
        λ q writes. (are.places_are.each m k t q at writes (place_within h q (Write t k) writes).0).1,
      )

  -- where a key's list stands from one place up to another, the transaction's write at the point of the first is that of the key, or it has none
  module _ (i from to : ℕ) (below : i < length keys) (order : from ≤ to) (bound : to ≤ length (joined w.by_key)) (stretch : slice_range (joined w.by_key) from to ≡ slice_index_or w.by_key i []) (at : ℕ) (point : PointBelow (λ (p : ℕ). p) own from at) where
    pub write_at_point : (p m : ℕ) → at < length own → p ≡ slice_index_or own at p → p < to → m ≡ slice_index_or (joined w.by_key) p m → slice_get (writes_of h) m ≡ Some (slice_index keys i, t)
    write_at_point p m inside here less read =
        let after : from ≤ slice_index_or own at p = point_from (λ (q : ℕ). q) own from at point at p (omega arith) inside in
        let (q, k, own_is) = subst (λ q. (m k : ℕ) × IsOwn q m k) (sym here) (own_at at p inside) in
        let same : q ≡ m = same_some q m (sym own_is.0 ∙ slice_get-get_or (joined w.by_key) p m (omega arith) ∙ ap Some (sym read)) in
        let c = subst (λ list. Contains list m) stretch (part_has (joined w.by_key) from to order bound p m (omega arith) less (sym read)) in
        let (u, own_key) = ((are.by_key i below).each m).0 c in
        let pair = same_some (k, t) (slice_index keys i, u) (sym own_is.1 ∙ ap (slice_get (writes_of h)) same ∙ own_key) in
        own_key ∙ ap (λ v. Some (slice_index keys i, v)) (sym (ap (λ (x : ℕ × ℕ). x.1) pair))

    pub none_at : ((d : ℕ) → at < length own → to ≤ slice_index_or own at d) → ¬ Wrote h t (slice_index keys i)
    none_at past wrote =
        let (m, there) = write_has_number h t (slice_index keys i) wrote in
        let c = ((are.by_key i below).each m).1 (t, there) in
        let (p, after, before, read) = part_gives (joined w.by_key) from to order bound m (subst (λ list. Contains list m) (sym stretch) c) in
        let here : slice_get (joined w.by_key) p ≡ Some m = slice_get-get_or (joined w.by_key) p m (omega arith) ∙ ap Some read in
        let (j, inside, is) = (own_listed.each p).1 (m, slice_index keys i, (here, there)) in
        elim (cases_lt j at) [
          | inl less ↦ let under = point_below (λ (q : ℕ). q) own from at point j p inside less in omega arith
          | inr more ↦
              let rise = rises (λ (q : ℕ). q) own (ascends (λ (q : ℕ). q) _ own own_listed) at j p more inside in
              let over = past p (omega arith) in
              omega arith
        ]

  -- none of the first places has a write of a key from lo to hi before the place
  abbrev pub PassedOwn : ℕ → ℕ → ℕ → ℕ → Type 0
  PassedOwn lo hi place n = (j d m k : ℕ) → j < n → IsOwn (slice_index_or own j d) m k → lo ≤ k → k ≤ hi → place ≤ slice_index are.places m

  pub none_own : (lo hi place : ℕ) → PassedOwn lo hi place (length own) → PassesNone (λ k. WroteBefore h t k place) lo hi None
  none_own lo hi place passed k low high (q, before, writes) =
      let (p, m, c, own_is) = own_has k (q, writes) in
      let over = passed c.0 p m k c.1 (subst (λ x. IsOwn x m k) (sym c.2) own_is) low high in
      let least = (first_place m k own_is.1).1 q writes in
      omega arith

  pub some_own : (lo hi place i d m k : ℕ) → i < length own → PassedOwn lo hi place i → IsOwn (slice_index_or own i d) m k → lo ≤ k → k ≤ hi → PassesNone (λ k. WroteBefore h t k place) lo hi (Some k)
  some_own lo hi place i d m k below passed is low high = (
    low,
    high,
    λ k' low' less (q, before, writes).
        let (p, m', c, own_is) = own_has k' (q, writes) in
        elim (cases_lt c.0 i) [
          | inl earlier ↦
              let over = passed c.0 p m' k' earlier (subst (λ x. IsOwn x m' k') (sym c.2) own_is) low' (omega arith) in
              let least = (first_place m' k' own_is.1).1 q writes in
              omega arith
          | inr later ↦
              let up = rises (λ (q : ℕ). q) own (ascends (λ (q : ℕ). q) _ own own_listed) i c.0 p later c.1 in
              let at = c.2 in
              let first : slice_index_or own i d ≡ slice_index_or own i p = get_or_default own i d p below in
              elim (cases_lt (slice_index_or own i d) p) [
                | inl above ↦ elim (keys_rise h keys w are (slice_index_or own i d) p m m' k k' t t is.0 own_is.0 is.1 own_is.1 above) [ inl more ↦ omega arith | inr equal ↦ let key = equal.0 in omega arith ]
                | inr same ↦
                    let one : p ≡ slice_index_or own i d = omega arith in
                    let write : m ≡ m' = same_some m m' (sym is.0 ∙ ap (slice_get (joined w.by_key)) (sym one) ∙ own_is.0) in
                    let pair = same_some (k, t) (k', t) (sym is.1 ∙ ap (slice_get (writes_of h)) write ∙ own_is.1) in
                    let key : k ≡ k' = ap (λ (x : ℕ × ℕ). x.0) pair in
                    omega arith
              ]
        ],
  )

  -- what stands before the start of key number r among the writes by key is of a key before it, and what stands behind it of that one or a later one
  abbrev pub start : ℕ → ℕ
  start r = length (joined (take r w.by_key))

  key_is : (i p m k : ℕ) → i < length keys → Contains (slice_index_or w.by_key i []) m → IsOwn p m k → k ≡ slice_index keys i
  key_is i p m k below c is = let (u, at) = ((are.by_key i below).each m).0 c in ap (λ (x : ℕ × ℕ). x.0) (same_some (k, t) (slice_index keys i, u) (sym is.1 ∙ at))

  before : (r p m k : ℕ) → p < start r → IsOwn p m k → (i : ℕ) × (i < r) × (i < length keys) × (k ≡ slice_index keys i)
  before r p m k less is =
      let (i, up, within, c) = list_before w.by_key r p m less (get_or_from_slice_get (joined w.by_key) p m m is.0) in
      let inside : i < length keys = omega (arith, are.key_count) in
      (i, up, inside, key_is i p m k inside c is)

  behind : (r p m k : ℕ) → start r ≤ p → IsOwn p m k → (i : ℕ) × (r ≤ i) × (i < length keys) × (k ≡ slice_index keys i)
  behind r p m k over is =
      let (i, up, within, c) = list_behind w.by_key r p m over (slice_get_within (joined w.by_key) p m is.0) (get_or_from_slice_get (joined w.by_key) p m m is.0) in
      let inside : i < length keys = omega (arith, are.key_count) in
      (i, up, inside, key_is i p m k inside c is)

  -- where those of the transaction stand among all, their places stand among all places
  module _ (from to : ℕ) (order : from ≤ to) (bound : to ≤ length (joined w.by_txn)) (stretch : slice_range (joined w.by_txn) from to ≡ slice_index_or w.by_txn n []) where
    row_at : (j d : ℕ) → j < length own → slice_index_or own j d ≡ slice_index_or (joined w.by_txn) (from + j) d
    row_at j d below =
        let long = length-between (joined w.by_txn) from to bound in
        let same = ap length stretch in
        ap (λ xs. slice_index_or xs j d) (sym stretch) ∙ get_or-between (joined w.by_txn) from to j d (omega arith)

    pub inside_all : (j : ℕ) → j < length own → from + j < length (joined w.by_txn)
    inside_all j below = let long = length-between (joined w.by_txn) from to bound in let same = ap length stretch in omega arith

    pub place_at : (j d m k : ℕ) → j < length own → IsOwn (slice_index_or own j d) m k → slice_index w.own_places.items (from + j) ≡ slice_index are.places m
    place_at j d m k below is =
        let count = are.own_places.0 in
        are.own_places.1 (from + j) 0 d (let inside = inside_all j below in omega arith)
        ∙ ap (λ p. slice_index are.places (slice_index (joined w.by_key) p)) (sym (row_at j d below))
        ∙ ap (slice_index are.places) (get_or_from_slice_get (joined w.by_key) (slice_index_or own j d) m 0 is.0)

  -- those of the transaction between the starts of the first key that is asked for and of the one behind the last
  module _ (from to : ℕ) (order : from ≤ to) (bound : to ≤ length (joined w.by_txn)) (stretch : slice_range (joined w.by_txn) from to ≡ slice_index_or w.by_txn n []) (lo hi place low high first last : ℕ) (most : last ≤ length (slice_index_or w.by_txn n [])) (is_low : PointBelow (λ (k : ℕ). k) keys lo low) (is_high : PointWithin (λ (k : ℕ). k) keys hi high)
      (is_first : PointBelow (λ (p : ℕ). p) (slice_index_or w.by_txn n []) (length (joined (take low w.by_key))) first) (is_last : PointBelow (λ (p : ℕ). p) (slice_index_or w.by_txn n []) (length (joined (take high w.by_key))) last) where
    between : (j d m k : ℕ) → j < length own → IsOwn (slice_index_or own j d) m k → lo ≤ k → k ≤ hi → (first ≤ j) × (j < last)
    between j d m k below is low_k high_k = (
      elim (cases_lt j first) [
        | inl less ↦
            let under = point_below (λ (p : ℕ). p) own (start low) first is_first j d below less in
            let (i, up, inside, key) = before low (slice_index_or own j d) m k under is in
            let small = point_below (λ (k : ℕ). k) keys lo low is_low i 0 inside up in
            absurd (omega arith)
        | inr more ↦ more
      ],
      elim (cases_lt j last) [
        | inl less ↦ less
        | inr more ↦
            let over = point_from (λ (p : ℕ). p) own (start high) last is_last j d more below in
            let (i, up, inside, key) = behind high (slice_index_or own j d) m k over is in
            let great = point_above (λ (k : ℕ). k) keys hi high is_high i 0 up inside in
            absurd (omega arith)
      ],
    )

    pub none_between : AllWithin (λ p. place ≤ p) w.own_places.items (from + first) (from + last) → PassesNone (λ k. WroteBefore h t k place) lo hi None
    none_between above = none_own lo hi place (λ j d m k below is low_k high_k.
        let (a, b) = between j d m k below is low_k high_k in
        let over = above (from + j) 0 (omega arith) (omega arith) in
        let same = place_at from to order bound stretch j d m k below is in
        omega arith)

    pub some_between : (q : ℕ) → IsNextBelow (λ p. p) w.own_places.items (from + first) (from + last) place q → (m k : ℕ) × (IsOwn (slice_index (joined w.by_txn) q) m k × PassesNone (λ k. WroteBefore h t k place) lo hi (Some k))
    some_between q next =
        let start_q = next.0 in
        let end_q = next.1 in
        let j : ℕ = q - from in
        let e_q : from + j ≡ q = omega arith in
        let inside : j < length own = omega arith in
        let (m, k, is) = own_at j 0 inside in
        let here : slice_index_or own j 0 ≡ slice_index (joined w.by_txn) q = row_at from to order bound stretch j 0 inside ∙ ap (slice_index (joined w.by_txn)) e_q in
        let over = point_from (λ (p : ℕ). p) own (start low) first is_first j 0 (omega arith) inside in
        let under = point_below (λ (p : ℕ). p) own (start high) last is_last j 0 inside (omega arith) in
        let (a, a_up, a_in, a_key) = behind low (slice_index_or own j 0) m k over is in
        let (b, b_up, b_in, b_key) = before high (slice_index_or own j 0) m k under is in
        let low_k = point_from (λ (k : ℕ). k) keys lo low is_low a 0 a_up a_in in
        let high_k = point_within (λ (k : ℕ). k) keys hi high is_high b 0 b_in b_up in (
          m,
          k,
          (
            subst (λ p. IsOwn p m k) here is,
            some_own lo hi place j 0 m k inside
                (λ i d n l less own_is l_low l_high.
                let (c, c') = between i d n l (omega arith) own_is l_low l_high in
                let above = next.3 (from + i) 0 (omega arith) (omega arith) in
                let same = place_at from to order bound stretch i d n l (omega arith) own_is in
                omega arith)
                is (omega arith) (omega arith),
          ),
        )
