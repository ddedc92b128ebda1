-- The writes of the log by key, and the places of each transaction's own among them.
use Rattle.std.proofs.Common.{◌≡◌, ◌⊎◌, inl, inr, Global, Vec, ℕ, suc, ◌+◌, ◌<◌, List, [], ◌∷◌, ◌++◌, length, map, set, Some, refl, sym, subst, ◌∙◌, ap, arith, slice_get}
use Rattle.std.specs.Prelude.{◌↔◌, All, AllPairs, slice_index, slice_index_or}
use Rattle.std.proofs.lemmas.Bool.{cases_eq, cases_lt}
use Rattle.std.proofs.lemmas.List.{get_or-map, get_or_append_left, get_or_push, get_or-set_other, get_or-set_same, length-map, length-set, length_push, map-id}
use Rattle.std.proofs.lemmas.Option.{get_or_from_slice_get, slice_get-get_or, slice_get_within}
use Rattle.sia_events.specs.declared.event.Event.{Event}
use Rattle.sia_events.specs.Lists.{ListsAscending, Precedes}
use Rattle.sia_events.specs.Numbering.{Names, event_of, names_of, txns_of, write_at, writes_of}
use Rattle.sia_events.specs.Places.{at_place}
use Rattle.sia_events.specs.Transactions.{WritesAt}
use Rattle.sia_events.specs.declared.event.Event.TheVariants.{Commit, Write}
use Rattle.sia_events.specs.declared.log.Row.{Row}
use Rattle.sia_events.specs.declared.log.Row.TheVariants as rows
use Rattle.sia_index.specs.declared.writes.Written.{Written}
use Rattle.sia_index.specs.Info.{AreWrittenKeys}
use Rattle.sia_index.specs.Lists.{joined, places_by}
use Rattle.sia_index.specs.Minima.{AreMinima}
use Rattle.sia_index.specs.Rows.{IsColumn}
use Rattle.sia_index.specs.Tables.{AreWritePlaces, AreWriteTables}
use Rattle.sia_index.specs.VersionRows.{AreUnplaced}
use Rattle.sia_index.proofs.Shared.LogNames.{txns_stand_once, writes_stand_once}
use Rattle.sia_index.proofs.Shared.NumberedNames.{one_place, same_some}
use Rattle.sia_index.proofs.Shared.Ordered.{ascends}
use Rattle.sia_index.proofs.VersionRows.PlacesBy.{listed_by, places_below, places_rise}

-- a list of what has P is one of what has Q, if that is the same
pub lists_same : (P Q : ℕ → Type 0) (xs : List ℕ) → ((x : ℕ) → P x ↔ Q x) → ListsAscending P xs → ListsAscending Q xs
lists_same P Q xs same l = record {
  ascending = l.ascending;
  each = λ x. ((λ c. (same x).0 ((l.each x).0 c)), (λ q. (l.each x).1 ((same x).1 q)));
}

-- the numbers of the transactions that made the first n of these writes
abbrev pub TxnsSoFar : List Event → List ℕ → ℕ → List ℕ → Type 0
TxnsSoFar h by_key n txns = (length txns ≡ n) × ((p : ℕ) → p < n → (slice_index txns p < length (txns_of h)) × (k : ℕ) × (slice_get (writes_of h) (slice_index by_key p) ≡ Some (k, slice_index (txns_of h) (slice_index txns p))))

pub txns_more : (h : List Event) (by_key : List ℕ) (n : ℕ) (txns : List ℕ) → TxnsSoFar h by_key n txns → (d k : ℕ) → d < length (txns_of h) → slice_get (writes_of h) (slice_index by_key n) ≡ Some (k, slice_index (txns_of h) d) → TxnsSoFar h by_key (n + 1) (txns ++ d ∷ [])
txns_more h by_key n txns so d k within at = (
  length_push txns d ∙ ap (λ m. m + 1) so.0,
  λ p below. elim (cases_lt p n) [
    | inl less ↦ rw (get_or_append_left txns (d ∷ []) 0 p (let long = so.0 in omega arith)) (so.1 p less)
    | inr more ↦ let last : n ≡ p = omega arith in rw (get_or_push txns d 0 p (let long = so.0 in omega arith)) (within, k, subst (λ q. slice_get (writes_of h) (slice_index by_key q) ≡ Some (k, slice_index (txns_of h) d)) last at)
  ],
)

module _ (h : List Event) (by_key txns : List ℕ) (are : TxnsSoFar h by_key (length by_key) txns) where
  own_same : (d : ℕ) → d < length (txns_of h) → (p : ℕ) → (slice_get (map (λ (m : ℕ). m) txns) p ≡ Some d) ↔ ((n k : ℕ) × (slice_get by_key p ≡ Some n) × (slice_get (writes_of h) n ≡ Some (k, slice_index (txns_of h) d)))
  own_same d within p = (
    (λ at.
        let is : slice_get txns p ≡ Some d = rw (map-id txns) at at in
        let inside = slice_get_within txns p d is in
        let long = are.0 in
        let (there, k, write) = are.1 p (omega arith) in
        (slice_index by_key p, k, slice_get-get_or by_key p 0 (omega arith), rw (get_or_from_slice_get txns p d 0 is) at write)),
    (λ (n, k, at, write).
        let inside = slice_get_within by_key p n at in
        let long = are.0 in
        let (there, j, own) = are.1 p inside in
        let pair = same_some (j, slice_index (txns_of h) (slice_index txns p)) (k, slice_index (txns_of h) d) (sym own ∙ ap (slice_get (writes_of h)) (get_or_from_slice_get by_key p n 0 at) ∙ write) in
        let name = ap (λ (x : ℕ × ℕ). x.1) pair in
        let same = txns_stand_once h (slice_index txns p) d (slice_index (txns_of h) d) (slice_get-get_or (txns_of h) (slice_index txns p) 0 there ∙ ap Some name) (slice_get-get_or (txns_of h) d 0 within) in
        rw (map-id txns) (slice_get-get_or txns p 0 (omega arith) ∙ ap Some same)),
  )

  pub own_places : (length (places_by (λ (m : ℕ). m) (length (txns_of h)) txns) ≡ length (txns_of h)) × ((d : ℕ) → d < length (txns_of h) → ListsAscending (λ p. (n k : ℕ) × (slice_get by_key p ≡ Some n) × (slice_get (writes_of h) n ≡ Some (k, slice_index (txns_of h) d))) (slice_index_or (places_by (λ (m : ℕ). m) (length (txns_of h)) txns) d []))
  own_places =
      let lists = listed_by (λ (m : ℕ). m) txns (length (txns_of h)) in
      (lists.0, λ d within. lists_same (λ p. slice_get (map (λ (m : ℕ). m) txns) p ≡ Some d) (λ p. (n k : ℕ) × (slice_get by_key p ≡ Some n) × (slice_get (writes_of h) n ≡ Some (k, slice_index (txns_of h) d))) _ (own_same d within) (lists.1 d within))

module _ (h : List Event) (keys : List ℕ) (keys_are : AreWrittenKeys h keys) (written : List Written) (are : AreUnplaced h keys (length (writes_of h)) written) where
  abbrev key : ℕ → ℕ
  key = slice_index (map (λ (w : Written). w.key) written)

  up : AllPairs (λ x y. x < y) keys
  up = ascends (λ (x : ℕ). x) _ keys keys_are

  none : Written
  none = record { key = 0; position = 0 }

  key_of : (n : ℕ) → n < length (writes_of h) → (key n < length keys) × (slice_index keys (key n) ≡ (write_at (names_of h) n).0)
  key_of n below =
      let is = are.1 n none below in
      let at = get_or-map (λ (w : Written). w.key) written n none 0 (let long = are.0 in omega arith) in
      rw at (is.0, is.1)

  key_same : (i : ℕ) → i < length keys → (n : ℕ) → (slice_get (map (λ (w : Written). w.key) written) n ≡ Some i) ↔ ((t : ℕ) × (slice_get (writes_of h) n ≡ Some (slice_index keys i, t)))
  key_same i within n = (
    (λ at.
        let inside = slice_get_within (map (λ (w : Written). w.key) written) n i at in
        let long = length-map written (λ (w : Written). w.key) in
        let count = are.0 in
        let is = key_of n (omega arith) in
        let own = get_or_from_slice_get (map (λ (w : Written). w.key) written) n i 0 at in
        let name : (write_at (names_of h) n).0 ≡ slice_index keys i = sym is.1 ∙ ap (slice_index keys) own in
        ((write_at (names_of h) n).1, slice_get-get_or (writes_of h) n (0, 0) (omega arith) ∙ ap (λ k. Some (k, (write_at (names_of h) n).1)) name)),
    (λ (t, at).
        let inside = slice_get_within (writes_of h) n (slice_index keys i, t) at in
        let is = key_of n inside in
        let name = ap (λ (x : ℕ × ℕ). x.0) (get_or_from_slice_get (writes_of h) n (slice_index keys i, t) (0, 0) at) in
        let same = one_place keys up (key n) i is.0 within (is.1 ∙ name) in
        let long = length-map written (λ (w : Written). w.key) in
        let count = are.0 in
        slice_get-get_or (map (λ (w : Written). w.key) written) n 0 (omega arith) ∙ ap Some same),
  )

  pub writes_by_key : (length (places_by (λ (w : Written). w.key) (length keys) written) ≡ length keys) × ((i : ℕ) → i < length keys → ListsAscending (λ n. (t : ℕ) × (slice_get (writes_of h) n ≡ Some (slice_index keys i, t))) (slice_index_or (places_by (λ (w : Written). w.key) (length keys) written) i []))
  writes_by_key =
      let lists = listed_by (λ (w : Written). w.key) written (length keys) in
      (lists.0, λ i within. lists_same (λ n. slice_get (map (λ (w : Written). w.key) written) n ≡ Some i) (λ n. (t : ℕ) × (slice_get (writes_of h) n ≡ Some (slice_index keys i, t))) _ (key_same i within) (lists.1 i within))

  pub writes_below : All (λ n. n < length (writes_of h)) (joined (places_by (λ (w : Written). w.key) (length keys) written))
  writes_below i d below = let inside = places_below (λ (w : Written). w.key) written (length keys) i d below in let count = are.0 in omega arith

  pub writes_rise : AllPairs (λ m n. Precedes ((write_at (names_of h) m).0 ∷ m ∷ []) ((write_at (names_of h) n).0 ∷ n ∷ [])) (joined (places_by (λ (w : Written). w.key) (length keys) written))
  writes_rise i j d less below =
      let all = joined (places_by (λ (w : Written). w.key) (length keys) written) in
      let m = slice_index_or all i d in
      let n = slice_index_or all j d in
      let first = key_of m (writes_below i d (omega arith)) in
      let second = key_of n (writes_below j d below) in
      rise m n first second (places_rise (λ (w : Written). w.key) written (length keys) i j d less below)
    where
      rise : (m n : ℕ) → (key m < length keys) × (slice_index keys (key m) ≡ (write_at (names_of h) m).0) → (key n < length keys) × (slice_index keys (key n) ≡ (write_at (names_of h) n).0) → (key m < key n) ⊎ ((key m ≡ key n) × (m < n)) → Precedes ((write_at (names_of h) m).0 ∷ m ∷ []) ((write_at (names_of h) n).0 ∷ n ∷ [])
      rise m n first second (inl less) = let above : slice_index keys (key m) < slice_index keys (key n) = up (key m) (key n) 0 less second.0 in let a = first.1 in let b = second.1 in inl (omega arith)
      rise m n first second (inr (same, less)) = inr (sym first.1 ∙ ap (slice_index keys) same ∙ second.1, inl less)

  -- with the places of the transactions' own they are the tables
  pub write_tables : (by_key by_txn : List (List ℕ)) (txns places : List ℕ) (firsts minima : Vec ℕ Global) → by_key ≡ places_by (λ (w : Written). w.key) (length keys) written → TxnsSoFar h (joined by_key) (length (joined by_key)) txns → by_txn ≡ places_by (λ (m : ℕ). m) (length (txns_of h)) txns → AreWritePlaces h 0 places → IsColumn (λ p. slice_index places (slice_index (joined by_key) p)) (joined by_txn) (length (joined by_txn)) firsts.items → AreMinima (λ place. place) firsts.items minima.items
      → AreWriteTables h keys (record { by_key = by_key; by_txn = by_txn; own_places = firsts; minima = minima })
  write_tables by_key by_txn txns places firsts minima is so own at column tree =
      let lists = own_places h (joined by_key) txns so in
      record {
        key_count = rw is writes_by_key.0;
        by_key = rw is writes_by_key.1;
        rise = rw is writes_rise;
        txn_count = rw own lists.0;
        by_txn = rw own lists.1;
        places = places;
        places_are = at;
        own_places = column;
        minima_are = tree;
      }

-- the event at a place, by its row
pub event_at : (names : Names) (rows : List Row) (h : List Event) → map (event_of names) rows ≡ h → (m : ℕ) (d : Row) → m < length rows → at_place h (m + 1) ≡ Some (event_of names (slice_index_or rows m d))
event_at names rows h is m d below =
    let r = slice_index_or rows m d in
    let long = length-map rows (event_of names) in
    let at : slice_get h m ≡ Some (event_of names r) = subst (λ es. slice_get es m ≡ Some (event_of names r)) is (slice_get-get_or (map (event_of names) rows) m (event_of names r) (omega arith) ∙ ap Some (get_or-map (event_of names) rows m d (event_of names r) below)) in
    let next : suc m ≡ m + 1 = omega arith in
    subst (λ p. at_place h p ≡ Some (event_of names r)) next at

-- the rows of writes and of commits
pub write_row : (names : Names) (r : Row) (t k : ℕ) → event_of names r ≡ Write t k → (d q w : ℕ) × (r ≡ rows.Write d q w)
write_row names (rows.Begin d start) t k is = cc
write_row names (rows.Read d q w) t k is = cc
write_row names (rows.OwnRead d q w) t k is = cc
write_row names (rows.Range d r w) t k is = cc
write_row names (rows.Write d q w) t k is = (d, q, w, refl)
write_row names (rows.Commit d) t k is = cc
write_row names (rows.Abort d) t k is = cc

pub commit_row : (names : Names) (r : Row) (t : ℕ) → event_of names r ≡ Commit t → (d : ℕ) × (r ≡ rows.Commit d)
commit_row names (rows.Begin d start) t is = cc
commit_row names (rows.Read d q w) t is = cc
commit_row names (rows.OwnRead d q w) t is = cc
commit_row names (rows.Range d r w) t is = cc
commit_row names (rows.Write d q w) t is = cc
commit_row names (rows.Commit d) t is = (d, refl)
commit_row names (rows.Abort d) t is = cc

module _ (h : List Event) (m : ℕ) (places : List ℕ) (are : AreWritePlaces h (m + 1) places) where
  -- the place of a write that stands before those so far
  pub places_more : (w k t : ℕ) → slice_get (writes_of h) w ≡ Some (k, t) → WritesAt h t k (m + 1) → AreWritePlaces h m (set places w (m + 1))
  places_more w k t at here = record {
    long = length-set places w (m + 1) ∙ are.long;
    each = λ v l u p there writes less. elim (cases_eq v w) [
      | inl same ↦
          let pair = same_some (l, u) (k, t) (sym there ∙ ap (slice_get (writes_of h)) same ∙ at) in
          let key : l ≡ k = ap (λ (x : ℕ × ℕ). x.0) pair in
          let txn : u ≡ t = ap (λ (x : ℕ × ℕ). x.1) pair in
          let inside = slice_get_within (writes_of h) w (k, t) at in
          let long = are.long in
          let own : slice_index (set places w (m + 1)) v ≡ m + 1 = ap (slice_index (set places w (m + 1))) same ∙ get_or-set_same places w (m + 1) 0 (omega arith) in
          rw (own, key, txn) (here, omega arith)
      | inr other ↦ elim (cases_lt (m + 1) p) [
        | inl behind ↦ rw (get_or-set_other places w v (m + 1) 0 other) (are.each v l u p there writes behind)
        | inr last ↦
            let now : p ≡ m + 1 = omega arith in
            let event : Some (Write u l) ≡ Some (Write t k) = sym (subst (WritesAt h u l) now writes) ∙ here in
            let same : Write u l ≡ Write t k = same_some (Write u l) (Write t k) event in
            let key : l ≡ k = cc in
            let txn : u ≡ t = cc in
            absurd (other (writes_stand_once h v w (k, t) (there ∙ ap (λ j. Some (j, u)) key ∙ ap (λ j. Some (k, j)) txn) at))
      ]
    ];
  }

  -- and a place that has no write
  pub places_skip : ((t k : ℕ) → ¬ WritesAt h t k (m + 1)) → AreWritePlaces h m places
  places_skip none = record {
    long = are.long;
    each = λ v l u p there writes less. elim (cases_lt (m + 1) p) [
      | inl behind ↦ are.each v l u p there writes behind
      | inr last ↦ let now : p ≡ m + 1 = omega arith in absurd (none u l (subst (WritesAt h u l) now writes))
    ];
  }
