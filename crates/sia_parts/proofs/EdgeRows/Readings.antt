-- Who saw each version: what was seen turned round.
use Rattle.std.proofs.Common.{◌≡◌, inl, inr, ℕ, zero, suc, ◌+◌, ◌-◌, ◌<◌, ◌≤◌, Bool, true, cond, eqb, List, [], ◌∷◌, length, map, refl, ap, sym, subst, ◌∙◌, arith}
use Rattle.std.specs.Prelude.{◌↔◌, All, Contains, slice_index, slice_index_or}
use Rattle.std.specs.List.{filter}
use Rattle.std.specs.List.Sorted.{IsNonDecreasingBy}
use Rattle.std.specs.declared.cmp.Ordering.{Ordering}
use Rattle.std.proofs.lemmas.Bool.{cases_Bool, cases_lt, eq-eqb, eqb-true}
use Rattle.std.proofs.lemmas.List.{get_or-append_right, get_or-map, get_or_append_left, get_or_past, length-append, length-map}
use Rattle.std.proofs.lemmas.List.Elements.{All-append, All-contains, Contains-append_cases, Contains-append_left, Contains-append_right, Contains-get_or, filter_passes}
use Rattle.std.proofs.lemmas.List.FromFn.{get_or-map-range_with_len, length-map-range_with_len}
use Rattle.std.proofs.lemmas.List.Kept.{IsNonDecreasingBy-filter}
use Rattle.std.proofs.lemmas.Option.{slice_get_within}
use Rattle.sia_events.specs.declared.event.Event.{Event}
use Rattle.sia_events.specs.Lists.{ListsAscending}
use Rattle.sia_events.specs.Refusals.{IsWellFormed}
use Rattle.sia_events.specs.Transactions.{IsCommitted}
use Rattle.sia_index.specs.Lists.{AreInOrder, dealt, joined, numbered, rows_of, turned}
use Rattle.sia_index.specs.Positions.{ArePositions}
use Rattle.sia_index.proofs.Sorting.Turned.{list_of, long_tagged, row_of, tagged}
use Rattle.sia_parts.specs.declared.accesses.Accesses.{Accesses}
use Rattle.sia_parts.specs.declared.accesses.RangeMiss.{RangeMiss}
use Rattle.sia_parts.specs.Accesses.{AreAccesses, SawPosition}
use Rattle.sia_parts.specs.ByReader.{HasRow}
use Rattle.sia_parts.specs.EdgeRows.{AreNewest, AreReadings, AreSeen}
use Rattle.sia_parts.proofs.EdgeRows.AccessRows.{at_number, of_number, same_accesses}
use Rattle.sia_parts.proofs.Shared.FewNumbers.{few_committed}
use Rattle.sia_parts.proofs.Auditing.Members.{contains_first, contains_later, first_or_later}
use Rattle.sia_parts.proofs.EdgeRows.PositionOrder.{position_below}

-- what a map gives
pub mapped : {A B : Type 0} (f : A → B) (xs : List A) (y : B) → Contains (map f xs) y ↔ ((x : A) × Contains xs x × (f x ≡ y))
mapped {A} f [] y = ((λ c. absurd (let l = c.1 in omega arith)), (λ w. absurd (let l = w.1.1 in omega arith)))
mapped {A} f (z ∷ zs) y = (
  (λ c.
      let below : c.0 < length (z ∷ zs) = let l = c.1 in omega (arith, length-map (z ∷ zs) f) in
      (slice_index_or (z ∷ zs) c.0 z, Contains-get_or (z ∷ zs) c.0 z below, sym (get_or-map f (z ∷ zs) c.0 z y below) ∙ c.2)),
  grind (arith, length-map, get_or-map),
)

-- what a filter leaves is what passes
module _ {A : Type 0} (p : A → Bool) (x : A) where
  kept : (xs : List A) → Contains (filter p xs) x → Contains xs x
  kept [] has = has
  kept (y ∷ xs) has = elim (cases_Bool (p y)) [
    | inl is ↦ elim (first_or_later y x (filter p xs) (subst (λ b. Contains (cond b (y ∷ filter p xs) (filter p xs)) x) is has)) [
      | inl same ↦ subst (Contains (y ∷ xs)) same (contains_first y xs)
      | inr later ↦ contains_later y x xs (kept xs later)
    ]
    | inr other ↦ contains_later y x xs (kept xs (subst (λ b. Contains (cond b (y ∷ filter p xs) (filter p xs)) x) other has))
  ]

  keeps : p x ≡ true → (xs : List A) → Contains xs x → Contains (filter p xs) x
  keeps pass [] has = has
  keeps pass (y ∷ xs) has = elim (first_or_later y x xs has) [
    | inl same ↦ subst (λ b. Contains (cond b (y ∷ filter p xs) (filter p xs)) x) (sym (ap p same ∙ pass)) (subst (Contains (y ∷ filter p xs)) same (contains_first y (filter p xs)))
    | inr later ↦ elim (cases_Bool (p y)) [
      | inl is ↦ subst (λ b. Contains (cond b (y ∷ filter p xs) (filter p xs)) x) (sym is) (contains_later y x (filter p xs) (keeps pass xs later))
      | inr other ↦ subst (λ b. Contains (cond b (y ∷ filter p xs) (filter p xs)) x) (sym other) (keeps pass xs later)
    ]
  ]

  pub held : (xs : List A) → Contains (filter p xs) x ↔ (Contains xs x × (p x ≡ true))
  held xs = ((λ has. (kept xs has, All-contains (λ y. p y ≡ true) (filter p xs) x (filter_passes p xs) has)), (λ has. keeps has.1 xs has.0))

module _ {A : Type 0} (by : A → ℕ) (count : ℕ) (rows : List A) where
  pub length-dealt : length (dealt by count rows) ≡ count
  length-dealt = length-map-range_with_len (rows_of by rows) 0 count

  -- what a number is dealt is what has it
  pub dealt_gives : (n : ℕ) (x : A) → Contains (slice_index_or (dealt by count rows) n []) x → Contains rows x × (by x ≡ n)
  dealt_gives n x c = elim (cases_lt n count) [
    | inl below ↦
        let has = (held (λ row. eqb (by row) n) x rows).0 (subst (λ l. Contains l x) (get_or-map-range_with_len (rows_of by rows) 0 count n n [] below (omega arith)) c) in
        (has.0, eqb-true (by x) n has.1)
    | inr past ↦ absurd (none_past n x past c)
  ]
    where
      none_past : (n : ℕ) (x : A) → count ≤ n → Contains (slice_index_or (dealt by count rows) n []) x → ⊥
      none_past n x past c = let b : c.0 < length {A = A} [] = subst (λ l. c.0 < length l) (get_or_past (dealt by count rows) n [] (let e = length-dealt in omega arith)) c.1 in omega arith

  pub dealt_has : (x : A) → Contains rows x → by x < count → Contains (slice_index_or (dealt by count rows) (by x) []) x
  dealt_has x c below = subst (λ l. Contains l x) (sym (get_or-map-range_with_len (rows_of by rows) 0 count (by x) (by x) [] below (omega arith))) ((held (λ row. eqb (by row) (by x)) x rows).1 (c, eq-eqb (by x) (by x) refl))

-- all that lists hold is held by some list
pub all_joined : (P : ℕ → Type 0) (lists : List (List ℕ)) → ((i : ℕ) → i < length lists → All P (slice_index_or lists i [])) → All P (joined lists)
all_joined P [] each = λ i d below. absurd (omega arith)
all_joined P (xs ∷ lists) each = All-append P xs (joined lists) (each 0 (omega arith)) (all_joined P lists (λ i below. each (suc i) (omega arith)))

-- what is numbered is what the lists hold
numbered_gives : (k : ℕ) (lists : List (List ℕ)) (n x : ℕ) → Contains (numbered k lists) (n, x) → (i : ℕ) × (n ≡ k + i) × (i < length lists) × Contains (slice_index_or lists i []) x
numbered_gives k [] n x c = absurd (let below = c.1 in omega arith)
numbered_gives k (xs ∷ lists) n x c = elim (Contains-append_cases (tagged k xs) (numbered (k + 1) lists) (n, x) c) [
  | inl first ↦ (let is = (mapped (λ y. (k, y)) xs (n, x)).0 first in (0, omega (arith, ap (λ (p : ℕ × ℕ). p.0) is.2), omega arith, subst (Contains xs) (ap (λ (p : ℕ × ℕ). p.1) is.2) is.1))
  | inr later ↦ (let is = numbered_gives (k + 1) lists n x later in (suc is.0, omega (arith, is.1), omega (arith, is.2), is.3))
]

numbered_has : (k : ℕ) (lists : List (List ℕ)) (i x : ℕ) → i < length lists → Contains (slice_index_or lists i []) x → Contains (numbered k lists) (k + i, x)
numbered_has k [] i x below c = absurd (omega arith)
numbered_has k (xs ∷ lists) zero x below c =
    let same : k ≡ k + 0 = omega arith in
    subst (λ n. Contains (numbered k (xs ∷ lists)) (n, x)) same (Contains-append_left (tagged k xs) (numbered (k + 1) lists) (k, x) ((mapped (λ y. (k, y)) xs (k, x)).1 (x, c, refl)))
numbered_has k (xs ∷ lists) (suc i) x below c =
    let same : (k + 1) + i ≡ k + suc i = omega arith in
    subst (λ n. Contains (numbered k (xs ∷ lists)) (n, x)) same (Contains-append_right (tagged k xs) (numbered (k + 1) lists) (k + 1 + i, x) (numbered_has (k + 1) lists i x (omega arith) c))

-- and ascends by the numbers
numbered_least : (k : ℕ) (lists : List (List ℕ)) (i : ℕ) (d : ℕ × ℕ) → i < length (numbered k lists) → k ≤ list_of (slice_index_or (numbered k lists) i d)
numbered_least k [] i d below = absurd (omega arith)
numbered_least k (xs ∷ lists) i d below =
    let long = length-append (tagged k xs) (numbered (k + 1) lists) in
    let own = long_tagged k xs in
    elim (cases_lt i (length xs)) [
      | inl here ↦ omega (arith, ap list_of (get_or_append_left (tagged k xs) (numbered (k + 1) lists) d i (omega arith) ∙ get_or-map (λ y. (k, y)) xs i 0 d here))
      | inr past ↦ omega (arith, ap list_of (get_or-append_right (tagged k xs) (numbered (k + 1) lists) (length xs) i d own past), numbered_least (k + 1) lists (i - length xs) d (omega arith))
    ]

numbered_rises : (k : ℕ) (lists : List (List ℕ)) → IsNonDecreasingBy list_of (numbered k lists)
numbered_rises k [] i j d le below = absurd (omega arith)
numbered_rises k (xs ∷ lists) i j d le below =
    let long = length-append (tagged k xs) (numbered (k + 1) lists) in
    let own = long_tagged k xs in
    elim (cases_lt i (length xs)) [
      | inl here ↦ omega (arith, ap list_of (get_or_append_left (tagged k xs) (numbered (k + 1) lists) d i (omega arith) ∙ get_or-map (λ y. (k, y)) xs i 0 d here), numbered_least k (xs ∷ lists) j d below)
      | inr past ↦ omega (arith, ap list_of (get_or-append_right (tagged k xs) (numbered (k + 1) lists) (length xs) i d own past), ap list_of (get_or-append_right (tagged k xs) (numbered (k + 1) lists) (length xs) j d own (omega arith)), numbered_rises (k + 1) lists (i - length xs) (j - length xs) d (omega arith) (omega arith))
    ]

-- lists turned round
module _ (count : ℕ) (lists : List (List ℕ)) where
  pub length-turned : length (turned count lists) ≡ count
  length-turned = length-map (dealt row_of count (numbered 0 lists)) (map list_of) ∙ length-dealt row_of count (numbered 0 lists)

  turned_at : (p : ℕ) → p < count → slice_index_or (turned count lists) p [] ≡ map list_of (slice_index_or (dealt row_of count (numbered 0 lists)) p [])
  turned_at p below = get_or-map (map list_of) (dealt row_of count (numbered 0 lists)) p [] [] (omega (arith, length-dealt row_of count (numbered 0 lists)))

  turned_within : (p u : ℕ) → Contains (slice_index_or (turned count lists) p []) u → p < count
  turned_within p u c = elim (cases_lt p count) [
    | inl below ↦ below
    | inr past ↦ absurd (let b : c.0 < length {A = ℕ} [] = subst (λ l. c.0 < length l) (get_or_past (turned count lists) p [] (omega (arith, length-turned))) c.1 in omega arith)
  ]

  pub turned_gives : (p u : ℕ) → Contains (slice_index_or (turned count lists) p []) u → (u < length lists) × Contains (slice_index_or lists u []) p
  turned_gives p u c =
      let is = (mapped list_of (slice_index_or (dealt row_of count (numbered 0 lists)) p []) u).0 (subst (λ l. Contains l u) (turned_at p (turned_within p u c)) c) in
      let own = dealt_gives row_of count (numbered 0 lists) p is.0 is.1 in
      let has = numbered_gives 0 lists is.0.0 is.0.1 own.0 in
      let same : has.0 ≡ u = omega (arith, has.1, is.2) in
      (omega (arith, has.2), subst (λ n. Contains (slice_index_or lists n []) p) same (subst (Contains (slice_index_or lists has.0 [])) own.1 has.3))

  pub turned_has : (p u : ℕ) → p < count → u < length lists → Contains (slice_index_or lists u []) p → Contains (slice_index_or (turned count lists) p []) u
  turned_has p u below inside c =
      let same : 0 + u ≡ u = omega arith in
      let has = subst (λ n. Contains (numbered 0 lists) (n, p)) same (numbered_has 0 lists u p inside c) in
      subst (λ l. Contains l u) (sym (turned_at p below)) ((mapped list_of (slice_index_or (dealt row_of count (numbered 0 lists)) p []) u).1 ((u, p), dealt_has row_of count (numbered 0 lists) (u, p) has below, refl))

  pub turned_rises : (p : ℕ) → IsNonDecreasingBy (λ u. u) (slice_index_or (turned count lists) p [])
  turned_rises p = elim (cases_lt p count) [
    | inl below ↦
        let own = get_or-map-range_with_len (rows_of row_of (numbered 0 lists)) 0 count p p [] below (omega arith) in
        subst (IsNonDecreasingBy (λ u. u)) (sym (turned_at p below ∙ ap (map list_of) own)) (of_pairs (rows_of row_of (numbered 0 lists) p) (IsNonDecreasingBy-filter list_of (λ row. eqb (row_of row) p) (numbered 0 lists) (numbered_rises 0 lists)))
    | inr past ↦ subst (IsNonDecreasingBy (λ u. u)) (sym (get_or_past (turned count lists) p [] (omega (arith, length-turned)))) (λ i j d le below. absurd (omega arith))
  ]
    where
      of_pairs : (pairs : List (ℕ × ℕ)) → IsNonDecreasingBy list_of pairs → IsNonDecreasingBy (λ u. u) (map list_of pairs)
      of_pairs pairs rises i j d le below =
          let long : length (map list_of pairs) ≡ length pairs = length-map pairs list_of in
          omega (arith, get_or-map list_of pairs i (d, d) d (omega arith), get_or-map list_of pairs j (d, d) d (omega arith), rises i j (d, d) le (omega arith))

-- twice they have the same
pub turned_twice : (count : ℕ) (lists : List (List ℕ)) → ((i q : ℕ) → HasRow lists i q → q < count) → (i q : ℕ) → HasRow lists i q ↔ HasRow (turned (length lists) (turned count lists)) i q
turned_twice count lists within i q = (
  (λ has.
      let below = slice_get_within lists i has.0 has.1 in
      let first = turned_has count lists q i (within i q has) below (of_number lists i q has) in
      at_number (turned (length lists) (turned count lists)) i (omega (arith, length-turned (length lists) (turned count lists), below)) q (turned_has (length lists) (turned count lists) i q below (omega (arith, length-turned count lists, within i q has)) first)),
  (λ has.
      let first = turned_gives (length lists) (turned count lists) i q (of_number (turned (length lists) (turned count lists)) i q has) in
      let own = turned_gives count lists q i first.1 in
      at_number lists i own.0 q own.1),
)

module _ (h : List Event) (Within : ℕ → Type 0) (a : Accesses) (are : AreAccesses h Within a) (count : ℕ) (positions : ArePositions h count) where
  pub below_count : (u q : ℕ) → SawPosition a u q → q < count
  below_count u q saw = let is = (are.saw u q saw).3 in position_below h count q is.version.0 positions is.version.1

  pub saw_below : All (λ q. q < count) (joined a.saw)
  saw_below = all_joined (λ q. q < count) a.saw (λ i below. λ k d inside. below_count i _ (at_number a.saw i below _ (Contains-get_or (slice_index_or a.saw i []) k d inside)))

  -- in order they are the same
  module _ (by : RangeMiss → RangeMiss → Ordering) (missed : List (List RangeMiss)) (moved : AreInOrder by a.missed missed) where
    abbrev pub in_order : Accesses
    in_order = record { saw = turned (length a.saw) (turned count a.saw); missed = missed }

    same : (i q : ℕ) → SawPosition a i q ↔ SawPosition in_order i q
    same i q = turned_twice count a.saw below_count i q

    pub ordered : AreAccesses h Within in_order
    ordered = same_accesses h Within a in_order by (length-turned (length a.saw) (turned count a.saw)) same moved are

    pub are_seen : AreSeen h in_order (turned count a.saw)
    are_seen = record {
      long = subst (ArePositions h) (sym (length-turned count a.saw)) positions;
      each = λ p u. (
        (λ c. let is = turned_gives count a.saw p u c in (same u p).0 (at_number a.saw u is.0 p is.1)),
        (λ saw. let own = (same u p).1 saw in turned_has count a.saw p u (below_count u p own) (slice_get_within a.saw u own.0 own.1) (of_number a.saw u p own)),
      );
    }

  pub seen_below : All (λ u. u < length a.saw) (joined (turned count a.saw))
  seen_below = all_joined (λ u. u < length a.saw) (turned count a.saw) (λ p below. λ k d inside. (turned_gives count a.saw p _ (Contains-get_or (slice_index_or (turned count a.saw) p []) k d inside)).0)

  pub newest_below : (newest : List (List ℕ)) → AreNewest h a.saw newest → All (λ q. q < count) (joined newest)
  newest_below newest is = all_joined (λ q. q < count) newest (λ i below. λ k d inside.
      let within : i < length a.saw = omega (arith, is.long) in
      below_count i _ (at_number a.saw i within _ ((is.each i within).each _ (Contains-get_or (slice_index_or newest i []) k d inside))))

  pub are_readings : (newest : List (List ℕ)) → AreNewest h a.saw newest → AreReadings h a (turned count newest)
  are_readings newest is = record {
    long = subst (ArePositions h) (sym (length-turned count newest)) positions;
    seen = λ p u c. (let has = turned_gives count newest p u c in let below : u < length a.saw = omega (arith, is.long, has.0) in at_number a.saw u below p ((is.each u below).each p has.1));
    newest = λ u q saw. (
        let below = slice_get_within a.saw u saw.0 saw.1 in
        let own = is.each u below in
        let at = own.newest q (of_number a.saw u q saw) in
        let there = at_number a.saw u below at.0 (own.each at.0 at.2) in
        (at.0, at.1, turned_has count newest at.0 u (below_count u at.0 there) (omega (arith, is.long, below)) at.2));
  }

-- committed transactions are few
pub few_txns : (h : List Event) → IsWellFormed h → (txns : List ℕ) → ListsAscending (IsCommitted h) txns → length txns ≤ 536870912
few_txns h wf txns are = elim (cases_lt 536870912 (length txns)) [
  | inl many ↦ absurd (let few = few_committed h wf (length txns - 1) (slice_index txns (length txns - 1)) (txns, are, (omega arith), refl) in omega arith)
  | inr few ↦ few
]
