-- What one transaction saw and passed over, as the rows of its edges take it.
use Rattle.std.proofs.Common.{◌≡◌, ◌⊎◌, inl, inr, ℕ, ◌+◌, ◌-◌, ◌<◌, ◌≤◌, List, [], ◌∷◌, ◌++◌, Some, length, take, max, refl, ap, sym, subst, ◌∙◌, arith}
use Rattle.std.specs.Prelude.{◌↔◌, All, Contains, slice_index, slice_index_or}
use Rattle.std.specs.List.{slice_get}
use Rattle.std.specs.List.Sorted.{IsNonDecreasingBy, IsSorted}
use Rattle.std.specs.Ordering.{nat_cmp, ordering_then}
use Rattle.std.specs.declared.cmp.Ordering.{Ordering}
use Rattle.std.proofs.lemmas.Bool.{cases_lt}
use Rattle.std.proofs.lemmas.List.{get_or-take, get_or_default, length-take, take_more}
use Rattle.std.proofs.lemmas.List.Elements.{Contains-append_left, Contains-get_or, Contains-push, Contains-push_cases}
use Rattle.std.proofs.lemmas.List.Sorted.{IsNonDecreasingBy-from_sort, Contains-permutation, IsPermutation-sym}
use Rattle.std.proofs.lemmas.Option.{get_or_from_slice_get, slice_get-get_or, slice_get_within}
use Rattle.sia_events.specs.declared.event.Event.{Event}
use Rattle.sia_index.specs.Info.{HasKeyAt}
use Rattle.sia_index.specs.Lists.{AreInOrder, with_last}
use Rattle.sia_index.specs.Numbers.{IsCommittedAt}
use Rattle.sia_index.specs.Positions.{HasPosition}
use Rattle.sia_index.proofs.Shared.Ordered.{not_before}
use Rattle.sia_parts.specs.declared.accesses.Accesses.{Accesses}
use Rattle.sia_parts.specs.declared.accesses.RangeMiss.{RangeMiss}
use Rattle.sia_parts.specs.declared.edges.EdgeTo.{EdgeTo}
use Rattle.sia_parts.specs.Accesses.{AreAccesses, HasMiss, IsLook}
use Rattle.sia_parts.specs.ByReader.{HasRow}
use Rattle.sia_parts.specs.EdgeRows.{IsKeyEnd, IsMissRow, IsNewest, StandsBehind}
use Rattle.sia_parts.specs.Sights.{Adds}
use Rattle.sia_parts.proofs.Shared.Adding.{FromFirst, from_more}
use Rattle.sia_parts.proofs.EdgeRows.EdgeLoops.{ReachesTo, StandsFrom, adds_held}
use Rattle.sia_parts.proofs.EdgeRows.Room.{key_stands}

-- lists by number
pub at_number : {A : Type 0} (lists : List (List A)) (i : ℕ) → i < length lists → (x : A) → Contains (slice_index_or lists i []) x → (list : List A) × (slice_get lists i ≡ Some list) × Contains list x
at_number lists i below x c = (slice_index_or lists i [], slice_get-get_or lists i [] below, c)

pub of_number : {A : Type 0} (lists : List (List A)) (i : ℕ) (x : A) → (list : List A) × (slice_get lists i ≡ Some list) × Contains list x → Contains (slice_index_or lists i []) x
of_number lists i x (list, is, c) = subst (λ l. Contains l x) (sym (get_or_from_slice_get lists i list [] is)) c

module _ (h : List Event) (Within : ℕ → Type 0) (a : Accesses) (are : AreAccesses h Within a) (i : ℕ) where
  pub saw_within : (t : ℕ) → IsCommittedAt h i t → i < length a.saw
  saw_within t at = let long = are.saw_long at.0 at.1 in let below = at.2 in omega arith

  pub missed_within : (t : ℕ) → IsCommittedAt h i t → i < length a.missed
  missed_within t at = let long = are.missed_long at.0 at.1 in let below = at.2 in omega arith

  pub saw_positions : i < length a.saw → All (HasPosition h) (slice_index_or a.saw i [])
  saw_positions below k d inside =
      let q = slice_index_or (slice_index_or a.saw i []) k d in
      let is = (are.saw i q (at_number a.saw i below q (Contains-get_or (slice_index_or a.saw i []) k d inside))).3 in
      (is.version.0, is.version.1)

  -- the keys of a range miss, and all before them, have numbers
  pub miss_keys : i < length a.missed → (miss : RangeMiss) → Contains (slice_index_or a.missed i []) miss → (j : ℕ) → j < miss.to → HasKeyAt h j
  miss_keys below miss c j less =
      let has : HasMiss a i miss = at_number a.missed i below miss c in
      let some : miss.from < miss.to = are.some i miss has in
      let last : ℕ = miss.to - 1 in
      let is = (are.missed i last (miss, has, omega arith, omega arith)).3 in
      (is.0, is.1, (let inside = is.2 in omega arith))

-- accesses in order are of the same
module _ {A : Type 0} (cmp : A → A → Ordering) (lists rows : List (List A)) (are : AreInOrder cmp lists rows) (i : ℕ) (x : A) where
  ordered_to : HasRow lists i x → HasRow rows i x
  ordered_to (list, is, c) = at_number rows i (let below = slice_get_within lists i list is in let long = are.long in omega arith) x
      (Contains-permutation _ _ x (are.moved i) (of_number lists i x (list, is, c)))

  ordered_from : HasRow rows i x → HasRow lists i x
  ordered_from (list, is, c) = at_number lists i (let below = slice_get_within rows i list is in let long = are.long in omega arith) x
      (Contains-permutation _ _ x (IsPermutation-sym _ _ (are.moved i)) (of_number rows i x (list, is, c)))

pub same_accesses : (h : List Event) (Within : ℕ → Type 0) (a b : Accesses) (by : RangeMiss → RangeMiss → Ordering) → length b.saw ≡ length a.saw → ((i q : ℕ) → HasRow a.saw i q ↔ HasRow b.saw i q) → AreInOrder by a.missed b.missed → AreAccesses h Within a → AreAccesses h Within b
same_accesses h Within a b by long saw missed are = record {
  saw_long = λ txns list. long ∙ are.saw_long txns list;
  missed_long = λ txns list. missed.long ∙ are.missed_long txns list;
  saw = λ i q is. (let look = are.saw i q ((saw i q).1 is) in (look.0, look.1, look.2, look_to i q look.0 look.1 look.2 look.3, look.4, look.5));
  missed = λ i j is. are.missed i j (is.0, ordered_from by a.missed b.missed missed i is.0 is.1, is.2, is.3);
  some = λ i miss has. are.some i miss (ordered_from by a.missed b.missed missed i miss has);
  each = λ t k c u look wrote within. elim (are.each t k c u look wrote within) [
    | inl at ↦ inl (at.0, at.1, look_to at.0 at.1 t k c at.2)
    | inr at ↦ inr (
      at.0,
      at.1,
      record {
        txn = at.2.txn;
        key = (let key = at.2.key in let miss = key.2 in (key.0, key.1, (miss.0, ordered_to by a.missed b.missed missed at.1 miss.0 miss.1, miss.2, miss.3)));
      },
    )
  ];
}
  where
    look_to : (i q t k c : ℕ) → IsLook h a i q t k c → IsLook h b i q t k c
    look_to i q t k c look = record { saw = (saw i q).0 look.saw; txn = look.txn; version = look.version }

-- range misses in order begin in order
pub misses_rise : (xs : List RangeMiss) → IsSorted (λ x y. ordering_then (nat_cmp x.from y.from) (nat_cmp x.to y.to)) xs → IsNonDecreasingBy (λ (miss : RangeMiss). miss.from) xs
misses_rise xs sorted = IsNonDecreasingBy-from_sort (λ (miss : RangeMiss). miss.from) xs (λ k d low below. not_before (nat_cmp (slice_index_or xs (k + 1) d).from (slice_index_or xs k d).from) _ (sorted k d low below))

-- what stands at place n of a list, and what stands before it
module _ {A : Type 0} (xs : List A) (n : ℕ) (d : A) (below : n < length xs) where
  pub first_kept : (x : A) → Contains (take n xs) x → Contains (take (n + 1) xs) x
  first_kept x c = subst (λ ys. Contains ys x) (sym (take_more xs n d below)) (Contains-append_left (take n xs) (slice_index_or xs n d ∷ []) x c)

  pub first_last : Contains (take (n + 1) xs) (slice_index_or xs n d)
  first_last = subst (λ ys. Contains ys (slice_index_or xs n d)) (sym (take_more xs n d below)) (Contains-push (take n xs) (slice_index_or xs n d))

  pub first_below : (by : A → ℕ) → IsNonDecreasingBy by xs → (x : A) → Contains (take n xs) x → by x ≤ by (slice_index_or xs n d)
  first_below by rise x c =
      let long = length-take n xs in
      let before : c.0 < n = (let b = c.1 in omega arith) in
      let up = rise c.0 n d (omega arith) below in
      let is = ap by (get_or_default xs c.0 d x (omega arith) ∙ sym (get_or-take n xs c.0 x before) ∙ c.2) in
      omega arith

-- what gives nothing that one before it doesn't
pub from_held : {A B : Type 0} (P : A → B → Type 0) (xs : List A) (i : ℕ) (d : A) (old mid : List B) → i < length xs → (x : A) → Contains (take i xs) x → ((y : B) → P (slice_index_or xs i d) y → P x y)
    → Adds (FromFirst P xs i) old mid → Adds (FromFirst P xs (i + 1)) old mid
from_held P xs i d old mid below x has same before = from_more P xs i d old mid mid below before (adds_held (P (slice_index_or xs i d)) mid (λ y p. (before y).1 (inr (x, has, same y p))))

-- the end is that of the key of one of the first n positions, where there is one
abbrev pub EndsKey : List Event → List ℕ → ℕ → ℕ → Type 0
EndsKey h xs n end = 0 < end → (p : ℕ) × Contains (take n xs) p × IsKeyEnd h p end

module _ (h : List Event) (xs : List ℕ) (n : ℕ) (below : n < length xs) where
  pub ends_more : (end : ℕ) → IsKeyEnd h (slice_index xs n) end → EndsKey h xs (n + 1) end
  ends_more end is some = (slice_index xs n, first_last xs n 0 below, is)

  pub ends_same : (end : ℕ) → EndsKey h xs n end → EndsKey h xs (n + 1) end
  ends_same end ends some = let is = ends some in (is.0, first_kept xs n 0 below is.0 is.1, is.2)

  -- before the end a position of the key stands behind the one
  pub ends_behind : IsNonDecreasingBy (λ q. q) xs → (end : ℕ) → EndsKey h xs n end → slice_index xs n < end → (p : ℕ) × Contains (take n xs) p × StandsBehind h p (slice_index xs n)
  ends_behind rise end ends less =
      let is = ends (omega arith) in
      (is.0, is.1, key_stands h is.0 end is.2 (slice_index xs n) (first_below xs n 0 below (λ q. q) rise is.0 is.1) less)

-- one more in the last list
pub put_last : (lists : List (List ℕ)) (xs : List ℕ) (x : ℕ) → with_last (lists ++ xs ∷ []) x ≡ lists ++ (xs ++ x ∷ []) ∷ []
put_last [] xs x = refl
put_last (ys ∷ []) xs x = refl
put_last (ys ∷ zs ∷ lists) xs x = ap (λ yss. ys ∷ yss) (put_last (zs ∷ lists) xs x)

-- the newest of each key among positions, from the last one back
module _ (h : List Event) (saw : List ℕ) where
  pub newest_none : (n : ℕ) → length saw ≤ n → IsNewest h (StandsFrom saw n) []
  newest_none n last = record {
    each = λ p c. absurd (let below = c.1 in omega arith);
    newest = λ q from. absurd (let low = from.1 in let below = from.2 in omega arith);
  }

  module _ (n m : ℕ) (next : m ≡ n + 1) (below : n < length saw) (list : List ℕ) (before : IsNewest h (StandsFrom saw m) list) where
    from_next : (q : ℕ) → StandsFrom saw n q → (slice_index saw n ≡ q) ⊎ StandsFrom saw m q
    from_next q from = elim (cases_lt n from.0) [
      | inl less ↦ inr (from.0, omega arith, from.2, from.3)
      | inr most ↦ let here : from.0 ≡ n = (let low = from.1 in omega arith) in inl (get_or_default saw n 0 q below ∙ ap (λ k. slice_index_or saw k q) (sym here) ∙ from.3)
    ]

    later : (q : ℕ) → StandsFrom saw m q → StandsFrom saw n q
    later q from = (from.0, (let low = from.1 in omega arith), from.2, from.3)

    -- its own
    pub newest_put : IsNewest h (StandsFrom saw n) (list ++ slice_index saw n ∷ [])
    newest_put = record {
      each = λ p c. elim (Contains-push_cases list (slice_index saw n) p c) [
        | inl first ↦ later p (before.each p first)
        | inr same ↦ subst (StandsFrom saw n) same (n, omega arith, below, get_or_default saw n (slice_index saw n) 0 below)
      ];
      newest = λ q from. elim (from_next q from) [
        | inl same ↦ (slice_index saw n, subst (λ p. StandsBehind h p (slice_index saw n)) same (record { le = omega arith; forth = λ j of. of; back = λ j of. of }), Contains-push list _)
        | inr behind ↦ (let is = before.newest q behind in (is.0, is.1, Contains-append_left list _ _ is.2))
      ];
    }

    -- or that of the next one
    pub newest_same : m < length saw → StandsBehind h (slice_index saw n) (slice_index saw m) → IsNewest h (StandsFrom saw n) list
    newest_same there stands = record {
      each = λ p c. later p (before.each p c);
      newest = λ q from. elim (from_next q from) [
        | inl same ↦ (
            let is = before.newest (slice_index saw m) (m, omega arith, there, get_or_default saw m (slice_index saw m) 0 there) in
            let le = stands.le in
            let most = is.1.le in (
              is.0,
              subst (λ p. StandsBehind h p is.0) same (record { le = omega arith; forth = λ j of. is.1.forth j (stands.forth j of); back = λ j of. stands.back j (is.1.back j of) }),
              is.2,
            ))
        | inr behind ↦ before.newest q behind
      ];
    }

  pub newest_all : (n : ℕ) → n ≡ 0 → (list : List ℕ) → IsNewest h (StandsFrom saw n) list → IsNewest h (Contains saw) list
  newest_all n zero list is = record {
    each = λ p c. (let from = is.each p c in (from.0, from.2, from.3));
    newest = λ q c. is.newest q (c.0, omega arith, c.1, c.2);
  }

-- range misses, one after another
module _ (h : List Event) (i : ℕ) (misses : List RangeMiss) (n : ℕ) (d : RangeMiss) (below : n < length misses) (rise : IsNonDecreasingBy (λ (miss : RangeMiss). miss.from) misses)
    (end : ℕ) (reaches : ReachesTo misses n end) where
  abbrev here : RangeMiss
  here = slice_index_or misses n d

  pub reaches_more : (new : ℕ) → new ≡ max here.to end → ReachesTo misses (n + 1) new
  reaches_more new is j less all = elim (cases_lt j here.to) [
    | inl under ↦ (let last = first_last misses n d below in (here, last, all here last, under))
    | inr over ↦ (let m = reaches j (omega arith) (λ x c. all x (first_kept misses n d below x c)) in (m.0, first_kept misses n d below m.0 m.1, m.2, m.3))
  ]

  pub misses_next : (from : ℕ) → from ≡ max here.from end → (old mid new : List EdgeTo) → Adds (FromFirst (λ (miss : RangeMiss). IsMissRow h i miss.from miss.to) misses n) old mid
      → Adds (IsMissRow h i from here.to) mid new → Adds (FromFirst (λ (miss : RangeMiss). IsMissRow h i miss.from miss.to) misses (n + 1)) old new
  misses_next from is old mid new before adds = from_more (λ (miss : RangeMiss). IsMissRow h i miss.from miss.to) misses n d old mid new below before (λ row. (
    (λ c. elim ((adds row).0 c) [
      | inl first ↦ inl first
      | inr row_is ↦ inr (row_is.0, row_is.1, (let low = row_is.2 in omega arith), row_is.3, row_is.4, row_is.5)
    ]),
    (λ e. elim e [
      | inl first ↦ (adds row).1 (inl first)
      | inr row_is ↦ elim (cases_lt row.key end) [
        | inr over ↦ (adds row).1 (inr (row_is.0, row_is.1, (let low = row_is.2 in omega arith), row_is.3, row_is.4, row_is.5))
        | inl under ↦ (
            let low = row_is.2 in
            let m = reaches row.key under (λ x c. let first = first_below misses n d below (λ (miss : RangeMiss). miss.from) rise x c in omega arith) in
            (adds row).1 (inl ((before row).1 (inr (m.0, m.1, (row_is.0, row_is.1, m.2, m.3, row_is.4, row_is.5))))))
      ]
    ]),
  ))
