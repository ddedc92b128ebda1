-- Names by their numbers in a log, as loops collect them and as tables hold them.
use Rattle.std.proofs.Common.{◌≡◌, ◌≢◌, ◌↔◌, inl, inr, ℕ, ◌+◌, ◌<◌, List, [], ◌∷◌, ◌++◌, length, ltb, Bool, true, false, Option, Some, None, unwrap_or, refl, sym, subst, ◌∙◌, ap, arith, slice_get}
use Rattle.std.specs.Prelude.{All, AllPairs, Contains, IfNone, IfSome, MatchOption, slice_index, slice_index_or}
use Rattle.std.specs.Bool.{then_some}
use Rattle.std.specs.List.Sorted.{IsStrictlySortedBy}
use Rattle.std.specs.Ordering.{nat_cmp, ordering_then}
use Rattle.std.proofs.lemmas.List.{get_or_default}
use Rattle.std.proofs.lemmas.List.Elements.{Contains-get_or}
use Rattle.std.proofs.lemmas.Option.{slice_get_within, get_or_from_slice_get, slice_get-get_or}
use Rattle.sia_events.specs.declared.event.Event.{Event}
use Rattle.sia_events.specs.Lists.{ListsAscending, Precedes}
use Rattle.sia_events.specs.Numbering.{keys_of, txns_of, writes_of}
use Rattle.sia_events.specs.Transactions.{HasEvent, Wrote}
use Rattle.sia_events.proofs.Worked.OneList.{one_list_by}
use Rattle.sia_index.specs.Info.{IsKeyAt}
use Rattle.std.proofs.lemmas.Bool.{cases_lt, ltb-false, ltb-true}
use Rattle.sia_index.specs.declared.names.Numbered.{Numbered}
use Rattle.sia_index.specs.Rows.{AreNumbered, IsColumn, IsWritten}
use Rattle.sia_index.specs.Tables.{ArePlaces, AreNumbers}
use Rattle.sia_index.proofs.TxnTables.Collected.{HoldsBelow, holds_one, holds_again, holds_same, collected}
use Rattle.sia_index.proofs.Shared.LogNames.{StandOnce, event_has_number, keys_stand_once, write_has_number, numbered_wrote}
use Rattle.sia_index.proofs.Shared.Ordered.{ascends, precedes_last, precedes_then}

abbrev pub none_numbered : Numbered ℕ
none_numbered = record { name = 0; number = 0 }

-- of an ascending list no two places have one number
pub one_place : (xs : List ℕ) → AllPairs (λ x y. x < y) xs → (i j : ℕ) → i < length xs → j < length xs → slice_index xs i ≡ slice_index xs j → i ≡ j
one_place xs up i j in_i in_j same = elim (cases_lt i j) [
  | inl less ↦ let under : slice_index xs i < slice_index xs j = up i j 0 less in_j in absurd (omega arith)
  | inr more ↦ elim (cases_lt j i) [
    | inl less ↦ let under : slice_index xs j < slice_index xs i = up j i 0 less in_i in absurd (omega arith)
    | inr most ↦ omega arith
  ]
]

-- what is sorted is listed by name and number
by_name : (x y : Numbered ℕ) → ordering_then (nat_cmp x.name y.name) (nat_cmp x.number y.number) ≡ Rattle.std.specs.declared.cmp.Ordering.TheVariants.Less → Precedes (x.name ∷ x.number ∷ []) (y.name ∷ y.number ∷ [])
by_name x y less = precedes_then x.name y.name (nat_cmp x.number y.number) (x.number ∷ []) (y.number ∷ []) less (precedes_last x.number y.number)

same_row : (x y : Numbered ℕ) → x.name ≡ y.name → x.number ≡ y.number → x ≡ y
same_row x y name number = λ i. record { name = name i; number = number i }

pub same_some : {A : Type 0} (x y : A) → Some x ≡ Some y → x ≡ y
same_some x y e = cc

-- the row of name number q, if it has K
abbrev pub IsRowOf : (ℕ → Type 0) → List ℕ → Numbered ℕ → ℕ → Type 0
IsRowOf K names row q = (row.number ≡ q) × (slice_get names q ≡ Some row.name) × K row.name

module _ (K : ℕ → Type 0) (names : List ℕ) (n t : ℕ) (rows : List (Numbered ℕ)) (holds : HoldsBelow (IsRowOf K names) n rows) (here : slice_get names n ≡ Some t) where
  name_is : (x : Numbered ℕ) → IsRowOf K names x n → t ≡ x.name
  name_is x is = same_some t x.name (sym here ∙ is.1)

  pub numbered_more : K t → HoldsBelow (IsRowOf K names) (n + 1) (rows ++ record { name = t; number = n } ∷ [])
  numbered_more has = holds_one (IsRowOf K names) n rows (record { name = t; number = n }) holds (refl, here, has) (λ x is. same_row (record { name = t; number = n }) x (name_is x is) (sym is.0))

  pub numbered_same : ¬ K t → HoldsBelow (IsRowOf K names) (n + 1) rows
  numbered_same none = holds_same (IsRowOf K names) n rows holds (λ x is. none (subst K (sym (name_is x is)) is.2))

pub numbered_listed : (K : ℕ → Type 0) (names : List ℕ) (n : ℕ) (xs ys : List (Numbered ℕ)) → n ≡ length names → HoldsBelow (IsRowOf K names) n xs → IsStrictlySortedBy (λ x y. ordering_then (nat_cmp x.name y.name) (nat_cmp x.number y.number)) ys → ((x : Numbered ℕ) → Contains xs x → Contains ys x) → ((x : Numbered ℕ) → Contains ys x → Contains xs x) → AreNumbered K names ys
numbered_listed K names n xs ys all holds = collected (IsRowOf K names) (λ row. row.name ∷ row.number ∷ []) (λ row. (slice_get names row.number ≡ Some row.name) × K row.name) (λ x y. ordering_then (nat_cmp x.name y.name) (nat_cmp x.number y.number))
    by_name n
    (λ x. (
      (λ (q, below, (number, at, has)). (subst (λ m. slice_get names m ≡ Some x.name) (sym number) at, has)),
      (λ (at, has). (x.number, (let within : x.number < length names = slice_get_within names x.number x.name at in omega arith), (refl, at, has))),
    ))
    xs ys holds

-- the row of the key of write number q
abbrev pub IsRowOfWrite : List Event → Numbered ℕ → ℕ → Type 0
IsRowOfWrite h row q = (slice_get (keys_of h) row.number ≡ Some row.name) × (t : ℕ) × (slice_get (writes_of h) q ≡ Some (row.name, t))

module _ (h : List Event) (n t : ℕ) (rows : List (Numbered ℕ)) (row : Numbered ℕ) (holds : HoldsBelow (IsRowOfWrite h) n rows) (named : slice_get (keys_of h) row.number ≡ Some row.name) (here : slice_get (writes_of h) n ≡ Some (row.name, t)) where
  alone : (x : Numbered ℕ) → IsRowOfWrite h x n → row ≡ x
  alone x is =
      let name : row.name ≡ x.name = ap (λ (p : ℕ × ℕ). p.0) (same_some (row.name, t) (x.name, is.1) (sym here ∙ is.2)) in
      same_row row x name (keys_stand_once h row.number x.number x.name (subst (λ k. slice_get (keys_of h) row.number ≡ Some k) name named) is.0)

  pub key_more : HoldsBelow (IsRowOfWrite h) (n + 1) (rows ++ row ∷ [])
  key_more = holds_one (IsRowOfWrite h) n rows row holds (named, t, here) alone

  pub key_again : Contains rows row → HoldsBelow (IsRowOfWrite h) (n + 1) rows
  key_again there = holds_again (IsRowOfWrite h) n rows row holds there alone

pub keys_listed : (h : List Event) (n : ℕ) (xs ys : List (Numbered ℕ)) → n ≡ length (writes_of h) → HoldsBelow (IsRowOfWrite h) n xs → IsStrictlySortedBy (λ x y. ordering_then (nat_cmp x.name y.name) (nat_cmp x.number y.number)) ys → ((x : Numbered ℕ) → Contains xs x → Contains ys x) → ((x : Numbered ℕ) → Contains ys x → Contains xs x) → AreNumbered (IsWritten h) (keys_of h) ys
keys_listed h n xs ys all holds = collected (IsRowOfWrite h) (λ row. row.name ∷ row.number ∷ []) (λ row. (slice_get (keys_of h) row.number ≡ Some row.name) × IsWritten h row.name) (λ x y. ordering_then (nat_cmp x.name y.name) (nat_cmp x.number y.number))
    by_name n
    (λ x. (
      (λ (q, below, (at, t, wrote)). (at, (t, numbered_wrote h q x.name t wrote))),
      (λ (at, (t, wrote)). let w = write_has_number h t x.name wrote in (w.0, (let within : w.0 < length (writes_of h) = slice_get_within (writes_of h) w.0 (x.name, t) w.1 in omega arith), (at, t, w.1))),
    ))
    xs ys holds

module _ (K : ℕ → Type 0) (names : List ℕ) (rows : List (Numbered ℕ)) (are : AreNumbered K names rows) where
  pub row_at : (i : ℕ) (d : Numbered ℕ) → i < length rows → slice_get names (slice_index_or rows i d).number ≡ Some (slice_index_or rows i d).name
  row_at i d below = ((are.each (slice_index_or rows i d)).0 (Contains-get_or rows i d below)).0

  pub rows_named : All (λ row. slice_get names row.number ≡ Some row.name) rows
  rows_named i d below = row_at i d below

  pub rows_have : All (λ row. K row.name) rows
  rows_have i d below = ((are.each (slice_index_or rows i d)).0 (Contains-get_or rows i d below)).1

  pub rows_within : All (λ row. row.number < length names) rows
  rows_within i d below = slice_get_within names (slice_index_or rows i d).number (slice_index_or rows i d).name (row_at i d below)

  pub rows_apart : AllPairs (λ x y. x.number ≢ y.number) rows
  rows_apart i j d less below same =
      let name : (slice_index_or rows i d).name ≡ (slice_index_or rows j d).name = same_some (slice_index_or rows i d).name (slice_index_or rows j d).name (sym (row_at i d (omega arith)) ∙ ap (slice_get names) same ∙ row_at j d below) in
      elim (are.ascending i j d less below) [
        | inl under ↦ omega arith
        | inr rest ↦ elim rest.1 [ inl before ↦ omega arith | inr never ↦ never.1 ]
      ]

  module _ (once : StandOnce names) (known : (t : ℕ) → K t → (i : ℕ) × (slice_get names i ≡ Some t)) (listed : List ℕ) (named : IsColumn (λ row. row.name) rows (length rows) listed) where
    row_of : (t i : ℕ) → slice_get names i ≡ Some t → K t → Contains rows (record { name = t; number = i })
    row_of t i at has = (are.each (record { name = t; number = i })).1 (at, has)

    rise : (i j : ℕ) → i < j → j < length rows → (slice_index_or rows i none_numbered).name < (slice_index_or rows j none_numbered).name
    rise i j less below = elim (are.ascending i j none_numbered less below) [
      | inl lower ↦ lower
      | inr rest ↦
          let number = once (slice_index_or rows i none_numbered).number (slice_index_or rows j none_numbered).number (slice_index_or rows j none_numbered).name (subst (λ t. slice_get names (slice_index_or rows i none_numbered).number ≡ Some t) rest.0 (row_at i none_numbered (omega arith))) (row_at j none_numbered below) in
          absurd (rows_apart i j none_numbered less below number)
    ]

    name_of : (i d : ℕ) → i < length rows → slice_index_or listed i d ≡ (slice_index_or rows i none_numbered).name
    name_of i d below = named.1 i d none_numbered (omega (arith, named.0))

    -- the names are those that have K, ascending
    pub names_listed : ListsAscending K listed
    names_listed = record {
      ascending = λ i j d less below.
          let within : j < length rows = omega (arith, named.0) in
          let lower = rise i j less within in
          let first = name_of i d (omega arith) in
          let second = name_of j d within in
          inl (omega arith);
      each = λ t. (
        (λ c.
            let below : c.0 < length rows = let b = c.1 in omega (arith, named.0) in
            subst K (sym (name_of c.0 t below) ∙ c.2) (rows_have c.0 none_numbered below)),
        (λ has.
            let number = known t has in
            let c = row_of t number.0 number.1 has in
            (c.0, (let b = c.1 in omega (arith, named.0)), named.1 c.0 t (record { name = t; number = number.0 }) (let b = c.1 in omega (arith, named.0)) ∙ ap (λ (r : Numbered ℕ). r.name) c.2)),
      );
    }

    pub numbers_are : (numbers : List ℕ) → ArePlaces (λ (row : Numbered ℕ). row.number) rows (length names) numbers → AreNumbers K names listed numbers
    numbers_are numbers places = record {
      listed_are = names_listed;
      long = places.long;
      few = let few = places.few in omega (arith, named.0);
      each = λ q inside found.
          let i = slice_index numbers q in
          let below : i < length rows = omega (arith, named.0) in
          let name : slice_get names q ≡ Some (slice_index_or rows i none_numbered).name = subst (λ m. slice_get names m ≡ Some (slice_index_or rows i none_numbered).name) (places.only q none_numbered inside below) (row_at i none_numbered below) in
          name_of i 0 below ∙ sym (get_or_from_slice_get names q (slice_index_or rows i none_numbered).name 0 name);
      none = λ q inside behind has.
          let row : Numbered ℕ = record { name = slice_index names q; number = q } in
          let c = row_of (slice_index names q) q (slice_get-get_or names q 0 inside) has in
          let at : slice_index numbers q ≡ c.0 = ap (λ (r : Numbered ℕ). slice_index numbers r.number) (sym c.2) ∙ places.each c.0 row c.1 in
          let below : c.0 < length rows = c.1 in
          absurd (omega (arith, named.0));
    }

-- what has K has a number among the names that are listed
pub number_there : (K : ℕ → Type 0) (names listed numbers : List ℕ) → AreNumbers K names listed numbers → (q : ℕ) → q < length names → (n : ℕ) → n ≡ slice_index numbers q → K (slice_index names q) → (n < length listed) × (slice_index listed n ≡ slice_index names q)
number_there K names listed numbers are q inside n is has = subst (λ m. (m < length listed) × (slice_index listed m ≡ slice_index names q)) (sym is) (elim (cases_lt (slice_index numbers q) (length listed)) [
  | inl below ↦ (below, are.each q inside below)
  | inr behind ↦ absurd (are.none q inside behind has)
])

-- a listed name has one number
pub its_number : (K : ℕ → Type 0) (listed : List ℕ) → ListsAscending K listed → (i t : ℕ) → (xs : List ℕ) × ListsAscending K xs × (i < length xs) × (slice_index xs i ≡ t) → (i < length listed) × (slice_index listed i ≡ t)
its_number K listed are i t at =
    let same = one_list_by _ _ at.0 listed at.1 are in
    (subst (λ xs. i < length xs) same at.2, subst (λ xs. slice_index xs i ≡ t) same at.3)

-- the place, if it is below the count
abbrev pub place_below : ℕ → ℕ → Option ℕ
place_below count place = then_some (ltb place count) place

module _ (K : ℕ → Type 0) (names listed numbers : List ℕ) (are : AreNumbers K names listed numbers) (q : ℕ) (inside : q < length names) where
  number_is : (place : Option ℕ) → place ≡ place_below (length listed) (slice_index numbers q) → MatchOption place (¬ K (slice_index names q)) (λ i. (i < length listed) × (slice_index listed i ≡ slice_index names q))
  number_is place is = subst (λ o. MatchOption o (¬ K (slice_index names q)) (λ i. (i < length listed) × (slice_index listed i ≡ slice_index names q))) (sym is) (by_test (ltb (slice_index numbers q) (length listed)) refl) where
    by_test : (b : Bool) → ltb (slice_index numbers q) (length listed) ≡ b → MatchOption (then_some b (slice_index numbers q)) (¬ K (slice_index names q)) (λ i. (i < length listed) × (slice_index listed i ≡ slice_index names q))
    by_test true less = let below = ltb-true (slice_index numbers q) (length listed) less in (below, are.each q inside below)
    by_test false more = are.none q inside (ltb-false (slice_index numbers q) (length listed) more)

  pub number_exactly : (place : Option ℕ) → place ≡ place_below (length listed) (slice_index numbers q) → (i : ℕ) → (place ≡ Some i) ↔ ((xs : List ℕ) × ListsAscending K xs × (i < length xs) × (slice_index xs i ≡ slice_index names q))
  number_exactly place is i = (
    (λ e. let at = subst (λ o. MatchOption o (¬ K (slice_index names q)) (λ j. (j < length listed) × (slice_index listed j ≡ slice_index names q))) e (number_is place is) in (listed, are.listed_are, at.0, at.1)),
    (λ at. let own = its_number K listed are.listed_are i (slice_index names q) at in of_place place (number_is place is) own),
  )
    where
      of_place : (o : Option ℕ) → MatchOption o (¬ K (slice_index names q)) (λ j. (j < length listed) × (slice_index listed j ≡ slice_index names q)) → (i < length listed) × (slice_index listed i ≡ slice_index names q) → o ≡ Some i
      of_place None none own = absurd (none ((are.listed_are.each (slice_index names q)).0 (i, own.0, get_or_default listed i (slice_index names q) 0 own.0 ∙ own.1)))
      of_place (Some j) found own = ap Some (one_place listed (ascends (λ (x : ℕ). x) K listed are.listed_are) j i found.0 own.0 (found.1 ∙ sym own.1))

  pub number_told : (place : Option ℕ) → place ≡ place_below (length listed) (slice_index numbers q) → MatchOption place (¬ K (slice_index names q)) (λ i. (xs : List ℕ) × ListsAscending K xs × (i < length xs) × (slice_index xs i ≡ slice_index names q))
  number_told place is = of_place place (number_is place is) where
    of_place : (o : Option ℕ) → MatchOption o (¬ K (slice_index names q)) (λ j. (j < length listed) × (slice_index listed j ≡ slice_index names q)) → MatchOption o (¬ K (slice_index names q)) (λ i. (xs : List ℕ) × ListsAscending K xs × (i < length xs) × (slice_index xs i ≡ slice_index names q))
    of_place None none = none
    of_place (Some j) found = (listed, are.listed_are, found.0, found.1)

pub number_written : (h : List Event) (names listed numbers : List ℕ) → AreNumbers (IsWritten h) names listed numbers → (q : ℕ) → q < length names → (place : Option ℕ) → place ≡ place_below (length listed) (slice_index numbers q) → MatchOption place ((t : ℕ) → ¬ Wrote h t (slice_index names q)) (λ i. IsKeyAt h i (slice_index names q))
number_written h names listed numbers are q inside place is = of_place place (number_told (IsWritten h) names listed numbers are q inside place is) where
  of_place : (o : Option ℕ) → MatchOption o (¬ IsWritten h (slice_index names q)) (λ i. IsKeyAt h i (slice_index names q)) → MatchOption o ((t : ℕ) → ¬ Wrote h t (slice_index names q)) (λ i. IsKeyAt h i (slice_index names q))
  of_place None none = λ t wrote. none (t, wrote)
  of_place (Some i) at = at

-- what is found among the names of a log's transactions is a transaction's number, which it has if it has an event
pub txn_found : (h : List Event) (t : ℕ) (found : Option ℕ) → IfSome found (λ n. slice_get (txns_of h) n ≡ Some t) → IfNone found ((n : ℕ) → slice_get (txns_of h) n ≢ Some t) → MatchOption found (¬ HasEvent h t) (λ n. slice_get (txns_of h) n ≡ Some t)
txn_found h t None some none = λ has. let number = event_has_number h t has in none number.0 number.1
txn_found h t (Some n) some none = some

pub has_number : (h : List Event) (t : ℕ) (found : Option ℕ) → MatchOption found (¬ HasEvent h t) (λ n. slice_get (txns_of h) n ≡ Some t) → HasEvent h t → slice_get (txns_of h) (unwrap_or found 0) ≡ Some t
has_number h t (Some n) at has = at
has_number h t None none has = absurd (none has)
