-- The places of rows by a number of each, which no other row has.
use Rattle.std.proofs.Common.{◌≡◌, ◌≢◌, inl, inr, ℕ, zero, suc, ◌+◌, ◌<◌, ◌≤◌, List, [], ◌∷◌, length, map, set, refl, sym, subst, ◌∙◌, ap, arith}
use Rattle.std.specs.Prelude.{All, AllPairs, Contains, replicate, slice_index, slice_index_or}
use Rattle.std.proofs.lemmas.Bool.{cases_lt, cases_eq}
use Rattle.std.proofs.lemmas.List.{get_or_default, get_or-map, get_or-replicate, length-map, length-replicate, length-set, get_or-set_same, get_or-set_other}
use Rattle.std.proofs.lemmas.List.Elements.{All-contains}
use Rattle.sia_index.specs.Tables.{ArePlaces}
use Rattle.sia_index.proofs.Sorting.Dealt.{holds_all}

numbers_below : ℕ → List ℕ
numbers_below zero = []
numbers_below (suc n) = n ∷ numbers_below n

below_length : (n : ℕ) → length (numbers_below n) ≡ n
unfolding numbers_below
below_length zero = refl
below_length (suc n) = ap suc (below_length n)

below_has : (n x : ℕ) → x < n → Contains (numbers_below n) x
unfolding numbers_below
below_has zero x less = absurd (omega arith)
below_has (suc n) x less = elim (cases_eq x n) [
  | inl same ↦ (0, omega arith, sym same)
  | inr other ↦ let c = below_has n x (omega arith) in (suc c.0, (let b = c.1 in omega arith), c.2)
]

-- distinct numbers below a count are at most as many
few_numbers : (xs : List ℕ) (n : ℕ) → AllPairs (λ x y. x ≢ y) xs → All (λ x. x < n) xs → length xs ≤ n
few_numbers xs n apart below = elim (cases_lt n (length xs)) [
  | inl more ↦
      let long = below_length (suc n) in
      let there = holds_all xs (numbers_below (suc n)) apart (λ k d b. below_has (suc n) (slice_index_or xs k d) (let less = below k d b in omega arith)) (omega arith) n (below_has (suc n) n (omega arith)) in
      let never : n < n = All-contains (λ x. x < n) xs n below there in
      absurd (omega arith)
  | inr enough ↦ enough
]

pub few_rows : {A : Type 0} (number : A → ℕ) (rows : List A) (count : ℕ) → AllPairs (λ x y. number x ≢ number y) rows → All (λ row. number row < count) rows → length rows ≤ count
few_rows number [] count apart below = omega arith
few_rows number (r ∷ rest) count apart below =
    let rows = r ∷ rest in
    let long = length-map rows number in
    let at : (i d : ℕ) → i < length rows → slice_index_or (map number rows) i d ≡ number (slice_index_or rows i r) = λ i d b. get_or-map number rows i r d b in
    let few = few_numbers (map number rows) count
    (λ i j d less b same. apart i j r less (omega arith) (sym (at i d (omega arith)) ∙ same ∙ at j d (omega arith)))
    (λ k d b. let is = at k d (omega arith) in let less = below k r (omega arith) in omega arith) in
    omega arith

-- the places of the first n rows
pub record PlacesSoFar {A : Type 0} (number : A → ℕ) (rows : List A) (n count : ℕ) (places : List ℕ) : Type 0 where
  pub long : length places ≡ count
  pub each : (i : ℕ) (d : A) → i < n → slice_index places (number (slice_index_or rows i d)) ≡ i
  pub only : (q : ℕ) (d : A) → q < count → slice_index places q < length rows → (slice_index places q < n) × (number (slice_index_or rows (slice_index places q) d) ≡ q)

module _ {A : Type 0} (number : A → ℕ) (rows : List A) (count : ℕ) where
  pub places_none : (none : ℕ) → length rows ≤ none → (places : List ℕ) → places ≡ replicate count none → PlacesSoFar number rows 0 count places
  places_none none behind places is = record {
    long = ap length is ∙ length-replicate count none;
    each = λ i d less. absurd (omega arith);
    only = λ q d inside found. let at : slice_index places q ≡ none = ap (λ xs. slice_index xs q) is ∙ get_or-replicate count q none 0 inside in absurd (omega arith);
  }

  module _ (apart : AllPairs (λ x y. number x ≢ number y) rows) (below : All (λ row. number row < count) rows) (n : ℕ) (places : List ℕ) (so : PlacesSoFar number rows n count places) where
    pub places_more : (q : ℕ) (r : A) → n < length rows → q ≡ number (slice_index_or rows n r) → PlacesSoFar number rows (n + 1) count (set places q n)
    places_more q r some is =
        let here : q < length places = (let less = below n r some in omega (arith, so.long)) in
        let own : (d : A) → number (slice_index_or rows n d) ≡ q = λ d. ap number (get_or_default rows n d r some) ∙ sym is in
        let now : slice_index (set places q n) q ≡ n = get_or-set_same places q n 0 here in
        record {
          long = length-set places q n ∙ so.long;
          each = λ i d less. elim (cases_lt i n) [
            | inl before ↦ get_or-set_other places q (number (slice_index_or rows i d)) n 0 (λ same. apart i n d before some (same ∙ sym (own d))) ∙ so.each i d before
            | inr last ↦
                let at : n ≡ i = omega arith in
                subst (λ m. slice_index (set places q n) (number (slice_index_or rows m d)) ≡ m) at (ap (slice_index (set places q n)) (own d) ∙ now)
          ];
          only = λ p d inside found. elim (cases_eq p q) [
            | inl same ↦
                let place : n ≡ slice_index (set places q n) p = sym now ∙ ap (slice_index (set places q n)) (sym same) in
                (omega arith, subst (λ m. number (slice_index_or rows m d) ≡ p) place (own d ∙ sym same))
            | inr other ↦
                let place : slice_index places p ≡ slice_index (set places q n) p = sym (get_or-set_other places q p n 0 other) in
                let old = so.only p d inside (omega arith) in
                ((let less = old.0 in omega arith), subst (λ m. number (slice_index_or rows m d) ≡ p) place old.1)
          ];
        }

    pub places_all : n ≡ length rows → ArePlaces number rows count places
    places_all all = record {
      long = so.long;
      few = few_rows number rows count apart below;
      each = λ i d less. so.each i d (omega arith);
      only = λ q d inside found. (so.only q d inside found).1;
    }
