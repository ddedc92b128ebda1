-- The pair of a key in a list of pairs whose keys ascend: what a search finds, and what is left of the list.
use Rattle.std.proofs.Common.{◌≡◌, ◌≢◌, inl, inr, ℕ, zero, suc, ◌+◌, ◌<◌, ◌≤◌, true, false, Bool, List, [], ◌∷◌, map, length, get_or, Err, refl, ap, sym, ◌∙◌, arith}
use Rattle.std.specs.Prelude.{AllPairs, Contains, filter, ◌==◌}
use Rattle.std.specs.List.{HoldsAt}
use Rattle.std.specs.Ordering.{nat_cmp, is_lt}
use Rattle.std.specs.declared.cmp.Ordering.TheVariants.{Less, Equal, Greater}
use Rattle.std.specs.List.Sorted.{IsStrictlyIncreasing, IsBinarySearchResult}
use Rattle.std.proofs.lemmas.Bool.{cases_lt, cases_order, eq-eqb, ne_eqb}
use Rattle.std.proofs.lemmas.Bool.Decides.{nat_tests}
use Rattle.std.proofs.lemmas.Cmp.{ranked, nat_cmp_total}
use Rattle.std.proofs.lemmas.List.{get_or-map, get_or_default, length-map}
use Rattle.std.proofs.lemmas.List.Kept.{AllPairs-from_increasing}
use Rattle.std.proofs.lemmas.List.Sorted.{searchable_from_sorted}

-- where no element passes, none is kept
none_kept : {X : Type 0} (test : X → Bool) (xs : List X) → ((i : ℕ) (d : X) → i < length xs → test (get_or xs i d) ≡ false) → filter test xs ≡ []
none_kept test [] fails = refl
none_kept test (x ∷ xs) fails =
    let first : test x ≡ false = fails 0 x (omega arith) in
    rw (first, none_kept test xs (λ i d below. fails (suc i) d (omega arith))) refl

-- where the element at one place alone passes, it is kept alone
one_kept : {X : Type 0} (test : X → Bool) (xs : List X) (i : ℕ) (d : X) → i < length xs → test (get_or xs i d) ≡ true → ((j : ℕ) (e : X) → j < length xs → j ≢ i → test (get_or xs j e) ≡ false) → filter test xs ≡ get_or xs i d ∷ []
one_kept test [] i d below passes fails = absurd (omega arith)
one_kept test (x ∷ xs) zero d below passes fails =
    rw (passes, none_kept test xs (λ j e under. fails (suc j) e (omega arith) (omega arith))) refl
one_kept test (x ∷ xs) (suc i) d below passes fails =
    let first : test x ≡ false = fails 0 x (omega arith) (omega arith) in
    rw first (one_kept test xs i d (omega arith) passes (λ j e under differ. fails (suc j) e (omega arith) (omega arith)))

not_less : (a b : ℕ) → a < b → is_lt (nat_cmp b a) ≡ false
not_less a b below = grind (arith, nat_tests)

module _ (listed : List (ℕ × ℕ)) (up : IsStrictlyIncreasing (map (λ pair. pair.0) listed)) where
  -- a later key is greater
  later : (i j : ℕ) (d e : ℕ × ℕ) → i < j → j < length listed → (get_or listed i d).0 < (get_or listed j e).0
  later i j d e less below =
      let long : j < length (map (λ (p : ℕ × ℕ). p.0) listed) = omega (arith, length-map listed (λ (p : ℕ × ℕ). p.0)) in
      let keys = AllPairs-from_increasing (map (λ p. p.0) listed) up i j 0 less long in
      omega (arith, keys, get_or-map (λ (p : ℕ × ℕ). p.0) listed i d 0 (omega arith), get_or-map (λ (p : ℕ × ℕ). p.0) listed j e 0 below)

  module _ (k : ℕ) where
    -- what has the key is listed with it
    listed_at : (i : ℕ) (d : ℕ × ℕ) → i < length listed → (get_or listed i d).0 ≡ k → Contains listed (k, (get_or listed i d).1)
    listed_at i d below same = (i, below, get_or_default listed i (k, (get_or listed i d).1) d below ∙ (λ j. (same j, (get_or listed i d).1)))

    -- what a search by key finds
    pub found_pair : (i : ℕ) → i < length listed → HoldsAt (λ y. nat_cmp y.0 k ≡ Equal) listed i → (d : ℕ × ℕ) → Contains listed (k, (get_or listed i d).1)
    found_pair i below at d = listed_at i d below (ranked (get_or listed i d).0 k Equal (sym (at d)))

    pub found_none : (i : ℕ) → IsBinarySearchResult (λ y. nat_cmp y.0 k) listed (Err i) → (v : ℕ) → ¬ Contains listed (k, v)
    found_none i search v c =
        let parts = search (searchable_from_sorted nat_cmp_total (λ (p : ℕ × ℕ). p.0) listed k (λ n d low below. not_less (get_or listed n d).0 (get_or listed (n + 1) d).0 (later n (n + 1) d d (omega arith) below))) in
        let key : ℕ = (get_or listed c.0 (k, v)).0 in
        let same : key ≡ k = ap (λ (p : ℕ × ℕ). p.0) c.2 in
        elim (cases_lt c.0 i) [
          | inl before ↦ let less : key < k = ranked key k Less (sym (parts.0 c.0 (k, v) (omega arith) before)) in omega arith
          | inr after ↦ let more : k < key = ranked key k Greater (sym (parts.1 c.0 (k, v) after c.1)) in omega arith
        ]

    -- what is left of the list
    pub kept_none : ((v : ℕ) → ¬ Contains listed (k, v)) → filter (λ pair. pair.0 == k) listed ≡ []
    kept_none lacks = none_kept (λ pair. pair.0 == k) listed (λ i d below. ne_eqb (get_or listed i d).0 k (λ same. lacks (get_or listed i d).1 (listed_at i d below same)))

    pub kept_one : (v : ℕ) → Contains listed (k, v) → filter (λ pair. pair.0 == k) listed ≡ (k, v) ∷ []
    kept_one v c = grind (arith, one_kept, eq-eqb, ne_eqb, later)

-- pairs by number, and the place before which their keys are below k, and from which they aren't
module _ (f : ℕ → ℕ × ℕ) (pairs : List ℕ) (listed : List (ℕ × ℕ)) (is : map f pairs ≡ listed) (k at : ℕ) (under : (i d : ℕ) → i < at → (f (get_or pairs i d)).0 < k) where
  -- the number of what is listed
  numbered : (v : ℕ) (c : Contains listed (k, v)) → (c.0 < length pairs) × (f (get_or pairs c.0 0) ≡ (k, v))
  numbered v c = grind (arith, length-map, get_or-map)

  pub none_behind : length pairs ≤ at → (v : ℕ) → ¬ Contains listed (k, v)
  none_behind all v c = grind (arith, numbered v c)

  pub none_there : AllPairs (λ p q. (f p).0 < (f q).0) pairs → at < length pairs → (q : ℕ × ℕ) → q ≡ f (get_or pairs at 0) → k ≤ (f (get_or pairs at 0)).0 → q.0 ≢ k → (v : ℕ) → ¬ Contains listed (k, v)
  none_there ascend room q is_there above other v c =
      let w = numbered v c in
      let same = ap (λ (q : ℕ × ℕ). q.0) w.1 in
      elim (cases_order c.0 at) [
        | inl is_at ↦ other (ap (λ (q : ℕ × ℕ). q.0) is_there ∙ ap (λ i. (f (get_or pairs i 0)).0) (sym is_at) ∙ same)
        | inr apart ↦ grind (arith)
      ]
