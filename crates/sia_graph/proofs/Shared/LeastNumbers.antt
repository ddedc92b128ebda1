-- Least numbers, and the two least.
use Rattle.std.proofs.Common.{◌≡◌, ◌≢◌, ◌⊎◌, inl, inr, ℕ, ◌+◌, ◌<◌, ◌≤◌, List, get_or, length, min, refl, take, arith, rules}
use Rattle.std.proofs.lemmas.Bool.{cases_lt, cases_eq, cases_order}
use Rattle.sia_parts.specs.Sights.{FromSome}
use Rattle.sia_parts.proofs.Shared.Adding.{first_more}
use Rattle.sia_graph.specs.declared.twos.Two.{Two}
use Rattle.sia_graph.specs.Twos.{IsLeastNumber, IsTwo, IsWith}

-- what has the same numbers has the same least
pub least_same : (P Q : ℕ → Type 0) (r : ℕ) → ((q : ℕ) → P q → Q q) → ((q : ℕ) → Q q → P q) → IsLeastNumber P r → IsLeastNumber Q r
least_same P Q r p s u = grind arith

-- nothing has a number
pub least_none : (P : ℕ → Type 0) → ((q : ℕ) → ¬ P q) → IsLeastNumber P 4294967295
least_none P none = inr (refl, none)

-- nothing yet
pub two_none : (P : ℕ → Type 0) → ((q : ℕ) → ¬ P q) → IsTwo P (record { least = 4294967295; next = 4294967295 })
two_none P none = (least_none P none, least_none _ (λ q is. none q is.0))

pub two_same : (P Q : ℕ → Type 0) (two : Two) → ((q : ℕ) → P q → Q q) → ((q : ℕ) → Q q → P q) → IsTwo P two → IsTwo Q two
two_same P Q two to back is = grind (arith, least_same)

-- a least number is none, or less
pub least_bound : (P : ℕ → Type 0) → ((q : ℕ) → P q → q < 4294967295) → (r : ℕ) → IsLeastNumber P r → r ≤ 4294967295
least_bound P p r s = grind arith

pub no_less : (P : ℕ → Type 0) (r q : ℕ) → IsLeastNumber P r → P q → r ≤ q
no_less P r q p s = grind arith

-- what is no greater than each, and is there if it is less than none
pub least_by : (P : ℕ → Type 0) → ((q : ℕ) → P q → q < 4294967295) → (r : ℕ) → r ≤ 4294967295 → (r < 4294967295 → P r) → ((q : ℕ) → P q → r ≤ q) → IsLeastNumber P r
least_by P few r bound there low = grind (arith, cases_lt)

pub there_if : (P : ℕ → Type 0) (r : ℕ) → IsLeastNumber P r → r < 4294967295 → P r
there_if P r p q = grind arith

-- of both the lesser one, where neither is above none
pub least_join : (P Q R : ℕ → Type 0) (p q : ℕ) → p ≤ 4294967295 → q ≤ 4294967295 → ((r : ℕ) → P r → R r) → ((r : ℕ) → Q r → R r) → ((r : ℕ) → R r → P r ⊎ Q r)
    → IsLeastNumber P p → IsLeastNumber Q q → IsLeastNumber R (min p q)
least_join P Q R p q s u v w x y z = grind (arith, cases_lt)

-- the same of numbers that are less than none
pub least_either : (P Q R : ℕ → Type 0) (p q : ℕ) → ((r : ℕ) → R r → r < 4294967295) → ((r : ℕ) → P r → R r) → ((r : ℕ) → Q r → R r) → ((r : ℕ) → R r → P r ⊎ Q r)
    → IsLeastNumber P p → IsLeastNumber Q q → IsLeastNumber R (min p q)
least_either P Q R p q few pr qr rs a b = grind (arith, least_join, least_bound)

-- the least but one's own
pub other_of : (P : ℕ → Type 0) (two : Two) (me r : ℕ) → (two.least ≡ me → r ≡ two.next) → (two.least ≢ me → r ≡ two.least) → IsTwo P two → IsLeastNumber (λ q. P q × (q ≢ me)) r
other_of P two me r own another is = grind (arith, cases_eq)

-- of each of some things a least number: those of the first n, and of one more
pub first_least : {A : Type 0} (T : A → ℕ → Type 0) (xs : List A) (n : ℕ) (d : A) (least new : ℕ) → n < length xs → least ≤ 4294967295 → new ≤ 4294967295 → IsLeastNumber (FromSome T (take n xs)) least → IsLeastNumber (T (get_or xs n d)) new
    → IsLeastNumber (FromSome T (take (n + 1) xs)) (min least new)
first_least T xs n d least new within bound below first here =
    least_join (FromSome T (take n xs)) (T (get_or xs n d)) (FromSome T (take (n + 1) xs)) least new bound below
    (λ r is. (first_more T xs n d within r).0 (inl is)) (λ r is. (first_more T xs n d within r).0 (inr is)) (λ r is. (first_more T xs n d within r).1 is) first here

module _ (P : ℕ → Type 0) (few : (q : ℕ) → P q → q < 4294967295) where
  -- one more number
  module _ (Q : ℕ → Type 0) (rank : ℕ) (bound : rank ≤ 4294967295) (to : (q : ℕ) → P q → Q q) (one : rank < 4294967295 → Q rank)
      (back : (q : ℕ) → Q q → P q ⊎ (q ≡ rank)) (below : (q : ℕ) → Q q → q < 4294967295) (two : Two) (is : IsTwo P two) where
    -- what is no greater than the least and the number
    low_both : (r : ℕ) → r ≤ two.least → r ≤ rank → (q : ℕ) → Q q → r ≤ q
    low_both r a b q has = elim (back q has) [ inl old ↦ let f = no_less P _ q is.0 old in omega arith | inr new ↦ omega arith ]

    -- the same of the next one
    low_next : (r : ℕ) → r ≤ two.next → r ≤ rank → (q : ℕ) → Q q → q ≢ two.least → r ≤ q
    low_next r a b q has differs = elim (back q has) [ inl old ↦ let f = no_less _ _ q is.1 (old, differs) in omega arith | inr new ↦ omega arith ]

    new_least : (r : ℕ) → ((r ≡ rank) × (rank ≤ two.least)) ⊎ ((r ≡ two.least) × (two.least ≤ rank)) → IsLeastNumber Q r
    new_least r p = grind (arith, least_by, low_both, least_bound, there_if)

    next_bound : two.next ≤ 4294967295
    next_bound = least_bound (λ r. P r × (r ≢ two.least)) (λ q a. few q a.0) two.next is.1

    -- the number is the least now
    two_less : rank < two.least → IsTwo Q (record { least = rank; next = two.least })
    two_less less = grind (arith, least_bound, new_least, least_by, there_if, no_less)

    -- the number is the next one now
    two_between : two.least < rank → rank < two.next → IsTwo Q (record { least = two.least; next = rank })
    two_between more less = grind (arith, next_bound, new_least, least_by, low_next)

    -- the two stay
    two_stay : two.least ≤ rank → (rank ≡ two.least) ⊎ (two.next ≤ rank) → IsTwo Q two
    two_stay p q = grind (arith, new_least, least_by, next_bound, there_if, no_less, low_next)

    -- what `with` gives
    pub two_with : (new : Two)
        → (rank < two.least → (new.least ≡ rank) × (new.next ≡ two.least))
        → (two.least < rank → rank < two.next → (new.least ≡ two.least) × (new.next ≡ rank))
        → (two.least ≤ rank → (rank ≡ two.least) ⊎ (two.next ≤ rank) → new ≡ two)
        → IsTwo Q new
    two_with new less between same = grind (arith, cases_order, two_stay, two_less, cases_lt, two_between)

-- the two least of either
module _ (P Q R : ℕ → Type 0) (few : (q : ℕ) → P q → q < 4294967295) (few_too : (q : ℕ) → Q q → q < 4294967295)
    (left : (q : ℕ) → P q → R q) (right : (q : ℕ) → Q q → R q) (either : (q : ℕ) → R q → P q ⊎ Q q) where
  abbrev With : (ℕ → Type 0) → ℕ → ℕ → Type 0
  With S rank q = S q ⊎ ((q ≡ rank) × (q < 4294967295))

  one_with : (S : ℕ → Type 0) → ((q : ℕ) → S q → q < 4294967295) → (rank : ℕ) → rank ≤ 4294967295 → (two new : Two) → IsWith two rank new → IsTwo S two → IsTwo (With S rank) new
  one_with S below rank bound two new is has = grind (arith, two_with)

  pub two_merged : (a b mid new : Two) → IsWith a b.least mid → IsWith mid b.next new → IsTwo P a → IsTwo Q b → IsTwo R new
  two_merged a b mid new one two p q = search (rules, arith, one_with, least_bound, there_if, cases_eq, no_less)
