-- The transactions of a log, counted by how they ended, one after another.
use Rattle.std.proofs.Common.{◌≡◌, ◌⊎◌, inl, inr, ℕ, zero, suc, ◌+◌, ◌<◌, ◌≤◌, List, [], ◌∷◌, Some, length, slice_get, refl, ap, sym, subst, ◌∙◌, arith}
use Rattle.std.specs.Prelude.{◌↔◌, All, AllPairs, Contains, slice_index_or}
use Rattle.std.proofs.lemmas.Bool.{cases_eq, cases_lt}
use Rattle.std.proofs.lemmas.List.Elements.{Contains-get_or}
use Rattle.std.proofs.lemmas.List.Kept.{AllPairs-cons}
use Rattle.std.proofs.lemmas.Option.{slice_get_within}
use Rattle.sia_events.specs.declared.event.Event.{Event}
use Rattle.sia_events.specs.Lists.{CountsAll, Precedes}
use Rattle.sia_events.specs.Numbering.{txns_of}
use Rattle.sia_events.specs.Transactions.{HasEvent}
use Rattle.sia_index.proofs.Shared.LogNames.{event_has_number, txns_stand_once}
use Rattle.sia_index.proofs.Shared.NumberedNames.{same_some}

abbrev Before : ℕ → ℕ → Type 0
Before x y = Precedes (x ∷ []) (y ∷ [])

first_or_later : (x z : ℕ) (xs : List ℕ) → Contains (x ∷ xs) z → (x ≡ z) ⊎ Contains xs z
first_or_later x z xs (zero, below, is) = inl is
first_or_later x z xs (suc k, below, is) = inr (k, omega arith, is)

later : (x z : ℕ) (xs : List ℕ) → Contains xs z → Contains (x ∷ xs) z
later x z xs c = (suc c.0, omega arith, c.2)

-- a list with one number more
pub record HasMore (x : ℕ) (xs ys : List ℕ) : Type 0 where
  pub ascending : AllPairs Before ys
  pub each : (z : ℕ) → Contains ys z ↔ (Contains xs z ⊎ (x ≡ z))
  pub long : length ys ≡ length xs + 1

-- a new number has its place in an ascending list
one_more : (x : ℕ) (xs : List ℕ) → AllPairs Before xs → ¬ Contains xs x → (ys : List ℕ) × HasMore x xs ys
one_more x [] up new = (
  x ∷ [],
  record {
    ascending = λ i j d less below. absurd (omega arith);
    each = λ z. ((λ c. elim (first_or_later x z [] c) [ inl e ↦ inr e | inr c ↦ inl c ]), (λ e. elim e [ inl c ↦ later x z [] c | inr e ↦ (0, omega arith, e) ]));
    long = refl;
  },
)
one_more x (y ∷ ys) up new = elim (cases_lt x y) [
  | inl less ↦ (
    x ∷ y ∷ ys,
    record {
      ascending = AllPairs-cons Before x (y ∷ ys) (front less) up;
      each = λ z. ((λ c. elim (first_or_later x z (y ∷ ys) c) [ inl e ↦ inr e | inr c ↦ inl c ]), (λ e. elim e [ inl c ↦ later x z (y ∷ ys) c | inr e ↦ (0, omega arith, e) ]));
      long = omega arith;
    },
  )
  | inr more ↦
      let rest = one_more x ys (λ i j d less below. up (suc i) (suc j) d (omega arith) (omega arith)) (λ c. new (later y x ys c)) in (
        y ∷ rest.0,
        record {
          ascending = AllPairs-cons Before y rest.0 (λ k d below. behind more rest.1 (slice_index_or rest.0 k d) (Contains-get_or rest.0 k d below)) rest.1.ascending;
          each = λ z. (
            (λ c. elim (first_or_later y z rest.0 c) [ inl e ↦ inl (0, omega arith, e) | inr c ↦ elim ((rest.1.each z).0 c) [ inl c ↦ inl (later y z ys c) | inr e ↦ inr e ] ]),
            (λ e. elim e [
              | inl c ↦ elim (first_or_later y z ys c) [ inl e ↦ (0, omega arith, e) | inr c ↦ later y z rest.0 ((rest.1.each z).1 (inl c)) ]
              | inr e ↦ later y z rest.0 ((rest.1.each z).1 (inr e))
            ]),
          );
          long = omega (arith, rest.1.long);
        },
      )
]
  where
    front : x < y → All (Before x) (y ∷ ys)
    front less zero d below = inl less
    front less (suc k) d below = elim (up 0 (suc k) d (omega arith) below) [ inl under ↦ inl (omega arith) | inr never ↦ absurd never.1 ]

    behind : y ≤ x → {zs : List ℕ} → HasMore x ys zs → (z : ℕ) → Contains zs z → Before y z
    behind more has z c = elim ((has.each z).0 c) [
      | inl old ↦ subst (Before y) old.2 (up 0 (suc old.0) z (omega arith) (let b = old.1 in omega arith))
      | inr same ↦ elim (cases_lt y x) [ inl less ↦ inl (omega arith) | inr most ↦ absurd (new (0, omega arith, (let e : y ≡ x = omega arith in e))) ]
    ]

-- t is one of the first n transactions of a log, and has K
abbrev pub IsEarly : List Event → (ℕ → Type 0) → ℕ → ℕ → Type 0
IsEarly h K n t = (q : ℕ) × (q < n) × (slice_get (txns_of h) q ≡ Some t) × K t

module _ (h : List Event) (K : ℕ → Type 0) where
  pub counted_none : CountsAll (IsEarly h K 0) 0
  counted_none = ([], record { ascending = λ i j d less below. absurd (omega arith); each = λ t. ((λ c. absurd (let b = c.1 in omega arith)), (λ is. absurd (let b = is.1 in omega arith))) }, refl)

  module _ (n t count : ℕ) (here : slice_get (txns_of h) n ≡ Some t) (so : CountsAll (IsEarly h K n) count) where
    earlier : (z : ℕ) → IsEarly h K n z → IsEarly h K (n + 1) z
    earlier z is = (is.0, (let b = is.1 in omega arith), is.2, is.3)

    next : (z : ℕ) → IsEarly h K (n + 1) z → IsEarly h K n z ⊎ ((t ≡ z) × K z)
    next z (q, below, at, has) = elim (cases_eq q n) [
      | inl same ↦ inr (same_some t z (sym here ∙ ap (slice_get (txns_of h)) (sym same) ∙ at), has)
      | inr other ↦ inl (q, omega arith, at, has)
    ]

    pub counted_more : K t → CountsAll (IsEarly h K (n + 1)) (count + 1)
    counted_more has =
        let more = one_more t so.0 so.1.ascending (λ c. let is = (so.1.each t).0 c in let same = txns_stand_once h is.0 n t is.2 here in let below = is.1 in absurd (omega arith)) in (
          more.0,
          record {
            ascending = more.1.ascending;
            each = λ z. (
              (λ c. elim ((more.1.each z).0 c) [ inl old ↦ earlier z ((so.1.each z).0 old) | inr same ↦ subst (IsEarly h K (n + 1)) same (n, omega arith, here, has) ]),
              (λ is. (more.1.each z).1 (elim (next z is) [ inl old ↦ inl ((so.1.each z).1 old) | inr own ↦ inr own.0 ])),
            );
          },
          omega (arith, more.1.long, so.2),
        )

    pub counted_same : ¬ K t → CountsAll (IsEarly h K (n + 1)) count
    counted_same none = (
      so.0,
      record {
        ascending = so.1.ascending;
        each = λ z. (
          (λ c. earlier z ((so.1.each z).0 c)),
          (λ is. (so.1.each z).1 (elim (next z is) [ inl old ↦ old | inr own ↦ absurd (none (subst K (sym own.0) own.1)) ])),
        );
      },
      so.2,
    )

  -- all of them
  pub counted_all : (n count : ℕ) → length (txns_of h) ≤ n → ((t : ℕ) → K t → HasEvent h t) → CountsAll (IsEarly h K n) count → CountsAll K count
  counted_all n count all acts so = (
    so.0,
    record {
      ascending = so.1.ascending;
      each = λ t. (
        (λ c. ((so.1.each t).0 c).3),
        (λ has. (so.1.each t).1 (let number = event_has_number h t (acts t has) in (number.0, (let within = slice_get_within (txns_of h) number.0 t number.1 in omega arith), number.1, has))),
      );
    },
    so.2,
  )
