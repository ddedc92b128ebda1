-- What can be told of a read, of any list of events: whether it saw a version of a key; and it saw one of each key that it covers.
use Rattle.std.proofs.Common.{◌≡◌, ◌⊎◌, inl, inr, ℕ, suc, ◌<◌, ◌≤◌, List, [], ◌∷◌, length, Option, Some, None, refl, ap, sym, subst, ◌∙◌, arith}
use Rattle.std.specs.Prelude.{Contains}
use Rattle.std.proofs.lemmas.Bool.{cases_lt, cases_eq}
use Rattle.sia_events.specs.declared.event.Event.{Event}
use Rattle.sia_events.specs.declared.event.Event.TheVariants.{Read, Range}
use Rattle.sia_events.specs.Places.{at_place}
use Rattle.sia_events.specs.Events.{actor, Saw}
use Rattle.sia_events.specs.Reads.{SawAt}
use Rattle.sia_events.proofs.Shared.Decisions.{all_three, Decided, both, same_pair}
use Rattle.sia_events.proofs.Shared.Starts.{one_event}

-- the first of a list, or one of the rest
pub contains_cases : {A : Type 0} (x z : A) (xs : List A) → Contains (x ∷ xs) z → (x ≡ z) ⊎ Contains xs z
contains_cases x z xs h = grind (arith)

pub contains_later : {A : Type 0} (x z : A) (xs : List A) → Contains xs z → Contains (x ∷ xs) z
contains_later x z xs c = (suc c.0, (let below : c.0 < length xs = c.1 in omega arith), c.2)

-- whether a list holds a pair
pub contains_or_not : (listed : List (ℕ × ℕ)) (p : ℕ × ℕ) → Decided (Contains listed p)
contains_or_not [] p = inr (λ c. let below = c.1 in omega arith)
contains_or_not (q ∷ listed) p = elim (same_pair q p) [
  | inl same ↦ inl (0, omega arith, same)
  | inr other ↦ elim (contains_or_not listed p) [
    | inl later ↦ inl (contains_later q p listed later)
    | inr none ↦ inr (λ c. elim (contains_cases q p listed c) [ inl same ↦ other same | inr later ↦ none later ])
  ]
]

-- the version at which a key is listed, or none
pub listed_or_not : (listed : List (ℕ × ℕ)) (k : ℕ) → ((v : ℕ) × Contains listed (k, v)) ⊎ ((v : ℕ) → ¬ Contains listed (k, v))
listed_or_not [] k = inr (λ v c. let below = c.1 in omega arith)
listed_or_not (q ∷ listed) k = elim (cases_eq q.0 k) [
  | inl same ↦ inl (q.1, (0, omega arith, λ i. (same i, q.1)))
  | inr other ↦ elim (listed_or_not listed k) [
    | inl later ↦ inl (later.0, contains_later q (k, later.0) listed later.1)
    | inr none ↦ inr (λ v c. elim (contains_cases q (k, v) listed c) [ inl same ↦ other (ap (λ (p : ℕ × ℕ). p.0) same) | inr later ↦ none v later ])
  ]
]

at_most_or_not : (m n : ℕ) → Decided (m ≤ n)
at_most_or_not m n = elim (cases_lt n m) [ inl less ↦ inr (λ most. omega arith) | inr most ↦ inl most ]

-- what a range read says of a key that it covers: listed at the version, or not listed, at version 0
abbrev IsListedAt : List (ℕ × ℕ) → ℕ → ℕ → Type 0
IsListedAt listed k v = Contains listed (k, v) ⊎ (((u : ℕ) → ¬ Contains listed (k, u)) × (v ≡ 0))

-- whether an event saw a version of a key
pub saw_or_not : (e : Event) (k v : ℕ) → Decided (Saw e k v)
saw_or_not (Read t key saw) k v = both (k ≡ key) (v ≡ saw) (cases_eq k key) (cases_eq v saw)
saw_or_not (Range t lo hi listed) k v = all_three (lo ≤ k) (k ≤ hi) (IsListedAt listed k v) (at_most_or_not lo k) (at_most_or_not k hi) (listed_at (contains_or_not listed (k, v)) (listed_or_not listed k) (cases_eq v 0))
  where
    listed_at : Decided (Contains listed (k, v)) → ((u : ℕ) × Contains listed (k, u)) ⊎ ((u : ℕ) → ¬ Contains listed (k, u)) → Decided (v ≡ 0) → Decided (IsListedAt listed k v)
    listed_at (inl has) l z = inl (inl has)
    listed_at (inr lacks) (inl other) z = inr (λ s. elim s [ inl has ↦ lacks has | inr none ↦ none.0 other.0 other.1 ])
    listed_at (inr lacks) (inr none) (inl least) = inl (inr (none, least))
    listed_at (inr lacks) (inr none) (inr more) = inr (λ s. elim s [ inl has ↦ lacks has | inr unlisted ↦ more unlisted.1 ])
saw_or_not _ k v = inr (λ s. s)

-- whether a transaction saw a version of a key at a place
pub saw_at_or_not : (h : List Event) (p t k v : ℕ) → Decided (SawAt h p t k v)
saw_at_or_not h p t k v = of_place (at_place h p) refl
  where
    of_place : (o : Option Event) → at_place h p ≡ o → Decided (SawAt h p t k v)
    of_place None is = inr (λ s. let at : at_place h p ≡ Some s.0 = s.1 in cc)
    of_place (Some e) is = elim (both (actor e ≡ t) (Saw e k v) (cases_eq (actor e) t) (saw_or_not e k v)) [
      | inl b ↦ inl (e, is, b.0, b.1)
      | inr other ↦ inr (λ s.
          let same : s.0 ≡ e = one_event h p p s.0 e refl s.1 is in
          other (ap actor (sym same) ∙ s.2, subst (λ f. Saw f k v) same s.3))
    ]
