-- Where it can be told of each of finitely many things whether it has a property, a list holds those that have it, in order.
use Rattle.std.proofs.Common.{◌≡◌, ◌⊎◌, inl, inr, ℕ, suc, List, [], ◌∷◌, get_or, flat_map, sym, subst, ◌∙◌, arith, All, AllPairs, Contains, Some, map, refl}
use Rattle.std.proofs.lemmas.List.Concat.{flat_map-cons}
use Rattle.std.proofs.lemmas.List.Elements.{All-nil, All-cons, Contains-get_or, Contains-append_left, Contains-append_right}
use Rattle.std.proofs.lemmas.List.Kept.{AllPairs-cons}
use Rattle.sia_events.specs.Lists.{Precedes, ListsBy, ListsAscending}
use Rattle.sia_events.proofs.Shared.Decisions.{Decided}
use Rattle.sia_events.proofs.Worked.OneList.{Precedes-total}
use Rattle.sia_parts.proofs.Auditing.Members.{first_or_later, contains_first, contains_later, contains_none, first_before, later_pairs}
use Rattle.sia_graph.proofs.OfLaws.InOrder.{precedes_trans}
use Rattle.sia_events.specs.declared.event.Event.{Event}
use Rattle.sia_events.specs.declared.event.Event.TheVariants.{Commit}
use Rattle.sia_events.specs.Places.{at_place}
use Rattle.sia_events.specs.Events.{actor}
use Rattle.sia_events.specs.Transactions.{IsCommitted}
use Rattle.sia_parts.proofs.EdgeRows.Readings.{mapped}
use Rattle.sia_graph.proofs.Shared.Positions.{stands_contains}

-- what is made of a thing of a list is in the joined lists
pub contains_flat : {A B : Type 0} (f : A → List B) (xs : List A) (x : A) (y : B) → Contains xs x → Contains (f x) y → Contains (flat_map f xs) y
contains_flat f [] x y c d = absurd (contains_none x c)
contains_flat f (z ∷ xs) x y c d = subst (λ ys. Contains ys y) (sym (flat_map-cons f z xs)) (elim (first_or_later z x xs c) [
  | inl same ↦ Contains-append_left (f z) (flat_map f xs) y (subst (λ w. Contains (f w) y) (sym same) d)
  | inr later ↦ Contains-append_right (f z) (flat_map f xs) y (contains_flat f xs x y later d)
])

-- ranks tell the things apart
module _ {A : Type 0} (rank : A → List ℕ) (tells : (x y : A) → rank x ≡ rank y → x ≡ y) where
  abbrev Before : A → A → Type 0
  Before x y = Precedes (rank x) (rank y)

  -- the same list with one more thing at its place
  abbrev HasInserted : A → List A → Type 0
  HasInserted x ys = (zs : List A) × AllPairs Before zs × ((z : A) → Contains zs z → (x ≡ z) ⊎ Contains ys z) × ((z : A) → (x ≡ z) ⊎ Contains ys z → Contains zs z)

  at_front : (x : A) (ys : List A) → All (Before x) ys → AllPairs Before ys → HasInserted x ys
  at_front x ys before up = (x ∷ ys, AllPairs-cons Before x ys before up, λ z. first_or_later x z ys, λ z e. elim e [ inl same ↦ subst (Contains (x ∷ ys)) same (contains_first x ys) | inr c ↦ contains_later x z ys c ])

  behind : (x y : A) (ys : List A) → Before y x → AllPairs Before (y ∷ ys) → HasInserted x ys → HasInserted x (y ∷ ys)
  behind x y ys before up (zs, rise, from, into) = (
    y ∷ zs,
    AllPairs-cons Before y zs (λ k d below. after (get_or zs k d) (from (get_or zs k d) (Contains-get_or zs k d below))) rise,
    λ z c. elim (first_or_later y z zs c) [
      | inl same ↦ inr (subst (Contains (y ∷ ys)) same (contains_first y ys))
      | inr later ↦ elim (from z later) [ inl is ↦ inl is | inr there ↦ inr (contains_later y z ys there) ]
    ],
    λ z e. elim e [
      | inl is ↦ contains_later y z zs (into z (inl is))
      | inr c ↦ elim (first_or_later y z ys c) [ inl same ↦ subst (Contains (y ∷ zs)) same (contains_first y zs) | inr later ↦ contains_later y z zs (into z (inr later)) ]
    ],
  )
    where
      after : (z : A) → (x ≡ z) ⊎ Contains ys z → Before y z
      after z (inl same) = subst (Before y) same before
      after z (inr c) = first_before Before y z ys up c

  insert : (x : A) (ys : List A) → AllPairs Before ys → HasInserted x ys
  insert x [] up = at_front x [] (All-nil (Before x)) up
  insert x (y ∷ ys) up = elim (Precedes-total (rank x) (rank y)) [
    | inl e ↦ let same = tells x y e in (y ∷ ys, up, λ z c. inr c, λ z e. elim e [ inl is ↦ subst (Contains (y ∷ ys)) (sym same ∙ is) (contains_first y ys) | inr c ↦ c ])
    | inr (inl less) ↦ at_front x (y ∷ ys) (All-cons (Before x) y ys less (λ k d below. precedes_trans (rank x) (rank y) (rank (get_or ys k d)) less (up 0 (suc k) d (omega arith) (omega arith)))) up
    | inr (inr more) ↦ behind x y ys more up (insert x ys (later_pairs Before y ys up))
  ]

  module _ (P : A → Type 0) (decide : (x : A) → Decided (P x)) where
    among : (xs : List A) → (ys : List A) × AllPairs Before ys × ((y : A) → Contains ys y → P y) × ((y : A) → Contains xs y → P y → Contains ys y)
    among [] = ([], λ i j d less below. absurd (omega arith), λ y c. absurd (contains_none y c), λ y c p. c)
    among (x ∷ xs) = let rest = among xs in elim (decide x) [
      | inl has ↦
          let more = insert x rest.0 rest.1 in (
            more.0,
            more.1,
            λ y c. elim (more.2 y c) [ inl same ↦ subst P same has | inr there ↦ rest.2 y there ],
            λ y c p. more.3 y (elim (first_or_later x y xs c) [ inl same ↦ inl same | inr later ↦ inr (rest.3 y later p) ]),
          )
      | inr fails ↦ (rest.0, rest.1, rest.2, λ y c p. elim (first_or_later x y xs c) [ inl same ↦ absurd (fails (subst P (sym same) p)) | inr later ↦ rest.3 y later p ])
    ]

    -- the list of what has P, where all that has it is among these
    pub list_of : (xs : List A) → ((x : A) → P x → Contains xs x) → (ys : List A) × ListsBy rank P ys
    list_of xs all = let ys = among xs in (ys.0, record { ascending = ys.1; each = λ y. (ys.2 y, λ p. ys.3 y (all y p) p) })

pub event_in : (h : List Event) (p : ℕ) (e : Event) → at_place h p ≡ Some e → Contains h e
event_in h p e q = grind (arith, stands_contains)

-- the list of the committed transactions that have P
pub list_of_txns : (h : List Event) (P : ℕ → Type 0) → ((t : ℕ) → Decided (P t)) → ((t : ℕ) → P t → IsCommitted h t) → (ts : List ℕ) × ListsAscending P ts
list_of_txns h P decide committed = list_of (λ t. t ∷ []) (λ x y e. cc) P decide (map actor h) (λ t p. let c = committed t p in (mapped actor h t).1 (Commit t, event_in h c.0 (Commit t) c.1, refl))
