-- An order that keeps a relation, made by taking what is ready, one at a time.
use Rattle.std.proofs.Common.{◌≡◌, ◌≢◌, ◌⊎◌, inl, inr, ℕ, zero, suc, ◌<◌, ◌≤◌, List, [], ◌∷◌, length, refl, sym, subst, ◌∙◌, arith}
use Rattle.std.specs.Prelude.{⊤}
use Rattle.std.proofs.lemmas.Bool.{cases_eq}
use Rattle.sia_events.proofs.Shared.Decisions.{Decided}

-- t is a member of the list
abbrev pub In : ℕ → List ℕ → Type 0
In t [] = ⊥
In t (x ∷ xs) = (x ≡ t) ⊎ In t xs

-- t stands in the list, and u after it
abbrev pub IsAhead : ℕ → ℕ → List ℕ → Type 0
IsAhead t u [] = ⊥
IsAhead t u (x ∷ xs) = ((x ≡ t) × In u xs) ⊎ IsAhead t u xs

-- each member stands once
abbrev pub IsOnce : List ℕ → Type 0
IsOnce [] = ⊤
IsOnce (x ∷ xs) = ¬ In x xs × IsOnce xs

-- the list without t
abbrev without : ℕ → List ℕ → List ℕ
without t [] = []
without t (x ∷ xs) = elim (cases_eq x t) [ inl same ↦ without t xs | inr other ↦ x ∷ without t xs ]

without_other : (t y : ℕ) (xs : List ℕ) → In y (without t xs) → (t ≢ y) × In y xs
without_other t y [] i = absurd i
without_other t y (x ∷ xs) i = by_first (cases_eq x t) i (without_other t y xs)
  where
    by_first : (c : Decided (x ≡ t)) → In y (elim c [ inl same ↦ without t xs | inr other ↦ x ∷ without t xs ]) → (In y (without t xs) → (t ≢ y) × In y xs) → (t ≢ y) × ((x ≡ y) ⊎ In y xs)
    by_first (inl same) j rest = let w = rest j in (w.0, inr w.1)
    by_first (inr other) (inl e) rest = (λ s. other (e ∙ sym s), inl e)
    by_first (inr other) (inr j) rest = let w = rest j in (w.0, inr w.1)

in_without : (t y : ℕ) (xs : List ℕ) → t ≢ y → In y xs → In y (without t xs)
in_without t y [] n i = absurd i
in_without t y (x ∷ xs) n i = by_first (cases_eq x t) i (in_without t y xs n)
  where
    by_first : (c : Decided (x ≡ t)) → (x ≡ y) ⊎ In y xs → (In y xs → In y (without t xs)) → In y (elim c [ inl same ↦ without t xs | inr other ↦ x ∷ without t xs ])
    by_first (inl same) (inl e) rest = absurd (n (sym same ∙ e))
    by_first (inl same) (inr j) rest = rest j
    by_first (inr other) (inl e) rest = inl e
    by_first (inr other) (inr j) rest = inr (rest j)

no_longer : (t : ℕ) (xs : List ℕ) → length (without t xs) ≤ length xs
no_longer t [] = omega arith
no_longer t (x ∷ xs) = by_first (cases_eq x t) (no_longer t xs)
  where
    by_first : (c : Decided (x ≡ t)) → length (without t xs) ≤ length xs → length {A = ℕ} (elim c [ inl same ↦ without t xs | inr other ↦ x ∷ without t xs ]) ≤ suc (length xs)
    by_first (inl same) l = omega arith
    by_first (inr other) l = omega arith

shorter : (t : ℕ) (xs : List ℕ) → In t xs → length (without t xs) < length xs
shorter t [] i = absurd i
shorter t (x ∷ xs) i = by_first (cases_eq x t) i (shorter t xs)
  where
    by_first : (c : Decided (x ≡ t)) → (x ≡ t) ⊎ In t xs → (In t xs → length (without t xs) < length xs) → length {A = ℕ} (elim c [ inl same ↦ without t xs | inr other ↦ x ∷ without t xs ]) < suc (length xs)
    by_first (inl same) j rest = let l = no_longer t xs in omega arith
    by_first (inr other) (inl e) rest = absurd (other e)
    by_first (inr other) (inr j) rest = let l = rest j in omega arith

-- some member has P, or none has
member_decided : (P : ℕ → Type 0) → ((x : ℕ) → Decided (P x)) → (xs : List ℕ) → ((x : ℕ) × In x xs × P x) ⊎ ((x : ℕ) → In x xs → ¬ P x)
member_decided P decide [] = inr (λ x i p. absurd i)
member_decided P decide (x ∷ xs) = elim (decide x) [
  | inl p ↦ inl (x, inl refl, p)
  | inr fails ↦ elim (member_decided P decide xs) [
    | inl w ↦ inl (w.0, inr w.1, w.2)
    | inr none ↦ inr (λ y i p. elim i [ inl e ↦ fails (subst P (sym e) p) | inr j ↦ none y j p ])
  ]
]

module _ (Edge : ℕ → ℕ → Type 0) where
  -- a list whose members each have an edge from a member
  abbrev pub IsFed : List ℕ → Type 0
  IsFed xs = (t : ℕ) → In t xs → (s : ℕ) × In s xs × Edge s t

  abbrev HasReady : List ℕ → Type 0
  HasReady xs = (t : ℕ) × In t xs × ((s : ℕ) → In s xs → ¬ Edge s t)

  -- each member of xs once, and where an edge leads from a member to a member the first stands before the second
  pub record KeepsAmong (xs order : List ℕ) : Type 0 where
    pub into : (t : ℕ) → In t xs → In t order
    pub back : (t : ℕ) → In t order → In t xs
    pub once : IsOnce order
    pub kept : (t u : ℕ) → In t xs → In u xs → Edge t u → IsAhead t u order

  module _ (decide : (s t : ℕ) → Decided (Edge s t)) where
    -- some member is ready, unless the list is fed
    ready : (xs : List ℕ) → HasReady xs ⊎ IsFed xs
    ready xs = elim (member_decided (λ t. (s : ℕ) → In s xs → ¬ Edge s t) (λ t. is_ready t (member_decided (λ s. Edge s t) (λ s. decide s t) xs)) xs) [
      | inl w ↦ inl w
      | inr none ↦ inr (λ t i. fed t (member_decided (λ s. Edge s t) (λ s. decide s t) xs) (none t i))
    ]
      where
        is_ready : (t : ℕ) → ((s : ℕ) × In s xs × Edge s t) ⊎ ((s : ℕ) → In s xs → ¬ Edge s t) → Decided ((s : ℕ) → In s xs → ¬ Edge s t)
        is_ready t (inl w) = inr (λ none. none w.0 w.1 w.2)
        is_ready t (inr none) = inl none

        fed : (t : ℕ) → ((s : ℕ) × In s xs × Edge s t) ⊎ ((s : ℕ) → In s xs → ¬ Edge s t) → ¬ ((s : ℕ) → In s xs → ¬ Edge s t) → (s : ℕ) × In s xs × Edge s t
        fed t (inl w) n = w
        fed t (inr none) n = absurd (n none)

    -- t, which is ready in xs, before an order of the others
    put_first : (xs order : List ℕ) (t : ℕ) → In t xs → ((s : ℕ) → In s xs → ¬ Edge s t) → KeepsAmong (without t xs) order → KeepsAmong xs (t ∷ order)
    put_first xs order t i free k = grind (arith, cases_eq, in_without, without_other)

    -- where no part of the members is fed, an order of them keeps every edge among them
    module _ (M : ℕ → Type 0) (none_fed : (x : ℕ) (xs : List ℕ) → ((t : ℕ) → In t (x ∷ xs) → M t) → ¬ IsFed (x ∷ xs)) where
      order_within : (n : ℕ) (xs : List ℕ) → length xs < n → ((t : ℕ) → In t xs → M t) → (order : List ℕ) × KeepsAmong xs order
      order_within zero xs l m = absurd (omega arith)
      order_within (suc n) [] l m = ([], record { into = λ t i. i; back = λ t i. i; once = tt; kept = λ t u i. absurd i })
      order_within (suc n) (x ∷ xs) l m = elim (ready (x ∷ xs)) [
        | inr fed ↦ absurd (none_fed x xs m fed)
        | inl r ↦
            let t = r.0 in
            let rest = order_within n (without t (x ∷ xs)) (omega (arith, shorter t (x ∷ xs) r.1)) (λ u i. m u (without_other t u (x ∷ xs) i).1) in
            (t ∷ rest.0, put_first (x ∷ xs) rest.0 t r.1 r.2 rest.1)
      ]

      pub order_among : (xs : List ℕ) → ((t : ℕ) → In t xs → M t) → (order : List ℕ) × KeepsAmong xs order
      order_among xs m = order_within (suc (length xs)) xs (omega arith) m
