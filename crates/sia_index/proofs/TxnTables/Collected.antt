-- Lists that a loop over the places of a history collects.
use Rattle.std.proofs.Common.{◌≡◌, ◌↔◌, inl, inr, ℕ, ◌+◌, ◌<◌, ◌≤◌, List, [], ◌∷◌, ◌++◌, subst, arith}
use Rattle.std.specs.Prelude.{Contains}
use Rattle.std.specs.declared.cmp.Ordering.{Ordering}
use Rattle.std.specs.declared.cmp.Ordering.TheVariants.{Less}
use Rattle.std.specs.List.Sorted.{IsStrictlySortedBy}
use Rattle.std.proofs.lemmas.Bool.{cases_lt}
use Rattle.std.proofs.lemmas.List.Elements.{Contains-append_left, Contains-push, Contains-push_cases}
use Rattle.sia_events.specs.Lists.{Precedes, ListsBy}
use Rattle.sia_index.proofs.Shared.Ordered.{lists_sorted}

-- xs holds what has Q at a place below n, and nothing else
abbrev pub HoldsBelow : {A : Type 0} → (A → ℕ → Type 0) → ℕ → List A → Type 0
HoldsBelow {A} Q n xs = (x : A) → Contains xs x ↔ ((q : ℕ) × (q < n) × Q x q)

module _ {A : Type 0} (Q : A → ℕ → Type 0) where
  -- the empty list, before place 0
  pub holds_nothing : HoldsBelow Q 0 []
  holds_nothing x = ((λ c. absurd (let below = c.1 in omega arith)), (λ (q, below, has). absurd (omega arith)))

  -- one more, which alone has Q at the next place
  pub holds_one : (n : ℕ) (xs : List A) (y : A) → HoldsBelow Q n xs → Q y n → ((x : A) → Q x n → y ≡ x) → HoldsBelow Q (n + 1) (xs ++ y ∷ [])
  holds_one n xs y holds here alone x = (
    (λ c. elim (Contains-push_cases xs y x c) [
      | inl before ↦ let found = (holds x).0 before in (found.0, (let less = found.1 in omega arith), found.2)
      | inr same ↦ (n, omega arith, subst (λ z. Q z n) same here)
    ]),
    (λ (q, below, has). elim (cases_lt q n) [
      | inl less ↦ Contains-append_left xs (y ∷ []) x ((holds x).1 (q, less, has))
      | inr more ↦ let at : q ≡ n = omega arith in subst (Contains (xs ++ y ∷ [])) (alone x (subst (Q x) at has)) (Contains-push xs y)
    ]),
  )

  -- no more up to a place, where what has Q from here on is there already
  pub holds_past : (n m : ℕ) (xs : List A) → n ≤ m → HoldsBelow Q n xs → ((x : A) (q : ℕ) → n ≤ q → q < m → Q x q → Contains xs x) → HoldsBelow Q m xs
  holds_past n m xs forward holds there x = (
    (λ c. let found = (holds x).0 c in (found.0, (let less = found.1 in omega arith), found.2)),
    (λ (q, below, has). elim (cases_lt q n) [ inl less ↦ (holds x).1 (q, less, has) | inr more ↦ there x q more below has ]),
  )

  -- no more, where what has Q at the next place is there already
  pub holds_again : (n : ℕ) (xs : List A) (y : A) → HoldsBelow Q n xs → Contains xs y → ((x : A) → Q x n → y ≡ x) → HoldsBelow Q (n + 1) xs
  holds_again n xs y holds there alone = holds_past n (n + 1) xs (omega arith) holds (λ x q after before has. let at : q ≡ n = omega arith in subst (Contains xs) (alone x (subst (Q x) at has)) there)

  -- or where nothing has it
  pub holds_same : (n : ℕ) (xs : List A) → HoldsBelow Q n xs → ((x : A) → ¬ Q x n) → HoldsBelow Q (n + 1) xs
  holds_same n xs holds none = holds_past n (n + 1) xs (omega arith) holds (λ x q after before has. let at : q ≡ n = omega arith in absurd (none x (subst (Q x) at has)))

-- once put in order, what was collected over all places lists what has Q at some place
pub collected : {A : Type 0} (Q : A → ℕ → Type 0) (rank : A → List ℕ) (P : A → Type 0) (c : A → A → Ordering) → ((x y : A) → c x y ≡ Less → Precedes (rank x) (rank y)) → (n : ℕ) → ((x : A) → ((q : ℕ) × (q < n) × Q x q) ↔ P x) → (xs ys : List A) → HoldsBelow Q n xs → IsStrictlySortedBy c ys → ((x : A) → Contains xs x → Contains ys x) → ((x : A) → Contains ys x → Contains xs x) → ListsBy rank P ys
collected Q rank P c before n same xs ys holds sorted keeps adds_none =
    lists_sorted rank P c before ys sorted (λ x. ((λ has. (same x).0 ((holds x).0 (adds_none x has))), (λ is. keeps x ((holds x).1 ((same x).1 is)))))
