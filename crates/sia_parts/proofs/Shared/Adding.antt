-- What a list holds once something was added, thing by thing.
use Rattle.std.proofs.Common.{◌≡◌, ◌⊎◌, inl, inr, ℕ, ◌+◌, ◌<◌, ◌≤◌, List, [], ◌∷◌, ◌++◌, length, take, get_or, sym, subst, arith}
use Rattle.std.specs.Prelude.{◌↔◌, Contains}
use Rattle.std.proofs.lemmas.List.{take_more, take_all}
use Rattle.std.proofs.lemmas.List.Elements.{Contains-append_left, Contains-append_right, Contains-append_cases, Contains-push, Contains-push_cases}
use Rattle.sia_parts.specs.Sights.{Adds, FromSome, Gives}

module _ {A : Type 0} (P : A → Type 0) where
  -- what nothing has adds nothing
  pub adds_nothing : (xs : List A) → ((x : A) → ¬ P x) → Adds P xs xs
  adds_nothing xs none x = (λ c. inl c, λ e. elim e [ inl c ↦ c | inr p ↦ absurd (none x p) ])

  -- what one thing alone has adds this
  pub adds_push : (xs : List A) (y : A) → P y → ((x : A) → P x → y ≡ x) → Adds P xs (xs ++ y ∷ [])
  adds_push xs y here alone x = (
    (λ c. elim (Contains-push_cases xs y x c) [ inl before ↦ inl before | inr same ↦ inr (subst P same here) ]),
    (λ e. elim e [
      | inl c ↦ Contains-append_left xs (y ∷ []) x c
      | inr p ↦ subst (Contains (xs ++ y ∷ [])) (alone x p) (Contains-push xs y)
    ]),
  )

  pub adds_same : (Q : A → Type 0) (xs ys : List A) → ((x : A) → P x → Q x) → ((x : A) → Q x → P x) → Adds P xs ys → Adds Q xs ys
  adds_same Q xs ys to from adds x = (
    (λ c. elim ((adds x).0 c) [ inl old ↦ inl old | inr p ↦ inr (to x p) ]),
    (λ e. elim e [ inl old ↦ (adds x).1 (inl old) | inr q ↦ (adds x).1 (inr (from x q)) ]),
  )

  -- one after another
  pub adds_both : (Q : A → Type 0) (xs ys zs : List A) → Adds P xs ys → Adds Q ys zs → Adds (λ x. P x ⊎ Q x) xs zs
  adds_both Q xs ys zs first second x = (
    (λ c. elim ((second x).0 c) [
      | inl before ↦ elim ((first x).0 before) [ inl old ↦ inl old | inr p ↦ inr (inl p) ]
      | inr q ↦ inr (inr q)
    ]),
    (λ e. elim e [
      | inl old ↦ (second x).1 (inl ((first x).1 (inl old)))
      | inr either ↦ elim either [
        | inl p ↦ (second x).1 (inl ((first x).1 (inr p)))
        | inr q ↦ (second x).1 (inr q)
      ]
    ]),
  )

  -- what was added to nothing is what the list holds
  pub added_to_none : (ys : List A) → Adds P [] ys → (x : A) → Contains ys x ↔ P x
  added_to_none ys adds x = (
    (λ c. elim ((adds x).0 c) [ inl none ↦ absurd (let below = none.1 in omega arith) | inr p ↦ p ]),
    (λ p. (adds x).1 (inr p)),
  )

-- so it is what a list that was empty holds
pub added_are : {A : Type 0} (P Q : A → Type 0) (ys : List A) → Adds P [] ys → ((x : A) → P x ↔ Q x) → (x : A) → Contains ys x ↔ Q x
added_are P Q ys adds same x = ((λ c. (same x).0 ((added_to_none P ys adds x).0 c)), (λ q. (added_to_none P ys adds x).1 ((same x).1 q)))

-- a list behind another
pub adds_list : {A : Type 0} (xs ys : List A) → Adds (Contains ys) xs (xs ++ ys)
adds_list xs ys x = (
  (λ c. Contains-append_cases xs ys x c),
  (λ e. elim e [ inl c ↦ Contains-append_left xs ys x c | inr c ↦ Contains-append_right xs ys x c ]),
)

-- some of the first n things gives y
abbrev pub FromFirst : {A B : Type 0} → (A → B → Type 0) → List A → ℕ → B → Type 0
FromFirst P xs n = FromSome P (take n xs)

-- no things give nothing
pub from_nothing : {A B : Type 0} (P : A → B → Type 0) (old : List B) → Adds (FromSome P []) old old
from_nothing P old = adds_nothing (FromSome P []) old (λ y f. let below = f.1.1 in absurd (omega arith))

-- what the first things give, and what one more gives
pub some_push : {A B : Type 0} (P : A → B → Type 0) (xs : List A) (x : A) (y : B) → (FromSome P xs y ⊎ P x y) ↔ FromSome P (xs ++ x ∷ []) y
some_push P xs x y = (
  (λ e. elim e [ inl f ↦ (f.0, Contains-append_left xs (x ∷ []) f.0 f.1, f.2) | inr p ↦ (x, Contains-push xs x, p) ]),
  (λ f. elim (Contains-push_cases xs x f.0 f.1) [ inl c ↦ inl (f.0, c, f.2) | inr same ↦ inr (subst (λ z. P z y) (sym same) f.2) ]),
)

pub from_push : {A B : Type 0} (P : A → B → Type 0) (xs : List A) (x : A) (old mid new : List B) → Adds (FromSome P xs) old mid → Adds (P x) mid new → Adds (FromSome P (xs ++ x ∷ [])) old new
from_push P xs x old mid new before here =
    adds_same (λ y. FromSome P xs y ⊎ P x y) (FromSome P (xs ++ x ∷ [])) old new (λ y. (some_push P xs x y).0) (λ y. (some_push P xs x y).1)
    (adds_both (FromSome P xs) (P x) old mid new before here)

module _ {A B : Type 0} (P : A → B → Type 0) (xs : List A) where
  pub from_none : (old : List B) → Adds (FromFirst P xs 0) old old
  from_none old = from_nothing P old

  -- what the first n give, and what the next one gives
  pub first_more : (n : ℕ) (d : A) → n < length xs → (y : B) → (FromFirst P xs n y ⊎ P (get_or xs n d) y) ↔ FromFirst P xs (n + 1) y
  first_more n d below y = subst (λ zs. (FromFirst P xs n y ⊎ P (get_or xs n d) y) ↔ FromSome P zs y) (sym (take_more xs n d below)) (some_push P (take n xs) (get_or xs n d) y)

  pub from_more : (n : ℕ) (d : A) (old mid new : List B) → n < length xs → Adds (FromFirst P xs n) old mid → Adds (P (get_or xs n d)) mid new → Adds (FromFirst P xs (n + 1)) old new
  from_more n d old mid new below before here = subst (λ zs. Adds (FromSome P zs) old new) (sym (take_more xs n d below)) (from_push P (take n xs) (get_or xs n d) old mid new before here)

  pub from_all : (n : ℕ) (old new : List B) → length xs ≤ n → Adds (FromFirst P xs n) old new → Adds (FromSome P xs) old new
  from_all n old new all adds = subst (λ zs. Adds (FromSome P zs) old new) (take_all n xs all) adds

-- what a list gives already
pub gives_held : {A B : Type 0} (Q : A → B → Type 0) (P : B → Type 0) (xs : List A) → ((y : B) → P y → FromSome Q xs y) → Gives Q P xs xs
gives_held Q P xs held y = ((λ f. inl f), (λ e. elim e [ inl f ↦ f | inr p ↦ held y p ]))
