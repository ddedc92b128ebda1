-- A field of each row of a list, as a loop over the rows collects it.
use Rattle.std.proofs.Common.{◌≡◌, inl, inr, ℕ, ◌+◌, ◌<◌, List, [], ◌∷◌, ◌++◌, length, ap, sym, subst, ◌∙◌, arith}
use Rattle.std.specs.Prelude.{slice_index_or}
use Rattle.std.proofs.lemmas.Bool.{cases_lt}
use Rattle.std.proofs.lemmas.List.{length_push, get_or_append_left, get_or_default, get_or_push}
use Rattle.sia_index.specs.Rows.{IsColumn}

-- one row more
pub column_more : {A B : Type 0} (f : A → B) (rows : List A) (n : ℕ) (ys : List B) → IsColumn f rows n ys → (r : A) → n < length rows → IsColumn f rows (n + 1) (ys ++ f (slice_index_or rows n r) ∷ [])
column_more {A} {B} f rows n ys so r some = (
  length_push ys y ∙ ap (λ k. k + 1) so.0,
  λ i d e below. elim (cases_lt i (length ys)) [
    | inl less ↦ get_or_append_left ys (y ∷ []) d i less ∙ so.1 i d e less
    | inr more ↦
        let long = length_push ys y in
        let is : i ≡ n = let count = so.0 in omega arith in
        get_or_push ys y d i (so.0 ∙ sym is) ∙ subst (λ k. y ≡ f (slice_index_or rows k e)) (sym is) (ap f (get_or_default rows n r e some))
  ],
)
  where
    y : B
    y = f (slice_index_or rows n r)
