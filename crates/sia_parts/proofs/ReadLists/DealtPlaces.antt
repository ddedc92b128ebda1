-- Lists of places, one of which gets one more.
use Rattle.std.proofs.Common.{◌≡◌, inl, inr, ℕ, ◌+◌, ◌<◌, ◌≤◌, List, [], ◌∷◌, ◌++◌, Vec, Global, length, get_or, set, ap, sym, subst, ◌∙◌, arith}
use Rattle.std.specs.Prelude.{Contains}
use Rattle.std.proofs.lemmas.Bool.{cases_eq}
use Rattle.std.proofs.lemmas.List.{get_or_default, get_or-set_same, get_or-set_other, length-set}
use Rattle.std.proofs.lemmas.List.Elements.{Contains-append_left, Contains-push}
use Rattle.sia_parts.specs.Dealing.{DealsWithin}

pub place_more : (p from i : ℕ) (old xs : List (Vec ℕ Global)) (v w : Vec ℕ Global) → i < length xs → w ≡ get_or xs i w → v.items ≡ w.items ++ p ∷ [] → from ≤ i → DealsWithin p from i old xs → DealsWithin p from (i + 1) old (set xs i v)
place_more p from i old xs v w below is pushed low deals = record {
  long = length-set xs i v ∙ deals.long;
  keeps = λ j q d inside has. elim (cases_eq j i) [
    | inl same ↦ here j q d same (subst (λ (u : Vec ℕ Global). Contains u.items q) (sym (is_w d j same)) (deals.keeps j q d inside has))
    | inr other ↦ subst (λ (u : Vec ℕ Global). Contains u.items q) (sym (get_or-set_other xs i j v d other)) (deals.keeps j q d inside has)
  ];
  adds = λ j d after less. elim (cases_eq j i) [
    | inl same ↦ subst (λ (u : Vec ℕ Global). Contains u.items p) (sym (at_i j d same)) (subst (λ l. Contains l p) (sym pushed) (Contains-push w.items p))
    | inr other ↦ subst (λ (u : Vec ℕ Global). Contains u.items p) (sym (get_or-set_other xs i j v d other)) (deals.adds j d after (omega arith))
  ];
} where
  is_w : (d : Vec ℕ Global) (j : ℕ) → j ≡ i → w ≡ get_or xs j d
  is_w d j same = is ∙ get_or_default xs i w d below ∙ ap (λ n. get_or xs n d) (sym same)

  at_i : (j : ℕ) (d : Vec ℕ Global) → j ≡ i → get_or (set xs i v) j d ≡ v
  at_i j d same = ap (λ n. get_or (set xs i v) n d) same ∙ get_or-set_same xs i v d below

  here : (j q : ℕ) (d : Vec ℕ Global) → j ≡ i → Contains w.items q → Contains (get_or (set xs i v) j d).items q
  here j q d same has = subst (λ (u : Vec ℕ Global). Contains u.items q) (sym (at_i j d same)) (subst (λ l. Contains l q) (sym pushed) (Contains-append_left w.items (p ∷ []) q has))
