-- Lists of all that has a property, and what a sort makes of a list.
use Rattle.std.proofs.Common.{◌≡◌, ◌↔◌, ℕ, ◌<◌, List, [], ◌∷◌, length, map, sym, ◌∙◌, arith}
use Rattle.std.specs.Prelude.{Contains, slice_index_or}
use Rattle.std.specs.declared.cmp.Ordering.{Ordering}
use Rattle.std.specs.declared.cmp.Ordering.TheVariants.{Less}
use Rattle.std.specs.List.Sorted.{IsStrictlySortedBy}
use Rattle.std.proofs.lemmas.List.{get_or-map, length-map}
use Rattle.std.proofs.lemmas.List.Elements.{Contains-get_or}
use Rattle.std.proofs.lemmas.Map.Keys.{Less-from_sorted}
use Rattle.sia_events.specs.Lists.{Precedes, ListsBy}

-- what is listed, in other words
pub listed_as : {A : Type 0} (rank : A → List ℕ) (P Q : A → Type 0) → ((x : A) → P x ↔ Q x) → (xs : List A) → ListsBy rank P xs → ListsBy rank Q xs
listed_as rank P Q same xs l = grind arith

-- a list without repeats, in an order that goes with the ranks, that holds what another holds
pub listed_in_order : {A : Type 0} (rank : A → List ℕ) (c : A → A → Ordering) → ((x y : A) → c x y ≡ Less → Precedes (rank x) (rank y))
    → (xs ys : List A) → IsStrictlySortedBy c ys → ((x : A) → Contains xs x → Contains ys x) → ((x : A) → Contains ys x → Contains xs x) → ListsBy rank (Contains xs) ys
listed_in_order rank c before xs ys sorted keeps adds_none = record {
  ascending = λ i j d less below. before (slice_index_or ys i d) (slice_index_or ys j d) (Less-from_sorted c ys i j d sorted less below);
  each = λ x. (adds_none x, keeps x);
}

-- what the mapped list holds
pub mapped : {A B : Type 0} (f : A → B) (xs : List A) (y : B) → Contains (map f xs) y ↔ ((x : A) × Contains xs x × (f x ≡ y))
mapped {A} f [] y = ((λ c. absurd (let l = c.1 in omega arith)), (λ w. absurd (let l = w.1.1 in omega arith)))
mapped {A} f (z ∷ zs) y = (
  (λ c.
      let below : c.0 < length (z ∷ zs) = let l = c.1 in omega (arith, length-map (z ∷ zs) f) in
      (slice_index_or (z ∷ zs) c.0 z, Contains-get_or (z ∷ zs) c.0 z below, sym (get_or-map f (z ∷ zs) c.0 z y below) ∙ c.2)),
  grind (arith, length-map, get_or-map),
)
