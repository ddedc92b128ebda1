-- What is found at the keys of the parts of a cutting, all together.
use Rattle.std.proofs.Common.{◌≡◌, ℕ, zero, suc, ◌<◌, ◌^◌, List, [], ◌∷◌, ◌++◌, length, get_or, refl, ap, subst, arith}
use Rattle.std.specs.List.{AllZip}
use Rattle.std.specs.Prelude.{◌↔◌, Contains, ⊤}
use Rattle.std.specs.List.Sorted.{IsStrictlySortedBy}
use Rattle.std.specs.declared.cmp.Ordering.{Ordering}
use Rattle.std.specs.declared.cmp.Ordering.TheVariants.{Less}
use Rattle.std.proofs.lemmas.Option.{slice_get_within, get_or_from_slice_get}
use Rattle.sia_events.specs.Lists.{ListsBy, Precedes}
use Rattle.sia_parts.specs.declared.cutting.Part.{Part}
use Rattle.sia_parts.specs.Parts.{IsCutting, IsInPart}
use Rattle.sia_parts.specs.Sights.{Adds, FromSome}
use Rattle.sia_parts.proofs.Shared.Adding.{added_are}
use Rattle.sia_parts.proofs.Shared.Listing.{put_listed}
use Rattle.sia_parts.proofs.CutKeys.PartLemmas.{one_part_holds}

pub AllZip-one_more : {A B : Type 0} (R : A → B → Type 0) (xs : List A) (ys : List B) (x : A) (y : B) → AllZip R xs ys → R x y → AllZip R (xs ++ x ∷ []) (ys ++ y ∷ [])
AllZip-one_more R [] [] x y z r = (r, tt)
AllZip-one_more R [] (v ∷ ys) x y z r = absurd z
AllZip-one_more R (u ∷ xs) [] x y z r = absurd z
AllZip-one_more R (u ∷ xs) (v ∷ ys) x y z r = (z.0, AllZip-one_more R xs ys x y z.1 r)

pub length_zip : {A B : Type 0} (R : A → B → Type 0) (xs : List A) (ys : List B) → AllZip R xs ys → length xs ≡ length ys
length_zip R [] [] z = refl
length_zip R [] (y ∷ ys) z = absurd z
length_zip R (x ∷ xs) [] z = absurd z
length_zip R (x ∷ xs) (y ∷ ys) z = ap suc (length_zip R xs ys z.1)

pub zip_at : {A B : Type 0} (R : A → B → Type 0) (xs : List A) (ys : List B) (i : ℕ) (d : A) (e : B) → AllZip R xs ys → i < length xs → R (get_or xs i d) (get_or ys i e)
zip_at R [] [] i d e z below = absurd (omega arith)
zip_at R [] (y ∷ ys) i d e z below = absurd z
zip_at R (x ∷ xs) [] i d e z below = absurd z
zip_at R (x ∷ xs) (y ∷ ys) zero d e z below = z.0
zip_at R (x ∷ xs) (y ∷ ys) (suc i) d e z below = zip_at R xs ys i d e z.1 (omega arith)

pub entry_at : {A : Type 0} (xs : List A) (i : ℕ) → i < length xs → (x : A) × (get_or xs i x ≡ x)
entry_at [] i below = absurd (omega arith)
entry_at (x ∷ xs) zero below = (x, refl)
entry_at (x ∷ xs) (suc i) below = entry_at xs i (omega arith)

-- what was found at some key, and where something was found
module _ {F : Type 0} (points : List ℕ) (cutting : List Part) (cuts : IsCutting points cutting) (R : Part → F → Type 0) (founds : List F) (zip : AllZip R cutting founds) where
  as_long : length cutting ≡ length founds
  as_long = length_zip R cutting founds zip

  pub of_part : (found : F) → Contains founds found → (part : Part) × R part found
  of_part found c =
      let part = get_or cutting c.0 (record { lo = 0; hi = 0 }) in
      (part, subst (R part) c.2 (zip_at R cutting founds c.0 (record { lo = 0; hi = 0 }) found zip (let e = as_long in let b = c.1 in omega arith)))

  pub at_key : (k : ℕ) → k < 2 ^ 64 → (part : Part) × (found : F) × Contains founds found × R part found × IsInPart part k
  at_key k below =
      let one = one_part_holds points cutting cuts k below in
      let at = one.1 in
      let in_cutting = slice_get_within cutting one.0 at.0 at.1 in
      let inside : one.0 < length founds = let e = as_long in omega arith in
      let some = entry_at founds one.0 inside in
      let is : R (get_or cutting one.0 at.0) some.0 = subst (R (get_or cutting one.0 at.0)) some.1 (zip_at R cutting founds one.0 at.0 some.0 zip in_cutting) in
      (at.0, some.0, (one.0, inside, some.1), subst (λ part. R part some.0) (get_or_from_slice_get cutting one.0 at.0 at.0 at.1) is, at.2)

-- the things that have P, each at its key: those that each part lists, all together
module _ {A F : Type 0} (rank : A → List ℕ) (key : A → ℕ) (P : A → Type 0) (is_key : (x : A) → P x → key x < 2 ^ 64) (points : List ℕ) (cutting : List Part) (cuts : IsCutting points cutting)
    (R : Part → F → Type 0) (list : F → List A) (fits : (part : Part) (found : F) → R part found → ListsBy rank (λ x. P x × IsInPart part (key x)) (list found)) (founds : List F) (zip : AllZip R cutting founds) where
  of_all : (x : A) → FromSome (λ found. Contains (list found)) founds x ↔ (P x × ⊤)
  of_all x = (
    (λ f. let of = of_part points cutting cuts R founds zip f.0 f.1 in ((((fits of.0 f.0 of.1).each x).0 f.2).0, tt)),
    (λ h. let at = at_key points cutting cuts R founds zip (key x) (is_key x h.0) in (at.1, at.2, ((fits at.0 at.1 at.3).each x).1 (h.0, at.4))),
  )

  -- put in order by what goes with the ranks
  pub all_listed : (c : A → A → Ordering) → ((x y : A) → P x → P y → c x y ≡ Less → Precedes (rank x) (rank y)) → (xs ys : List A) → Adds (FromSome (λ found. Contains (list found)) founds) [] xs
      → IsStrictlySortedBy c ys → ((x : A) → Contains xs x → Contains ys x) → ((x : A) → Contains ys x → Contains xs x) → ListsBy rank (λ x. P x × ⊤) ys
  all_listed c before xs ys adds = put_listed rank (λ x. P x × ⊤) c (λ x y p q. before x y p.0 q.0) xs ys (added_are (FromSome (λ found. Contains (list found)) founds) (λ x. P x × ⊤) xs adds of_all)
