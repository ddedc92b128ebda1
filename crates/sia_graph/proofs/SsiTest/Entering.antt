-- The greatest value of those with an rw edge to a transaction, by the positions of its versions.
use Rattle.std.proofs.Common.{◌≡◌, ◌⊎◌, inl, inr, ℕ, ◌+◌, ◌<◌, ◌≤◌, List, length, get_or, max, refl, ap, sym, subst, ◌∙◌, ◌↔◌, take_all}
use Rattle.sia_events.specs.declared.event.Event.{Event}
use Rattle.sia_events.specs.Dependencies.{RwEdge}
use Rattle.sia_events.proofs.OfLaws.Looks.{commits_above}
use Rattle.sia_events.specs.Lists.{ListsAscending}
use Rattle.sia_index.specs.declared.info.KeyVersion.{KeyVersion}
use Rattle.sia_index.specs.Positions.{IsAtPosition}
use Rattle.sia_parts.specs.Sights.{FromSome}
use Rattle.sia_parts.proofs.Shared.Adding.{FromFirst, first_more}
use Rattle.sia_graph.specs.Late.{AreLate, Enters, EntersAt, IsLastOf}
use Rattle.sia_graph.proofs.SsiTest.Raised.{below_max}
use Rattle.sia_parts.proofs.EdgeRows.PositionOrder.{one_version as one_at, position_of}

-- the version at position q is one that such an edge leads to
abbrev pub EntersPosition : List Event → List ℕ → ℕ → ℕ → Type 0
EntersPosition h values q y = (v : KeyVersion) × IsAtPosition h q v × (0 < v.commit) × EntersAt h values v.txn v.key y

abbrev pub EntersByFirst : List Event → List ℕ → List ℕ → ℕ → ℕ → Type 0
EntersByFirst h values made n y = FromFirst (EntersPosition h values) made n y

-- the greatest of two
pub last_either : (P Q R : ℕ → Type 0) (a b most : ℕ) → most ≡ max a b → ((y : ℕ) → (P y ⊎ Q y) ↔ R y) → IsLastOf P a → IsLastOf Q b → IsLastOf R most
last_either P Q R a b most is same first second x some = (
  (λ l. elim ((below_max a b most is x).0 l) [
    | inl f ↦ let w = (first x some).0 f in (w.0, (same w.0).0 (inl w.1), w.2)
    | inr f ↦ let w = (second x some).0 f in (w.0, (same w.0).0 (inr w.1), w.2)
  ]),
  (λ w. (below_max a b most is x).1 (elim ((same w.0).1 w.1) [ inl p ↦ inl ((first x some).1 (w.0, p, w.2)) | inr q ↦ inr ((second x some).1 (w.0, q, w.2)) ])),
)

module _ (h : List Event) (values late : List ℕ) (are : AreLate h values late) (made : List ℕ) where
  pub entering_more : (n d greatest most : ℕ) → n < length made → (v : KeyVersion) → IsAtPosition h (get_or made n d) v → 0 < v.commit → most ≡ max greatest (get_or late (get_or made n d) 0)
      → IsLastOf (EntersByFirst h values made n) greatest → IsLastOf (EntersByFirst h values made (n + 1)) most
  entering_more n d greatest most below v at some is before =
      last_either (EntersByFirst h values made n) (EntersPosition h values (get_or made n d)) (EntersByFirst h values made (n + 1)) greatest (get_or late (get_or made n d) 0) most is
      (λ y. first_more (EntersPosition h values) made n d below y) before
      (λ x positive. (
        (λ l. let w = (are.each (get_or made n d) v at some x positive).0 l in (w.0, (v, at, some, w.1), w.2)),
        (λ w.
            (are.each (get_or made n d) v at some x positive).1 (w.0, subst (λ (u : KeyVersion). EntersAt h values u.txn u.key w.0) (one_at h (get_or made n d) w.1.0 v w.1.1 at) w.1.3, w.2)),
      ))

  pub entering_all : (t n greatest : ℕ) → length made ≤ n → ListsAscending (λ q. (v : KeyVersion) × IsAtPosition h q v × (0 < v.commit) × (v.txn ≡ t)) made
      → IsLastOf (EntersByFirst h values made n) greatest → IsLastOf (Enters h values t) greatest
  entering_all t n greatest all made_are last x some = (
    (λ l.
        let w = (last x some).0 l in
        let f = subst (λ (xs : List ℕ). FromSome (EntersPosition h values) xs w.0) (take_all n made all) w.1 in
        let e = f.2.3 in
        let v = (made_are.each f.0).0 f.1 in
        let own : f.2.0.txn ≡ t = ap (λ (u : KeyVersion). u.txn) (one_at h f.0 f.2.0 v.0 f.2.1 v.1) ∙ v.3 in
        (w.0, (e.0, e.1, e.2, (f.2.0.key, subst (λ u. RwEdge h e.1 u f.2.0.key) own e.3), e.4), w.2)),
    (λ w.
        let e = w.1 in
        let rw' = e.3.1 in
        let d = rw'.2.1.0 in
        let v : KeyVersion = record { key = e.3.0; commit = d; txn = t } in
        let q = position_of h are.long.0 are.long.1 v (inr (rw'.2.0, rw'.2.1.1)) in
        let positive = commits_above h t d rw'.2.1.1 in
        let f : FromSome (EntersPosition h values) made w.0 = (q.0, (made_are.each q.0).1 (v, q.1, positive, refl), (v, q.1, positive, (e.0, e.1, e.2, rw', e.4))) in
        (last x some).1 (w.0, subst (λ (xs : List ℕ). FromSome (EntersPosition h values) xs w.0) (sym (take_all n made all)) f, w.2)),
  )
