-- Where the positions of a key end: behind those of all keys up to it.
use Rattle.std.proofs.Common.{◌≡◌, inl, inr, ℕ, ◌+◌, ◌-◌, ◌<◌, ◌≤◌, List, Option, Some, length, rules, refl, ap, sym, subst, ◌∙◌, arith}
use Rattle.std.proofs.Math.Dec.{leb}
use Rattle.std.specs.Prelude.{◌↔◌, IsTrue, slice_index, slice_index_or}
use Rattle.std.proofs.lemmas.Bool.{cases_eq, cases_lt, leb-true}
use Rattle.sia_events.specs.declared.event.Event.{Event}
use Rattle.sia_events.specs.Transactions.{Wrote}
use Rattle.sia_index.specs.declared.info.KeyVersion.{KeyVersion}
use Rattle.sia_index.specs.Info.{AreWrittenKeys, IsKeyAt}
use Rattle.sia_index.specs.Positions.{AreMakersBehind, IsAtPosition}
use Rattle.sia_index.proofs.Shared.KeyChains.{key_number}
use Rattle.sia_index.proofs.Shared.Ordered.{ascends}
use Rattle.sia_parts.specs.declared.cutting.Part.{Part}
use Rattle.sia_parts.specs.EdgeRows.{IsKeyEnd, IsMadeAt}
use Rattle.sia_parts.specs.Parts.{IsWithin}
use Rattle.sia_parts.proofs.Shared.OneNumber.{one_key}
use Rattle.sia_parts.proofs.EdgeRows.PositionOrder.{ascends_at, one_version}

module _ (h : List Event) (keys : List ℕ) (are : AreWrittenKeys h keys) where
  -- numbers go by keys
  less_key : (n m k l : ℕ) → IsKeyAt h n k → IsKeyAt h m l → n < m → k < l
  less_key n m k l a b less =
      let first = key_number h keys are n k a in
      let second = key_number h keys are m l b in
      let up : slice_index keys n < slice_index keys m = ascends (λ (x : ℕ). x) (λ k. (t : ℕ) × Wrote h t k) keys are n m 0 less second.0 in
      let x = first.1 in
      let y = second.1 in
      omega arith

  -- a later position has no lesser number
  pub rises_at : (q p n m : ℕ) (v w : KeyVersion) → IsAtPosition h q v → IsAtPosition h p w → IsKeyAt h n v.key → IsKeyAt h m w.key → q ≤ p → n ≤ m
  rises_at q p n m v w at other a b le = elim (cases_lt m n) [
    | inr most ↦ most
    | inl less ↦ absurd (let under = less_key m n w.key v.key b a less in elim (cases_lt q p) [
      | inl before ↦ elim (ascends_at h q p v w at other before) [ inl above ↦ omega arith | inr same ↦ (let e = same.0 in omega arith) ]
      | inr here ↦ let is : p ≡ q = omega arith in let e = ap (λ (x : KeyVersion). x.key) (one_version h q v w at (subst (λ n. IsAtPosition h n w) is other)) in omega arith
    ])
  ]

module _ (h : List Event) (q : ℕ) (v : KeyVersion) (at : IsAtPosition h q v) (makers : List ℕ) (behind : AreMakersBehind h q v makers) where
  pub up_to_last : (p : ℕ) → q ≤ p → p < q + 1 + length makers → (w : KeyVersion) × IsAtPosition h p w × (w.key ≡ v.key)
  up_to_last p low high = elim (cases_eq p q) [
    | inl same ↦ (v, subst (λ n. IsAtPosition h n v) (sym same) at, refl)
    | inr other ↦
        let place : q + 1 + (p - (q + 1)) ≡ p = omega arith in
        let is = behind.each (p - (q + 1)) 0 (omega arith) in
        (is.0, subst (λ n. IsAtPosition h n is.0) place is.1, is.2)
  ]

  -- the positions of a key end behind its last version
  pub ends_behind : (j : ℕ) → IsKeyAt h j v.key → IsKeyEnd h q (q + 1 + length makers)
  ends_behind j key = record {
    of = (j, record { version = v; at = at; key = key });
    there = λ p low high. let is = up_to_last p low high in (is.0, is.1);
    own = λ i p of low high. (
        let is = up_to_last p low high in
        record { version = is.0; at = is.1; key = subst (IsKeyAt h i) (ap (λ (x : KeyVersion). x.key) (one_version h q of.version v of.at at) ∙ sym is.2) of.key });
    past = λ i p of other. (
        let own : IsKeyAt h i v.key = subst (λ (x : KeyVersion). IsKeyAt h i x.key) (one_version h q of.version v of.at at) of.key in
        let last = behind.all p other.version other.at (one_key h i other.version.key v.key other.key own) in
        omega arith);
  }

  pub made_behind : (i d j : ℕ) → i < length makers → IsKeyAt h j v.key → IsMadeAt h (slice_index_or makers i d) j (q + 1 + i)
  made_behind i d j below key = let is = behind.each i d below in record { version = is.0; at = is.1; key = subst (IsKeyAt h j) (sym is.2) key; made = is.3; maker = is.4 }

-- whether a key is within
pub within_part : (within : Option Part) (part : Part) → within ≡ Some part → (x k : ℕ) → x ≡ k → part.lo ≤ x → IsTrue (leb x part.hi) ↔ IsWithin within k
within_part within part is x k same low = subst (λ at. IsTrue (leb x part.hi) ↔ IsWithin at k) (sym is) (subst (λ y. IsTrue (leb x part.hi) ↔ ((part.lo ≤ y) × (y ≤ part.hi))) same ((λ t. (low, search rules)), (λ b. search rules)))

pub outside_part : (within : Option Part) (part : Part) → within ≡ Some part → (x k : ℕ) → x ≡ k → x < part.lo → IsTrue (leb part.lo x) ↔ IsWithin within k
outside_part within part is x k same high = ((λ t. absurd (let low = leb-true part.lo x t in omega arith)), (λ b. absurd (let low = (subst (λ at. IsWithin at k) is b).0 in omega arith)))
