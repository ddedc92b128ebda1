-- The parts that starts give, one after another.
use Rattle.std.proofs.Common.{◌≡◌, inl, inr, ℕ, zero, suc, ◌+◌, ◌-◌, ◌<◌, ◌≤◌, ◌^◌, List, [], ◌∷◌, length, drop, slice_get, Option, Some, None, refl, ap, sym, subst, ◌∙◌, arith}
use Rattle.std.specs.Prelude.{slice_index}
use Rattle.std.proofs.lemmas.Bool.{cases_lt}
use Rattle.std.proofs.lemmas.List.{drop_all, drop_more}
use Rattle.sia_parts.specs.declared.cutting.Part.{Part}
use Rattle.sia_parts.specs.Parts.{parts_from, IsInPartAt, OnePartLaw}
use Rattle.sia_parts.proofs.Auditing.Members.{contains_first}
use Rattle.sia_parts.proofs.CutKeys.StartLemmas.{Rises, Rises-later, first_less, cuts_of}

-- the last key before the next start, if there is one
abbrev pub last_key : Option ℕ → ℕ
last_key (Some next) = next - 1
last_key None = 18446744073709551615

abbrev pub part_before : ℕ → Option ℕ → Part
part_before s next = record { lo = s; hi = last_key next }

first_part : (s : ℕ) (rest : List ℕ) → parts_from (s ∷ rest) ≡ part_before s (slice_get rest 0) ∷ parts_from rest
first_part s [] = refl
first_part s (next ∷ rest) = refl

-- the part that starts at number i, and those behind it
pub part_then : (starts : List ℕ) (i : ℕ) → i + 1 < length starts → parts_from (drop i starts) ≡ record { lo = slice_index starts i; hi = slice_index starts (i + 1) - 1 } ∷ parts_from (drop (i + 1) starts)
part_then starts i below = rw (drop_more starts i 0 (omega arith), drop_more starts (i + 1) 0 below) refl

pub part_last : (starts : List ℕ) (i : ℕ) → i < length starts → length starts ≤ i + 1 → parts_from (drop i starts) ≡ record { lo = slice_index starts i; hi = 18446744073709551615 } ∷ parts_from (drop (i + 1) starts)
part_last starts i below last = rw (drop_more starts i 0 below, drop_all (i + 1) starts last) refl

pub length-parts_from : (starts : List ℕ) → length (parts_from starts) ≡ length starts
length-parts_from [] = refl
length-parts_from (s ∷ rest) = ap length (first_part s rest) ∙ ap suc (length-parts_from rest)

-- from the first start on, each key is in some part
covered : (s : ℕ) (rest : List ℕ) → Rises (s ∷ rest) → (k : ℕ) → s ≤ k → k < 2 ^ 64 → (i : ℕ) × IsInPartAt (parts_from (s ∷ rest)) k i
covered s [] rises k from below = (0, (part_before s None, refl, (from, omega arith)))
covered s (next ∷ rest) rises k from below = elim (cases_lt k next) [
  | inl before ↦ (0, (part_before s (Some next), refl, (from, omega arith)))
  | inr after ↦ let later = covered next rest (Rises-later s (next ∷ rest) rises) k after below in (suc later.0, later.1)
]

-- and no earlier one is
from_first : (s : ℕ) (rest : List ℕ) → Rises (s ∷ rest) → (k i : ℕ) → IsInPartAt (parts_from (s ∷ rest)) k i → s ≤ k
from_first s [] rises k zero at = let e : part_before s None ≡ at.0 = cc (at.1) in let lo = ap (λ part. part.lo) e in omega (arith, at.2.0)
from_first s [] rises k (suc i) at = let e : None ≡ Some at.0 = at.1 in absurd (cc)
from_first s (next ∷ rest) rises k zero at = let e : part_before s (Some next) ≡ at.0 = cc (at.1) in let lo = ap (λ part. part.lo) e in omega (arith, at.2.0)
from_first s (next ∷ rest) rises k (suc i) at =
    let later = from_first next rest (Rises-later s (next ∷ rest) rises) k i at in
    let less = first_less s next (next ∷ rest) rises (contains_first next rest) in
    omega arith

-- a key of the first part is before the next start
before_next : (s next : ℕ) (rest : List ℕ) → Rises (s ∷ next ∷ rest) → (k : ℕ) → IsInPartAt (parts_from (s ∷ next ∷ rest)) k 0 → k < next
before_next s next rest rises k at =
    let e : part_before s (Some next) ≡ at.0 = cc (at.1) in
    let hi = ap (λ part. part.hi) e in
    let less = first_less s next (next ∷ rest) rises (contains_first next rest) in
    omega (arith, at.2.1)

in_one : (s : ℕ) (rest : List ℕ) → Rises (s ∷ rest) → (k i j : ℕ) → IsInPartAt (parts_from (s ∷ rest)) k i → IsInPartAt (parts_from (s ∷ rest)) k j → j ≡ i
in_one s rest rises k zero zero a b = refl
in_one s [] rises k zero (suc j) a b = let e : None ≡ Some b.0 = b.1 in absurd (cc)
in_one s [] rises k (suc i) j a b = let e : None ≡ Some a.0 = a.1 in absurd (cc)
in_one s (next ∷ rest) rises k zero (suc j) a b =
    let before = before_next s next rest rises k a in
    let after = from_first next rest (Rises-later s (next ∷ rest) rises) k j b in
    absurd (omega arith)
in_one s (next ∷ rest) rises k (suc i) zero a b =
    let before = before_next s next rest rises k b in
    let after = from_first next rest (Rises-later s (next ∷ rest) rises) k i a in
    absurd (omega arith)
in_one s (next ∷ rest) rises k (suc i) (suc j) a b = ap suc (in_one next rest (Rises-later s (next ∷ rest) rises) k i j a b)

-- each key is in exactly one part of a cutting
pub one_part_holds : OnePartLaw
one_part_holds points parts cutting k below =
    let cuts = cuts_of points cutting.0 cutting.1 in
    let is : parts ≡ parts_from (0 ∷ cuts.0) = cutting.2 ∙ ap parts_from cuts.2 in
    let rises : Rises (0 ∷ cuts.0) = subst Rises cuts.2 cutting.1.ascending in
    let some = covered 0 cuts.0 rises k (omega arith) below in
    (some.0, subst (λ ps. IsInPartAt ps k some.0) (sym is) some.1, λ j at. in_one 0 cuts.0 rises k some.0 j some.1 (subst (λ ps. IsInPartAt ps k j) is at))
