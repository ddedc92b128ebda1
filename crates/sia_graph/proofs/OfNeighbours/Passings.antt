-- The range misses of all, each with the number of who has it.
use Rattle.std.proofs.Common.{◌≡◌, inl, inr, ℕ, ◌+◌, ◌<◌, ◌≤◌, List, [], ◌∷◌, ◌++◌, length, refl, sym, subst, arith}
use Rattle.std.specs.Prelude.{◌↔◌, ⊤, Contains, slice_index_or}
use Rattle.std.specs.List.Sorted.{IsNonDecreasingBy, IsPermutation}
use Rattle.std.proofs.lemmas.Bool.{cases_lt}
use Rattle.std.proofs.lemmas.List.Sorted.{Contains-permutation, IsPermutation-sym}
use Rattle.std.proofs.lemmas.Option.{slice_get_within}
use Rattle.sia_events.specs.declared.event.Event.{Event}
use Rattle.sia_index.specs.Numbers.{IsCommittedAt}
use Rattle.sia_parts.specs.declared.accesses.Accesses.{Accesses}
use Rattle.sia_parts.specs.declared.accesses.RangeMiss.{RangeMiss}
use Rattle.sia_parts.specs.Accesses.{AreAccesses, HasMiss}
use Rattle.sia_parts.specs.Sights.{Adds, FromSome}
use Rattle.sia_parts.proofs.Shared.Adding.{adds_push}
use Rattle.sia_graph.specs.declared.neighbours.Passing.{Passing}
use Rattle.sia_graph.specs.Found.{ArePassings}
use Rattle.sia_graph.proofs.Shared.AccessLists.{missed_is}

-- the range miss of number i
abbrev pub IsPassingOf : ℕ → RangeMiss → Passing → Type 0
IsPassingOf i miss p = p ≡ record { from = miss.from; to = miss.to; reader = i }

pub passing_pushed : (i : ℕ) (miss : RangeMiss) (xs : List Passing) → Adds (IsPassingOf i miss) xs (xs ++ record { from = miss.from; to = miss.to; reader = i } ∷ [])
passing_pushed i miss xs = adds_push (IsPassingOf i miss) xs _ refl (λ p is. sym is)

-- those of the first n transactions
abbrev pub ArePassingsTo : Accesses → ℕ → List Passing → Type 0
ArePassingsTo a n passings = (p : Passing) → Contains passings p ↔ ((p.reader < n) × HasMiss a p.reader (record { from = p.from; to = p.to }))

pub passings_more : (h : List Event) (a : Accesses) → AreAccesses h (λ _. ⊤) a → (i t : ℕ) → IsCommittedAt h i t → (old new : List Passing) → ArePassingsTo a i old → Adds (FromSome (IsPassingOf i) (slice_index_or a.missed i [])) old new
    → ArePassingsTo a (i + 1) new
passings_more h a are i t at old new before more p = (
  (λ c. elim ((more p).0 c) [
    | inl first ↦ let is = (before p).0 first in (let below = is.0 in omega arith, is.1)
    | inr f ↦ subst (λ (x : Passing). (x.reader < i + 1) × HasMiss a x.reader (record { from = x.from; to = x.to })) (sym f.2) (omega arith, (missed_is h a are i t at f.0).0 f.1)
  ]),
  (λ is. elim (cases_lt p.reader i) [
    | inl under ↦ (more p).1 (inl ((before p).1 (under, is.1)))
    | inr last ↦
        let miss : RangeMiss = record { from = p.from; to = p.to } in
        let same : p.reader ≡ i = (let below = is.0 in omega arith) in
        (more p).1 (inr (miss, (missed_is h a are i t at miss).1 (subst (λ n. HasMiss a n miss) same is.1), (λ x. record { from = p.from; to = p.to; reader = same x })))
  ]),
)

pub passings_are : (a : Accesses) (n : ℕ) (old new : List Passing) → ArePassingsTo a n old → length a.missed ≤ n → IsPermutation old new → IsNonDecreasingBy (λ (p : Passing). p.from) new → ArePassings a new
passings_are a n old new to all moved rise = record {
  each = λ p. (
    (λ c. ((to p).0 (Contains-permutation new old p (IsPermutation-sym old new moved) c)).1),
    (λ has. Contains-permutation old new p moved ((to p).1 (let below = slice_get_within a.missed p.reader has.0 has.1 in omega arith, has))),
  );
  rise = rise;
}
