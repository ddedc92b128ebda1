-- A well-formed history has at most 500,000,000 events, so the numbers of its transactions and keys are below 2 ^ 29.
use Rattle.std.proofs.Common.{◌≡◌, inl, inr, ℕ, zero, suc, ◌<◌, ◌≤◌, List, [], ◌∷◌, Some, length, map, eqb, refl, ap, subst, arith}
use Rattle.std.specs.Prelude.{AllPairs, Contains, slice_get, slice_index_or}
use Rattle.std.specs.Cmp.{IsEquivalence}
use Rattle.std.proofs.lemmas.Bool.{eq-eqb, eqb-true, cases_eq}
use Rattle.std.proofs.lemmas.Bool.Decides.{Decides-eqb}
use Rattle.std.proofs.lemmas.List.{length-map}
use Rattle.std.proofs.lemmas.Map.Made.{IsDistinct-from_AllPairs, is_member-Decides, length-le_from_is_member}
use Rattle.sia_events.specs.declared.event.Event.{Event}
use Rattle.sia_events.specs.declared.event.Event.TheVariants.{Begin, Read, Range, Write, Commit, Abort}
use Rattle.sia_events.specs.Events.{actor}
use Rattle.sia_events.specs.Lists.{ListsAscending}
use Rattle.sia_events.specs.Places.{at_place}
use Rattle.sia_events.specs.Refusals.{IsWellFormed}
use Rattle.sia_events.specs.Transactions.{IsCommitted, Wrote}
use Rattle.sia_events.proofs.Writing.WellFormed.{few_events}
use Rattle.sia_index.specs.Info.{AreWrittenKeys, IsKeyAt}
use Rattle.sia_index.specs.Numbers.{IsCommittedAt}
use Rattle.sia_parts.proofs.Auditing.Members.{contains_first, contains_later}

equal_laws : IsEquivalence eqb
equal_laws = record {
  refl = λ x. eq-eqb x x refl;
  symm = λ x y. elim (cases_eq x y) [ inl same ↦ cc | inr differ ↦ grind (arith, eqb-true, eq-eqb) ];
  congr = λ x y z e. let same = eqb-true x y e in ap (λ w. eqb w z) same;
}

-- what stands in a list, by a number of each, is in the list of these numbers
numbered : {A : Type 0} (f : A → ℕ) (xs : List A) (i : ℕ) (x : A) → slice_get xs i ≡ Some x → Contains (map f xs) (f x)
numbered f [] i x at = absurd cc
numbered f (y ∷ ys) zero x at = let same : y ≡ x = cc in subst (λ (z : _). Contains (map f (y ∷ ys)) (f z)) same (contains_first (f y) (map f ys))
numbered f (y ∷ ys) (suc i) x at = contains_later (f y) (f x) (map f ys) (numbered f ys i x at)

-- a list that ascends, each of whose numbers is that of some event, is no longer than the history
few : (h : List Event) (f : Event → ℕ) (xs : List ℕ) → AllPairs (λ x y. (x < y)) xs → ((x : ℕ) → Contains xs x → (p : ℕ) × (e : Event) × (at_place h p ≡ Some e) × (f e ≡ x)) → length xs ≤ length h
few h f xs up each =
    let le = length-le_from_is_member equal_laws xs (map f h) (IsDistinct-from_AllPairs Decides-eqb xs (λ i j d less below. let under : slice_index_or xs i d < slice_index_or xs j d = up i j d less below in omega arith))
    (λ q is. (is_member-Decides Decides-eqb (map f h) q).1 (found q ((is_member-Decides Decides-eqb xs q).0 is))) in
    omega (arith, length-map h f)
  where
    at_some : (p : ℕ) (e : Event) → at_place h p ≡ Some e → Contains (map f h) (f e)
    at_some zero e at = absurd cc
    at_some (suc p) e at = numbered f h p e at

    found : (q : ℕ) → Contains xs q → Contains (map f h) q
    found q c = let is = each q c in subst (Contains (map f h)) is.3 (at_some is.0 is.1 is.2)

ascends : (P : ℕ → Type 0) (xs : List ℕ) → ListsAscending P xs → AllPairs (λ x y. (x < y)) xs
ascends P xs are i j d less below = elim (are.ascending i j d less below) [ inl under ↦ under | inr same ↦ absurd same.1 ]

pub few_committed : (h : List Event) → IsWellFormed h → (i t : ℕ) → IsCommittedAt h i t → i < 536870912
few_committed h wf i t at =
    let le : length at.0 ≤ length h = few h actor at.0 (ascends (IsCommitted h) at.0 at.1) (λ x c. let is = (at.1.each x).0 c in (is.0, Commit x, is.1, refl)) in
    let most = few_events h wf in
    let below = at.2 in
    omega arith

written_key : Event → ℕ
written_key (Begin t start) = 0
written_key (Read t k v) = 0
written_key (Range t lo hi listed) = 0
written_key (Write t k) = k
written_key (Commit t) = 0
written_key (Abort t) = 0

pub few_written : (h : List Event) → IsWellFormed h → (keys : List ℕ) → AreWrittenKeys h keys → length keys ≤ 500000000
unfolding written_key
few_written h wf keys are =
    let le : length keys ≤ length h = few h written_key keys (ascends (λ k. (t : ℕ) × Wrote h t k) keys are) (λ x c. let is = (are.each x).0 c in (is.1.0, Write is.0 x, is.1.1, refl)) in
    let most = few_events h wf in
    omega arith

pub few_keys : (h : List Event) → IsWellFormed h → (i k : ℕ) → IsKeyAt h i k → i < 536870912
few_keys h wf i k at = let few = few_written h wf at.0 at.1 in let below = at.2 in omega arith
