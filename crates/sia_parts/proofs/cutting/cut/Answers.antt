-- The starts are what a sort and a dedup leave of the points and 0, and the cuts are those without the first.
use Rattle.std.proofs.Common.{◌≡◌, ℕ, ◌<◌, List, [], ◌∷◌, ◌++◌, length, eqb, ap, sym, subst, ◌∙◌, arith}
use Rattle.std.specs.List.{dedup}
use Rattle.std.specs.List.Sorted.{IsPermutation, IsSorted, IsStrictlyIncreasing}
use Rattle.std.specs.Ordering.{nat_cmp}
use Rattle.std.proofs.lemmas.List.Filters.{dedup_is}
use Rattle.sia_events.specs.Lists.{ListsAscending}
use Rattle.sia_parts.specs.Parts.{parts_from}
use Rattle.sia_parts.proofs.CutKeys.StartLemmas.{IsStart, few_cuts, increasing, some_starts, starts_of_points, too_many_cuts}
use Rattle.sia_parts.proofs.CutKeys.PartLemmas.{length-parts_from}
use Rattle.sia_parts.proofs.cutting.cut.Goals as goal

starts_are : (points none front all sorted starts : List ℕ) → none ≡ [] → front ≡ none ++ points → all ≡ front ++ 0 ∷ [] → IsPermutation all sorted → IsSorted nat_cmp sorted → starts ≡ dedup eqb sorted → ListsAscending (IsStart points) starts
starts_are points none front all sorted starts empty first last moved rises once =
    starts_of_points points sorted starts (subst (λ xs. IsPermutation xs sorted) (last ∙ ap (λ xs. xs ++ 0 ∷ []) (first ∙ ap (λ xs. xs ++ points) empty)) moved) rises once

pub returns-then-len-gt-MAX_PARTS-clause-too_many : goal.returns-then-len-gt-MAX_PARTS-clause-too_many
returns-then-len-gt-MAX_PARTS-clause-too_many c e = too_many_cuts _ c.dedup.new.self.items (starts_are _ _ _ _ _ _ c.in_ok-starts.ensures.items c.in_ok-extend_from_slice.ensures.items c.in_ok-extend_from_slice-2.ensures.items c.sort_unstable.ensures.permutation c.sort_unstable.ensures.sorted (dedup_is _ _ _ c.dedup.ensures.filtered)) (omega (arith, c.dedup.new.self.ok))

pub parts_of-requires : goal.parts_of-requires
parts_of-requires c = subst IsStrictlyIncreasing (sym c.deref.ensures.value) (increasing _ (starts_are _ _ _ _ _ _ c.in_ok-starts.ensures.items c.in_ok-extend_from_slice.ensures.items c.in_ok-extend_from_slice-2.ensures.items c.sort_unstable.ensures.permutation c.sort_unstable.ensures.sorted (dedup_is _ _ _ c.dedup.ensures.filtered)).ascending)

pub returns-clause-parts : goal.returns-clause-parts
returns-clause-parts c = (c.dedup.new.self.items, (starts_are _ _ _ _ _ _ c.in_ok-starts.ensures.items c.in_ok-extend_from_slice.ensures.items c.in_ok-extend_from_slice-2.ensures.items c.sort_unstable.ensures.permutation c.sort_unstable.ensures.sorted (dedup_is _ _ _ c.dedup.ensures.filtered)), c.in_ok-parts_of.ensures.parts ∙ ap parts_from c.deref.ensures.value)

pub returns-clause-few : goal.returns-clause-few
returns-clause-few c = few_cuts _ c.dedup.new.self.items (starts_are _ _ _ _ _ _ c.in_ok-starts.ensures.items c.in_ok-extend_from_slice.ensures.items c.in_ok-extend_from_slice-2.ensures.items c.sort_unstable.ensures.permutation c.sort_unstable.ensures.sorted (dedup_is _ _ _ c.dedup.ensures.filtered)) (omega (arith, c.dedup.new.self.ok))

pub returns-clause-some : goal.returns-clause-some
returns-clause-some c =
    let some : 0 < length c.dedup.new.self.items = some_starts _ _ (starts_are _ _ _ _ _ _ c.in_ok-starts.ensures.items c.in_ok-extend_from_slice.ensures.items c.in_ok-extend_from_slice-2.ensures.items c.sort_unstable.ensures.permutation c.sort_unstable.ensures.sorted (dedup_is _ _ _ c.dedup.ensures.filtered)) in
    let same = ap length (c.in_ok-parts_of.ensures.parts ∙ ap parts_from c.deref.ensures.value) in
    omega (arith, length-parts_from)

pub returns-clause-bound : goal.returns-clause-bound
returns-clause-bound c =
    let same = ap length (c.in_ok-parts_of.ensures.parts ∙ ap parts_from c.deref.ensures.value) in
    omega (arith, length-parts_from, c.dedup.new.self.ok)
