-- Blocks over the keys of stretches, added stretch by stretch.
use Rattle.std.proofs.Common.{◌≡◌, ◌⊎◌, inl, inr, ℕ, ◌+◌, ◌*◌, ◌<◌, ◌≤◌, List, length, get_or, subst, arith, ◌↔◌, Contains, take_all}
use Rattle.sia_parts.specs.declared.accesses.RangeMiss.{RangeMiss}
use Rattle.sia_parts.specs.Sights.{FromSome}
use Rattle.sia_parts.proofs.Shared.Adding.{FromFirst, first_more}
use Rattle.sia_graph.specs.KeyBlocks.{IsUnderSome}
use Rattle.sia_graph.specs.Passed.{IsHeldBy}
use Rattle.sia_graph.proofs.OnEvidence.JoinedMisses.{Holds}

-- of so many keys a stretch holds those that it holds up to there
pub held_below : (size from to low high : ℕ) → (low ≡ from) ⊎ (low ≡ size) → low ≤ from → low ≤ size → (high ≡ to) ⊎ (high ≡ size) → high ≤ to → high ≤ size
    → (j : ℕ) → j < size → ((low ≤ j) × (j < high)) ↔ ((from ≤ j) × (j < to))
held_below size from to low high a first most b last least j l = grind arith

-- the blocks are over the keys of the first n stretches
pub record HasBlocksTo (size : ℕ) (stretches : List RangeMiss) (n : ℕ) (old blocks : List ℕ) : Type 0 where
  pub over : (j : ℕ) → j < size → IsUnderSome size blocks j ↔ (IsUnderSome size old j ⊎ FromFirst Holds stretches n j)
  pub keeps : (b : ℕ) → Contains old b → Contains blocks b
  pub within : (b : ℕ) → Contains blocks b → Contains old b ⊎ ((0 < b) × (b < 2 * size))

pub blocks_more : (size : ℕ) (stretches : List RangeMiss) (n : ℕ) (d : RangeMiss) (old blocks new : List ℕ) → n < length stretches → HasBlocksTo size stretches n old blocks
    → ((j : ℕ) → j < size → IsUnderSome size new j ↔ (IsUnderSome size blocks j ⊎ Holds (get_or stretches n d) j)) → ((b : ℕ) → Contains blocks b → Contains new b)
    → ((b : ℕ) → Contains new b → Contains blocks b ⊎ ((0 < b) × (b < 2 * size))) → HasBlocksTo size stretches (n + 1) old new
blocks_more size stretches n d old blocks new below before over keeps within = record {
  over = λ j l. (
    (λ u. elim ((over j l).0 u) [
      | inl b ↦ elim ((before.over j l).0 b) [ inl o ↦ inl o | inr f ↦ inr ((first_more Holds stretches n d below j).0 (inl f)) ]
      | inr f ↦ inr ((first_more Holds stretches n d below j).0 (inr f))
    ]),
    (λ e. (over j l).1 (elim e [
      | inl o ↦ inl ((before.over j l).1 (inl o))
      | inr f ↦ elim ((first_more Holds stretches n d below j).1 f) [ inl a ↦ inl ((before.over j l).1 (inr a)) | inr a ↦ inr a ]
    ])),
  );
  keeps = λ b c. keeps b (before.keeps b c);
  within = λ b c. elim (within b c) [ inl i ↦ before.within b i | inr w ↦ inr w ];
}

pub blocks_all : (size : ℕ) (stretches : List RangeMiss) (n : ℕ) (old blocks : List ℕ) → length stretches ≤ n → HasBlocksTo size stretches n old blocks
    → (j : ℕ) → j < size → IsUnderSome size blocks j ↔ (IsUnderSome size old j ⊎ IsHeldBy stretches j)
blocks_all size stretches n old blocks all has j l = subst (λ (xs : List RangeMiss). IsUnderSome size blocks j ↔ (IsUnderSome size old j ⊎ FromSome Holds xs j)) (take_all n stretches all) (has.over j l)
