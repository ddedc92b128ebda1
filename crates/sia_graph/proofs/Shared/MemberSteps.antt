-- The steps of one node, as they are put together.
use Rattle.std.proofs.Common.{◌≡◌, ◌≢◌, ◌⊎◌, inl, inr, ℕ, ◌+◌, ◌*◌, ◌<◌, ◌≤◌, List, [], Option, Some, refl, sym, subst, ◌∙◌, arith, ◌↔◌, Contains, mul-le-mul_left}
use Rattle.sia_events.specs.declared.event.Event.{Event}
use Rattle.sia_events.specs.Lists.{ListsAscending}
use Rattle.sia_events.specs.Refusals.{IsWellFormed}
use Rattle.sia_index.specs.declared.info.KeyVersion.{KeyVersion}
use Rattle.sia_index.specs.Numbers.{IsCommittedAt}
use Rattle.sia_index.specs.Positions.{IsAtPosition}
use Rattle.sia_parts.specs.declared.accesses.Accesses.{Accesses}
use Rattle.sia_parts.specs.Accesses.{SawPosition}
use Rattle.sia_parts.specs.Sights.{Adds, FromSome}
use Rattle.sia_parts.proofs.Shared.Adding.{adds_both, added_to_none}
use Rattle.sia_parts.proofs.Shared.FewNumbers.{few_written}
use Rattle.sia_graph.specs.KeyBlocks.{IsOver, IsUnderSome}
use Rattle.sia_graph.specs.Makers.{IsFirstMaker, IsMaker, IsMakerBefore, IsNextMaker}
use Rattle.sia_graph.specs.NarrowSteps.{node_of}
use Rattle.sia_graph.specs.Passed.{IsPassed, IsSizeFor}
use Rattle.sia_graph.specs.SparseGraphs.{AreMemberTargets, AreSourcesOf, IsBlockStep, IsStepTo}
use Rattle.sia_graph.proofs.SparseGraphs.KeyBlocks.{some_power}
use Rattle.sia_graph.proofs.SparseGraphs.StepsPut.{few_first}
use Rattle.sia_parts.proofs.Shared.OneNumber.{one_committed as one_txn_at}

pub size_few : (size : ℕ) (h : List Event) (a : Accesses) → IsWellFormed h → IsSizeFor size h a → size ≤ 536870912
size_few size h a wf (inl some) = let f = few_written h wf some.0 some.1 in let e = some.2 in omega arith
size_few size h a wf (inr none) = let z = none.0 in omega arith

module _ (h : List Event) (size b : ℕ) where
  -- the leaf of a key
  pub leaf_put : IsWellFormed h → (j : ℕ) → b ≡ size + j → j < size → (found : Option ℕ) → ((i : ℕ) → (found ≡ Some i) ↔ IsFirstMaker h j i) → (new : List ℕ)
      → Adds (λ n. (i : ℕ) × (found ≡ Some i) × (i ≢ 4294967295) × (n ≡ node_of size i)) [] new → (n : ℕ) → Contains new n ↔ IsBlockStep h size b n
  leaf_put wf j at below found told new adds n =
      let is = added_to_none (λ n. (i : ℕ) × (found ≡ Some i) × (i ≢ 4294967295) × (n ≡ node_of size i)) new adds n in (
        (λ c. let p = is.0 c in inr (j, p.0, at, below, (told p.0).0 p.1, p.3)),
        (λ s. elim s [
          | inl half ↦ let l = half.1 in absurd (omega arith)
          | inr leaf ↦
              let same : leaf.0 ≡ j = let e = leaf.2 in omega arith in
              let first = subst (λ k. IsFirstMaker h k leaf.1) same leaf.4 in
              is.1 (leaf.1, (told leaf.1).1 first, (λ e. let f = few_first h wf j leaf.1 first in omega arith), leaf.5)
        ]),
      )

module _ (h : List Event) (a : Accesses) (size i t : ℕ) (at : IsCommittedAt h i t) (saw : List ℕ) (saw_are : (q : ℕ) → Contains saw q ↔ SawPosition a i q) where
  -- what number i waits for
  pub sources_put : (made : List ℕ) → ListsAscending (λ q. (v : KeyVersion) × IsAtPosition h q v × (0 < v.commit) × (v.txn ≡ t)) made → (mid new : List ℕ)
      → Adds (FromSome (IsStepTo size i (IsMaker h)) saw) [] mid → Adds (FromSome (IsStepTo size i (IsMakerBefore h)) made) mid new → AreSourcesOf h a size (node_of size i) new
  sources_put made made_are mid new first second n =
      let is = added_to_none (λ n. FromSome (IsStepTo size i (IsMaker h)) saw n ⊎ FromSome (IsStepTo size i (IsMakerBefore h)) made n) new
      (adds_both (FromSome (IsStepTo size i (IsMaker h)) saw) (FromSome (IsStepTo size i (IsMakerBefore h)) made) [] mid new first second) n in (
        (λ c. elim (is.0 c) [
          | inl s ↦ (i, s.2.0, refl, s.2.3, (s.2.2, s.0, inl ((saw_are s.0).0 s.1, s.2.1)))
          | inr s ↦
              let v = (made_are.each s.0).0 s.1 in
              (i, s.2.0, refl, s.2.3, (s.2.2, s.0, inr ((v.0, v.1, v.2, subst (IsCommittedAt h i) (sym v.3) at), s.2.1)))
        ]),
        (λ w.
            let same : w.0 ≡ i = let e = w.2 in omega arith in
            let other : w.1 ≢ i = λ e. w.4.0 (e ∙ sym same) in
            is.1 (elim w.4.2 [
              | inl s ↦ inl (w.4.1, (saw_are w.4.1).1 (subst (λ k. SawPosition a k w.4.1) same s.0), (w.1, s.1, other, w.3))
              | inr s ↦
                  let m = subst (IsMaker h w.4.1) same s.0 in
                  inr (w.4.1, (made_are.each w.4.1).1 (m.0, m.1, m.2, one_txn_at h i m.0.txn t m.3 at), (w.1, s.1, other, w.3))
            ])),
      )

  -- a node of a transaction is over no key
  not_over : (m j : ℕ) → j < size → ¬ IsOver size (node_of size m) j
  not_over m j below over = grind (arith, some_power, mul-le-mul_left)

  -- what it is before
  pub targets_put : (mid new : List ℕ) (Held : ℕ → Type 0) → Adds (FromSome (IsStepTo size i (IsNextMaker h)) saw) [] mid
      → ((j : ℕ) → j < size → IsUnderSome size new j ↔ (IsUnderSome size mid j ⊎ Held j)) → ((b : ℕ) → Contains mid b → Contains new b)
      → ((b : ℕ) → Contains new b → Contains mid b ⊎ ((0 < b) × (b < 2 * size))) → ((j : ℕ) → Held j ↔ IsPassed h a i j) → AreMemberTargets h a size i new
  targets_put mid new Held first over keeps within held =
      let is = added_to_none (FromSome (IsStepTo size i (IsNextMaker h)) saw) mid first in record {
        members = λ n member. (
          (λ c. elim (within n c) [
            | inl m ↦ let s = (is n).0 m in (s.2.0, s.2.3, (s.2.2, s.0, (saw_are s.0).0 s.1, s.2.1))
            | inr b ↦ let l = b.1 in absurd (omega arith)
          ]),
          (λ w. keeps n ((is n).1 (w.2.1, (saw_are w.2.1).1 w.2.2, (w.0, w.2.3, w.2.0, w.1)))),
        );
        over = λ j below. (
          (λ u. elim ((over j below).0 u) [
            | inl m ↦ let s = (is m.0).0 m.1 in absurd (not_over s.2.0 j below (subst (λ b. IsOver size b j) s.2.3 m.2))
            | inr p ↦ (held j).0 p
          ]),
          (λ p. (over j below).1 (inr ((held j).1 p))),
        );
        some = λ b below c. elim (within b c) [
          | inl m ↦ let s = (is b).0 m in let e = s.2.3 in absurd (omega arith)
          | inr l ↦ l.0
        ];
      }
