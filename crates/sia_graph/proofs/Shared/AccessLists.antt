-- What a committed transaction saw and missed, as the lists of its number.
use Rattle.std.proofs.Common.{◌≡◌, ◌⊎◌, inl, inr, ℕ, ◌-◌, ◌≤◌, List, [], ◌∷◌, length, get_or, arith}
use Rattle.std.specs.Prelude.{◌↔◌, ⊤, Contains}
use Rattle.sia_events.specs.declared.event.Event.{Event}
use Rattle.sia_events.specs.Refusals.{IsWellFormed}
use Rattle.sia_index.specs.Lists.{joined}
use Rattle.sia_index.specs.Numbers.{IsCommittedAt}
use Rattle.sia_index.specs.Positions.{HasPosition}
use Rattle.sia_parts.specs.declared.accesses.Accesses.{Accesses}
use Rattle.sia_parts.specs.declared.accesses.RangeMiss.{RangeMiss}
use Rattle.sia_parts.specs.Accesses.{AreAccesses, HasMiss, Missed, SawPosition}
use Rattle.sia_parts.proofs.Shared.FewNumbers.{few_keys}
use Rattle.sia_parts.specs.Sights.{Adds}
use Rattle.sia_parts.proofs.Shared.Adding.{added_to_none}
use Rattle.sia_graph.specs.Makers.{IsFirstMaker}
use Rattle.sia_graph.specs.Passed.{IsHeldBy, IsOwnPassed, IsPassed}
use Rattle.sia_index.proofs.VersionRows.StableDeal.{joined_has}
use Rattle.sia_parts.proofs.EdgeRows.AccessRows.{at_number, missed_within, of_number, saw_within}

pub none_missed : (a : Accesses) → length (joined a.missed) ≡ 0 → (i j : ℕ) → ¬ Missed a i j
none_missed a none i j m = omega (arith, (joined_has a.missed i m.0 (of_number a.missed i m.0 m.1)).1)

module _ (h : List Event) (a : Accesses) (are : AreAccesses h (λ _. ⊤) a) (i t : ℕ) (at : IsCommittedAt h i t) where
  pub saw_is : (q : ℕ) → Contains (get_or a.saw i []) q ↔ SawPosition a i q
  saw_is q = (at_number a.saw i (saw_within h (λ _. ⊤) a are i t at) q, of_number a.saw i q)

  pub saw_position : (q : ℕ) → SawPosition a i q → HasPosition h q
  saw_position q s = let w = are.saw i q s in (w.3.version.0, w.3.version.1)

  pub missed_is : (miss : RangeMiss) → Contains (get_or a.missed i []) miss ↔ HasMiss a i miss
  missed_is miss = (at_number a.missed i (missed_within h (λ _. ⊤) a are i t at) miss, of_number a.missed i miss)

  -- any list of these misses holds the keys that were missed
  pub missed_held : (misses : List RangeMiss) → ((miss : RangeMiss) → Contains misses miss ↔ Contains (get_or a.missed i []) miss) → (j : ℕ) → IsHeldBy misses j ↔ Missed a i j
  missed_held misses same j = (
    (λ m. (m.0, (missed_is m.0).0 ((same m.0).0 m.1), m.2.0, m.2.1)),
    (λ m. (m.0, (same m.0).1 ((missed_is m.0).1 m.1), (m.2, m.3))),
  )

  pub few_missed : IsWellFormed h → (miss : RangeMiss) → HasMiss a i miss → miss.to ≤ 536870912
  few_missed wf miss has =
      let some = are.some i miss has in
      let w = are.missed i (miss.to - 1) (miss, has, omega arith, omega arith) in
      omega (arith, few_keys h wf (miss.to - 1) w.1 w.3)

  -- so what was cut of them are the keys that were passed over
  module _ (misses : List RangeMiss) (same : (miss : RangeMiss) → Contains misses miss ↔ Contains (get_or a.missed i []) miss) (keys : List ℕ) (firsts : (j : ℕ) → Contains keys j ↔ IsFirstMaker h j i) where
    pub own_passed : (own : List ℕ) → Adds (λ j. IsHeldBy misses j × Contains keys j) [] own → (j : ℕ) → Contains own j ↔ IsOwnPassed h a i j
    own_passed own adds j =
        let is = added_to_none (λ j. IsHeldBy misses j × Contains keys j) own adds j in (
          (λ c. let p = is.0 c in ((missed_held misses same j).0 p.0, (firsts j).0 p.1)),
          (λ p. is.1 ((missed_held misses same j).1 p.0, (firsts j).1 p.1)),
        )

    pub held_passed : (held : List RangeMiss) → ((j : ℕ) → IsHeldBy held j ↔ (IsHeldBy [] j ⊎ (IsHeldBy misses j × ¬ Contains keys j))) → (j : ℕ) → IsHeldBy held j ↔ IsPassed h a i j
    held_passed held is j = (
      (λ u. elim ((is j).0 u) [
        | inl none ↦ let l = none.1.1 in absurd (omega arith)
        | inr p ↦ ((missed_held misses same j).0 p.0, (λ m. p.1 ((firsts j).1 m)))
      ]),
      (λ p. (is j).1 (inr ((missed_held misses same j).1 p.0, (λ c. p.1 ((firsts j).0 c))))),
    )
