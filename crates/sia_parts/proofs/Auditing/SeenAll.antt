-- What all reads of a part saw is what is to be found there.
use Rattle.std.proofs.Common.{◌≡◌, ◌⊎◌, inl, inr, ℕ, ◌<◌, ◌≤◌, List, [], refl, sym, subst, ◌∙◌, arith}
use Rattle.std.specs.Prelude.{◌↔◌, All, Contains}
use Rattle.std.proofs.lemmas.Bool.{cases_eq}
use Rattle.std.proofs.lemmas.List.{get_or_default}
use Rattle.std.proofs.lemmas.List.Elements.{All-contains}
use Rattle.sia_events.specs.declared.event.Event.{Event}
use Rattle.sia_events.specs.Isolation.{IsBadRead, IsUnexplained}
use Rattle.sia_events.specs.Lists.{ListsAscending}
use Rattle.sia_events.specs.NarrowDependencies.{Looked}
use Rattle.sia_events.specs.Refusals.{IsWellFormed}
use Rattle.sia_events.specs.Transactions.{IsCommitted, Wrote}
use Rattle.sia_events.proofs.OfLaws.Seen.{saw_written}
use Rattle.sia_index.specs.Info.{AreWrittenKeys, IsKeyAt}
use Rattle.sia_index.specs.Numbers.{IsCommittedAt}
use Rattle.sia_parts.specs.declared.audit.sights.Seen.{Seen}
use Rattle.sia_parts.specs.Sights.{Sight, FromSome, IsSight, bad_sight, unexplained_sight}
use Rattle.sia_parts.specs.declared.cutting.Part.{Part}
use Rattle.sia_parts.specs.declared.finding.BadRead.{BadRead}
use Rattle.sia_parts.specs.declared.finding.Unexplained.{Unexplained}
use Rattle.sia_parts.specs.Dealing.{HasReadsOf}
use Rattle.sia_parts.specs.Accesses.{AreSights, IsLookAt, IsPassedBy}
use Rattle.sia_parts.specs.Parts.{IsInPart}
use Rattle.sia_parts.specs.Seeing.{Gains, HasSeenAt, IsMiss, IsPlaced, IsSightWithin}
use Rattle.sia_parts.proofs.Auditing.Committing.{at_is_committed}
use Rattle.sia_parts.proofs.Auditing.Positions.{due_is_written, version_written}
use Rattle.sia_parts.proofs.Shared.OneNumber.{one_key}
use Rattle.sia_parts.proofs.Auditing.Passing.{has_number}

module _ (h : List Event) (wf : IsWellFormed h) (keys : List ℕ) (are : AreWrittenKeys h keys) (part : Part) (first end : ℕ) (scope : (j : ℕ) → ((first ≤ j) × (j < end)) ↔ ((k : ℕ) × IsKeyAt h j k × IsInPart part k))
    (places : List ℕ) (reads : HasReadsOf h part places) (old new : Seen) (no_bad : old.wrong.bad_reads.items ≡ []) (no_unexplained : old.wrong.unexplained.items ≡ []) (no_saw : old.saw ≡ []) (no_missed : old.missed ≡ [])
    (gains : Gains h (λ s. FromSome (λ place. IsSightWithin h place first end) places s) old new) where
  abbrev P : Sight → Type 0
  P s = FromSome (λ place. IsSightWithin h place first end) places s

  -- a sight of a written key of the part
  is_there : (s : Sight) → IsSight h s → IsInPart part s.key → (u : ℕ) → Wrote h u s.key → P s
  is_there s saw within u wrote =
      let j = has_number h keys are s.key u wrote in
      let number = (scope j.0).1 (s.key, j.1, within) in
      (s.place, reads s.place s.txn s.key s.saw saw within, (refl, saw, j.0, j.1, number.0, number.1))

  in_part : (s : Sight) → P s → IsInPart part s.key
  in_part s f = let k = (scope f.2.2).0 (f.2.4, f.2.5) in subst (IsInPart part) (one_key h f.2.2 k.0 s.key k.1 f.2.3) k.2

  pub bad_reads_are : (b : BadRead) → Contains new.wrong.bad_reads.items b ↔ (IsBadRead h b.place b.txn b.key b.saw b.due × IsInPart part b.key)
  bad_reads_are b = (
    (λ c. elim ((gains.wrong.bad_reads b).0 c) [
      | inl before ↦ absurd (let c = subst (λ l. Contains l b) no_bad before in let below = c.1 in omega arith)
      | inr f ↦ (f.2.1, subst (λ (s : Sight). IsInPart part s.key) (sym f.2.0) (in_part f.0 f.1))
    ]),
    (λ w.
        let wrote = bad_wrote w.0 in
        (gains.wrong.bad_reads b).1 (inr (bad_sight b, is_there (bad_sight b) w.0.0 w.1 wrote.0 wrote.1, (refl, w.0)))),
  )
    where
      bad_wrote : IsBadRead h b.place b.txn b.key b.saw b.due → (u : ℕ) × Wrote h u b.key
      bad_wrote bad = elim (cases_eq b.saw 0) [
        | inl zero ↦ due_is_written h b.txn b.place b.key b.due bad.1 (λ due. bad.2 (zero ∙ sym due))
        | inr other ↦ let before = saw_written h wf b.place b.txn b.key b.saw bad.0 other in (b.saw, (before.0, before.2))
      ]

  pub unexplained_are : (u : Unexplained) → Contains new.wrong.unexplained.items u ↔ (IsUnexplained h u.place u.txn u.key u.saw × IsInPart part u.key)
  unexplained_are u = (
    (λ c. elim ((gains.wrong.unexplained u).0 c) [
      | inl before ↦ absurd (let c = subst (λ l. Contains l u) no_unexplained before in let below = c.1 in omega arith)
      | inr f ↦ (f.2.1, subst (λ (s : Sight). IsInPart part s.key) (sym f.2.0) (in_part f.0 f.1))
    ]),
    (λ w.
        let wrote = unexplained_wrote w.0 in
        (gains.wrong.unexplained u).1 (inr (unexplained_sight u, is_there (unexplained_sight u) w.0.1 w.1 wrote.0 wrote.1, (refl, w.0)))),
  )
    where
      unexplained_wrote : IsUnexplained h u.place u.txn u.key u.saw → (t : ℕ) × Wrote h t u.key
      unexplained_wrote is = elim is.2 [
        | inl own ↦ (u.txn, (own.0.0, own.0.2))
        | inr loose ↦ let before = saw_written h wf u.place u.txn u.key u.saw is.1 loose.0 in (u.saw, (before.0, before.2))
      ]

  -- what was seen was looked at
  looked : (at : ℕ × ℕ × ℕ) → HasSeenAt h new at → (t k : ℕ) × IsCommittedAt h at.0 t × IsKeyAt h at.1 k × Looked h t k at.2 × IsInPart part k
  looked at e = elim ((gains.looks at).0 e) [
    | inr f ↦
        let s = f.0 in
        let look = f.2 in
        (s.txn, s.key, look.0, look.1, (at_is_committed h at.0 s.txn look.0, s.place, s.saw, f.1.2.1, look.2, look.3), in_part s f.1)
    | inl before ↦ elim before [
      | inl f ↦ absurd (let c = subst (λ l. Contains l f.0) no_saw f.1 in let below = c.1 in omega arith)
      | inr f ↦ absurd (let c = subst (λ l. Contains l f.0.0) no_missed f.0.1 in let below = c.1 in omega arith)
    ]
  ]

  placed : All (IsPlaced h) new.saw
  placed = gains.placed (rw no_saw (λ i d below. absurd (omega arith)))

  some : All IsMiss new.missed
  some = gains.some (rw no_missed (λ i d below. absurd (omega arith)))

  -- the version at a position was looked at
  look_at : (i q : ℕ) → Contains new.saw (i, q) → (t k c : ℕ) × IsLookAt h i q t k c × Looked h t k c × IsInPart part k
  look_at i q has =
      let there = All-contains (IsPlaced h) new.saw (i, q) placed has in
      let v = there.0 in
      let written = version_written h q v there.1 in
      let j = has_number h keys are v.key written.0 written.1 in
      let f = looked (i, j.0, v.commit) (inl ((i, q), has, (refl, v, there.1, j.1, refl))) in
      let key : f.1 ≡ v.key = one_key h j.0 f.1 v.key f.3 j.1 in
      (f.0, f.1, v.commit, (f.2, v, there.1, sym key, refl), f.4, f.5)

  module _ (txns : List ℕ) (txns_are : ListsAscending (IsCommitted h) txns) where
    covered : (t k c u : ℕ) → Looked h t k c → Wrote h u k → IsInPart part k
        → ((i q : ℕ) × Contains new.saw (i, q) × IsLookAt h i q t k c) ⊎ ((c ≡ 0) × (i j : ℕ) × FromSome IsPassedBy new.missed (i, j) × IsCommittedAt h i t × IsKeyAt h j k)
    covered t k c u look wrote within =
        let n = (txns_are.each t).1 look.0 in
        let i : IsCommittedAt h n.0 t = (txns, txns_are, n.1, get_or_default txns n.0 0 t n.1 ∙ n.2) in
        let j = has_number h keys are k u wrote in
        let s : Sight = record { place = look.1; txn = t; key = k; saw = look.2 } in
        elim ((gains.looks (n.0, j.0, c)).1 (inr (s, is_there s look.3 within u wrote, (i, j.1, look.4, look.5)))) [
          | inl f ↦
              let is = f.2 in
              let key : is.1.key ≡ k = one_key h j.0 is.1.key k is.3 j.1 in
              inl (n.0, f.0.1, subst (λ m. Contains new.saw (m, f.0.1)) is.0 f.1, (i, is.1, is.2, key, is.4))
          | inr f ↦ inr (f.1, n.0, j.0, f.0, i, j.1)
        ]

    pub sights_are : AreSights h (IsInPart part) new.saw new.missed
    sights_are = record {
      saw = look_at;
      missed = λ i j f. looked (i, j, 0) (inr (f, refl));
      some = λ i miss has. All-contains IsMiss new.missed (i, miss) some has;
      each = covered;
    }
