-- A key that no write event names has no entry in a verdict.
use Rattle.std.proofs.Common.{◌≡◌, inl, inr, ℕ, List, sym, ◌∙◌}
use Rattle.std.proofs.lemmas.Bool.{cases_eq}
use Rattle.sia_events.specs.declared.event.Event.{Event}
use Rattle.sia_events.specs.Refusals.{IsWellFormed}
use Rattle.sia_events.specs.Transactions.{Wrote}
use Rattle.sia_events.specs.Reads.{SawAt, IsDue}
use Rattle.sia_events.specs.Laws.{UnwrittenLaw}
use Rattle.sia_events.proofs.OfLaws.Seen.{saw_written}

module _ (h : List Event) (wf : IsWellFormed h) (k : ℕ) (none : (t : ℕ) → ¬ Wrote h t k) where
  -- it is seen at version 0 alone
  pub saw_zero : (p t v : ℕ) → SawAt h p t k v → v ≡ 0
  saw_zero p t v saw = elim (cases_eq v 0) [
    | inl is ↦ is
    | inr other ↦ let w = saw_written h wf p t k v saw other in absurd (none v (w.0, w.2))
  ]

  -- and 0 is due
  pub due_zero : (p t v : ℕ) → IsDue h t p k v → v ≡ 0
  due_zero p t v (inl own) = absurd (none t (own.0.0, own.0.2))
  due_zero p t v (inr other) = elim other.1 [
    | inl newest ↦ absurd (none v newest.0.0)
    | inr unseen ↦ unseen.1
  ]

-- a key that no write event names has no entry
pub unwritten_has_none : (h : List Event) → IsWellFormed h → UnwrittenLaw h
unwritten_has_none h wf k none = record {
  bad_reads = λ p t saw due bad. bad.2 (saw_zero h wf k none p t saw bad.0 ∙ sym (due_zero h wf k none p t due bad.1));
  bad_writes = λ first second bad. none first bad.0;
  ww = λ t u edge. none t edge.0;
  wr = λ t u edge. none t edge.1.0;
  rw = λ t u edge. none u edge.2.0;
  unexplained = λ p t v bad. elim bad.2 [
    | inl own ↦ none t (own.0.0, own.0.2)
    | inr other ↦ other.0 (saw_zero h wf k none p t v bad.1)
  ];
}
