-- Where isolation is kept, a read saw the version that is due.
use Rattle.std.proofs.Common.{◌≢◌, ◌⊎◌, inl, inr, ℕ, List, sym, subst}
use Rattle.std.proofs.lemmas.Bool.{cases_eq}
use Rattle.sia_events.specs.declared.event.Event.{Event}
use Rattle.sia_events.specs.Refusals.{IsWellFormed}
use Rattle.sia_events.specs.Transactions.{IsCommitted, WroteBefore}
use Rattle.sia_events.specs.Reads.{SawAt, IsDue}
use Rattle.sia_events.specs.Isolation.{IsolationKept, NoneUnexplained}
use Rattle.sia_events.proofs.OfLaws.Due.{has_due}

module _ (h : List Event) (wf : IsWellFormed h) where
  -- a kept read saw what is due
  pub saw_due : IsolationKept h → (p t k v : ℕ) → SawAt h p t k v → IsDue h t p k v
  saw_due kept p t k v saw =
      let due = has_due h wf t p k (p, (saw.0, saw.1, saw.2)) in
      elim (cases_eq due.0 v) [
        | inl same ↦ subst (λ d. IsDue h t p k d) same due.1
        | inr other ↦ absurd (kept.reads p t k v due.0 (saw, due.1, λ e. other (sym e)))
      ]

  -- so every read is explained
  pub none_unexplained : IsolationKept h → NoneUnexplained h
  none_unexplained kept p t k v bad = by_due (saw_due kept p t k v bad.1) bad.2
    where
      by_due : IsDue h t p k v → ¬ ((WroteBefore h t k p × (v ≢ t)) ⊎ ((v ≢ 0) × (v ≢ t) × ¬ IsCommitted h v))
      by_due (inl own) (inl missed) = missed.1 own.1
      by_due (inl own) (inr unknown) = unknown.1 own.1
      by_due (inr other) (inl missed) = other.0 missed.0
      by_due (inr other) (inr unknown) = elim (other.1) [
        | inl newest ↦ let sees = newest.0.1 in unknown.2 (sees.1, sees.3)
        | inr none ↦ unknown.0 none.1
      ]
