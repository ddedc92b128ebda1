-- The name of a bad read, tried in order.
use Rattle.std.proofs.Common.{◌≡◌, ◌≢◌, inl, inr, ℕ, ◌<◌, ◌≤◌, List, sym, subst, arith}
use Rattle.sia_events.specs.declared.event.Anomaly.{Anomaly}
use Rattle.sia_events.specs.declared.event.Anomaly.TheVariants.{OwnWriteMissed, AbortedRead, UncommittedRead, FutureRead, Phantom, StaleRead}
use Rattle.sia_events.specs.declared.event.Event.{Event}
use Rattle.sia_events.specs.Anomalies.{Fits, IsNamed}
use Rattle.sia_events.specs.Isolation.{IsBadRead, IsUnexplained}
use Rattle.sia_events.specs.Reads.{IsDue}
use Rattle.sia_events.specs.Refusals.{IsWellFormed}
use Rattle.sia_events.specs.Transactions.{CommitsAt, StartsAt, Wrote}
use Rattle.sia_events.proofs.OfLaws.Anomalies.{NoneBelow, anomaly_law, due_wrote_before, none_below_first, none_below_next, rest_is_stale, wrote_before_due}
use Rattle.sia_events.proofs.OfLaws.Due.{one_due}
use Rattle.sia_events.proofs.OfLaws.Endings.{one_end}
use Rattle.sia_events.proofs.Shared.Starts.{one_start}
use Rattle.sia_events.proofs.Writing.WellFormed.{one_commit}
use Rattle.sia_parts.specs.Wrong.{IsWrong}

module _ (h : List Event) (wf : IsWellFormed h) (p t k saw due start : ℕ) (bad : IsBadRead h p t k saw due) (starts : StartsAt h t start) where
  -- its own version was due
  pub named_own : due ≡ t → IsNamed h p t k saw due OwnWriteMissed
  named_own own = (wrote_before_due h wf p t k saw due bad own, none_below_first h p t k saw due)

  not_own : due ≢ t → NoneBelow h p t k saw due 2
  not_own other = none_below_next h p t k saw due OwnWriteMissed (none_below_first h p t k saw due) (λ wrote. other (due_wrote_before h wf p t k saw due bad wrote))

  -- something is wrong with the transaction of what was seen
  pub named_wrong : due ≢ t → (name : Anomaly) → IsWrong h saw start name → IsNamed h p t k saw due name
  named_wrong other OwnWriteMissed wrong = absurd wrong
  named_wrong other AbortedRead wrong = (wrong, not_own other)
  named_wrong other UncommittedRead wrong = (wrong, none_below_next h p t k saw due AbortedRead (not_own other) wrong.2)
  named_wrong other FutureRead wrong = (
    (start, wrong.0, starts, wrong.1, wrong.2),
    none_below_next h p t k saw due UncommittedRead
        (none_below_next h p t k saw due AbortedRead (not_own other) (λ aborted. one_end h wf saw wrong.0 aborted.0 wrong.1 aborted.1))
        (λ runs. runs.1 (wrong.0, wrong.1)),
  )
  named_wrong other Phantom wrong = absurd wrong
  named_wrong other StaleRead wrong = absurd wrong

  -- nothing is
  none_wrong : due ≢ t → ((name : Anomaly) → ¬ IsWrong h saw start name) → NoneBelow h p t k saw due 5
  none_wrong other none =
      none_below_next h p t k saw due FutureRead
      (none_below_next h p t k saw due UncommittedRead (none_below_next h p t k saw due AbortedRead (not_own other) (none AbortedRead)) (none UncommittedRead))
      (λ future. none FutureRead (future.1, future.3, (let same : future.0 ≡ start = one_start h t future.0 start future.2 starts in let less : future.0 < future.1 = future.4 in omega arith)))

  pub named_phantom : due ≢ t → ((name : Anomaly) → ¬ IsWrong h saw start name) → Fits h p t k saw due Phantom → IsNamed h p t k saw due Phantom
  named_phantom other none fits = (fits, none_wrong other none)

  pub named_stale : due ≢ t → ((name : Anomaly) → ¬ IsWrong h saw start name) → ¬ Fits h p t k saw due Phantom → IsNamed h p t k saw due StaleRead
  named_stale other none fails = (rest_is_stale h wf p t k saw due bad (none_wrong other none), none_below_next h p t k saw due Phantom (none_wrong other none) fails)

-- nothing is wrong with what committed no later than the start
pub early_enough : (h : List Event) → IsWellFormed h → (saw start c : ℕ) → CommitsAt h saw c → c ≤ start → (name : Anomaly) → ¬ IsWrong h saw start name
early_enough h wf saw start c at early OwnWriteMissed wrong = wrong
early_enough h wf saw start c at early AbortedRead wrong = one_end h wf saw c wrong.0 at wrong.1
early_enough h wf saw start c at early UncommittedRead wrong = wrong.1 (c, at)
early_enough h wf saw start c at early FutureRead wrong =
    let same : wrong.0 ≡ c = one_commit h wf saw wrong.0 c wrong.1 at in
    let less : start < wrong.0 = wrong.2 in
    omega arith
early_enough h wf saw start c at early Phantom wrong = wrong
early_enough h wf saw start c at early StaleRead wrong = wrong

-- a version that is due was written
pub due_written : (h : List Event) (t p k v : ℕ) → IsDue h t p k v → v ≢ 0 → Wrote h v k
due_written h t p k v (inl own) some = subst (λ u. Wrote h u k) (sym own.1) (own.0.0, own.0.2)
due_written h t p k v (inr (none, inl newest)) some = newest.0.0
due_written h t p k v (inr (none, inr nothing)) some = absurd (some nothing.1)

-- an unexplained read is a bad read, whichever version was due
pub unexplained_is_bad : (h : List Event) → IsWellFormed h → (p t k saw due : ℕ) → IsUnexplained h p t k saw → IsDue h t p k due → IsBadRead h p t k saw due
unexplained_is_bad h wf p t k saw due is is_due =
    let bad = (anomaly_law h wf).unexplained p t k saw is in
    subst (λ d. IsBadRead h p t k saw d) (one_due h t p k bad.0 due bad.1.1 is_due) bad.1
