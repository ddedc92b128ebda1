-- Each bad read of a well-formed history has one name. The lemmas go in the order of the names, for code that tries them so.
use Rattle.std.proofs.Common.{◌≡◌, ◌≢◌, ◌⊎◌, inl, inr, ℕ, ◌+◌, ◌<◌, ◌≤◌, List, refl, sym, subst, ◌∙◌, arith}
use Rattle.std.proofs.lemmas.Bool.{cases_lt, cases_eq, cases_order}
use Rattle.sia_events.specs.declared.event.Event.{Event}
use Rattle.sia_events.specs.declared.event.Event.TheVariants.{Range, Write}
use Rattle.sia_events.specs.declared.event.Anomaly.{Anomaly}
use Rattle.sia_events.specs.declared.event.Anomaly.TheVariants.{OwnWriteMissed, AbortedRead, UncommittedRead, FutureRead, Phantom, StaleRead}
use Rattle.sia_events.specs.Refusals.{IsWellFormed}
use Rattle.sia_events.specs.Transactions.{HasEvent, IsCommitted, CommitsAt, StartsBeforeCommit, WroteBefore}
use Rattle.sia_events.specs.Reads.{SawAt, IsVisible, IsNewestVisible, IsDue}
use Rattle.sia_events.specs.Dependencies.{IsVersionBefore}
use Rattle.sia_events.specs.Isolation.{IsBadRead, IsUnexplained}
use Rattle.sia_events.specs.Anomalies.{LeavesOut, Fits, anomaly_number, IsNamed, AnomalyLaw}
use Rattle.sia_events.proofs.Shared.Decisions.{Decided}
use Rattle.sia_events.proofs.Shared.TransactionDecisions.{wrote_before_or_not, committed_or_not, aborted_or_not, open_or_not, has_start}
use Rattle.sia_events.proofs.OfLaws.SawDecisions.{listed_or_not}
use Rattle.sia_events.proofs.Shared.Starts.{one_event, one_start}
use Rattle.sia_events.proofs.OfLaws.StartsBelow.{start_below_commit}
use Rattle.sia_events.proofs.OfLaws.Endings.{two_commits}
use Rattle.sia_events.proofs.Writing.WellFormed.{one_commit}
use Rattle.sia_events.proofs.OfLaws.Seen.{actor_is_txn, saw_written}
use Rattle.sia_events.proofs.OfLaws.Due.{has_due, one_due}

-- two anomalies have two numbers
one_anomaly : (a b : Anomaly) → anomaly_number a ≡ anomaly_number b → a ≡ b
one_anomaly a b same = grind (arith)

module _ (h : List Event) (p t k saw due : ℕ) where
  -- two names of a read are one
  one_name : (name other : Anomaly) → IsNamed h p t k saw due name → IsNamed h p t k saw due other → name ≡ other
  one_name name other a b = elim (cases_order (anomaly_number name) (anomaly_number other)) [
    | inl same ↦ one_anomaly name other same
    | inr differ ↦ elim differ [ inl less ↦ absurd (b.1 name less a.0) | inr more ↦ absurd (a.1 other more b.0) ]
  ]

-- no anomaly with a number below n fits
abbrev pub NoneBelow : List Event → ℕ → ℕ → ℕ → ℕ → ℕ → ℕ → Type 0
NoneBelow h p t k saw due n = (other : Anomaly) → anomaly_number other < n → ¬ Fits h p t k saw due other

module _ (h : List Event) (p t k saw due : ℕ) where
  -- none is before the first, and where one doesn't fit, none is before the next
  pub none_below_first : NoneBelow h p t k saw due 1
  none_below_first h below fits = grind (arith)

  pub none_below_next : (name : Anomaly) → NoneBelow h p t k saw due (anomaly_number name) → ¬ Fits h p t k saw due name → NoneBelow h p t k saw due (anomaly_number name + 1)
  none_below_next name none fails other below fits = elim (cases_eq (anomaly_number other) (anomaly_number name)) [
    | inl same ↦ fails (subst (Fits h p t k saw due) (one_anomaly other name same) fits)
    | inr differ ↦ none other (omega arith) fits
  ]

  -- one that fits is the name, or the next is looked at
  or_next : (name : Anomaly) → NoneBelow h p t k saw due (anomaly_number name) → Decided (Fits h p t k saw due name)
      → (NoneBelow h p t k saw due (anomaly_number name + 1) → (found : Anomaly) × IsNamed h p t k saw due found) → (found : Anomaly) × IsNamed h p t k saw due found
  or_next name none h next = grind (arith)

-- whether an event leaves out a key
leaves_out_or_not : (e : Event) (k : ℕ) → Decided (LeavesOut e k)
leaves_out_or_not (Range t lo hi listed) k = elim (listed_or_not listed k) [ inl found ↦ inr (λ l. l found.0 found.1) | inr none ↦ inl none ]
leaves_out_or_not _ k = inr (λ l. l)

phantom_or_not : (h : List Event) (p t k saw due : ℕ) → SawAt h p t k saw → Decided (Fits h p t k saw due Phantom)
phantom_or_not h p t k saw due s = elim (cases_eq due 0) [
  | inl least ↦ inr (λ f. f.0 least)
  | inr other ↦ elim (leaves_out_or_not s.0 k) [
    | inl out ↦ inl (other, s.0, s.1, out)
    | inr listed ↦ inr (λ f. listed (subst (λ e. LeavesOut e k) (one_event h p p f.1 s.0 refl f.2 s.1) f.3))
  ]
]

module _ (h : List Event) (wf : IsWellFormed h) where
  -- whether what has an event starts before another's commit
  starts_before_or_not : (t u : ℕ) → HasEvent h t → Decided (StartsBeforeCommit h t u)
  starts_before_or_not t u has = elim (committed_or_not h u) [
    | inl done ↦ let start = has_start h t has in elim (cases_lt start.0 done.0) [
      | inl less ↦ inl (start.0, done.0, start.1, done.1, less)
      | inr most ↦ inr (λ f.
          let s : f.0 ≡ start.0 = one_start h t f.0 start.0 f.2 start.1 in
          let c : f.1 ≡ done.0 = one_commit h wf u f.1 done.0 f.3 done.1 in
          let less : f.0 < f.1 = f.4 in
          omega arith)
    ]
    | inr none ↦ inr (λ f. none (f.1, f.3))
  ]

  module _ (p t k saw due : ℕ) (bad : IsBadRead h p t k saw due) where
    -- the reader's own version is due exactly where it wrote the key before
    pub wrote_before_due : due ≡ t → WroteBefore h t k p
    wrote_before_due same = of_due bad.1
      where
        of_due : IsDue h t p k due → WroteBefore h t k p
        of_due (inl own) = own.0
        of_due (inr (other, inl newest)) =
            let sees = newest.0.1 in
            let before : sees.0 < sees.1 = start_below_commit h wf t sees.0 sees.1 sees.2 (subst (λ u. CommitsAt h u sees.1) same sees.3) in
            let seen : sees.1 ≤ sees.0 = sees.4 in
            absurd (omega arith)
        of_due (inr (other, inr unseen)) =
            let zero : due ≡ 0 = unseen.1 in
            let positive : 0 < t = (actor_is_txn h wf t p (bad.0.0, bad.0.1, bad.0.2)).0 in
            absurd (omega arith)

    pub due_wrote_before : WroteBefore h t k p → due ≡ t
    due_wrote_before wrote = one_due h t p k due t bad.1 (inl (wrote, refl))

    no_event : saw ≡ 0 → ¬ HasEvent h saw
    no_event least has = let positive : 0 < saw = (actor_is_txn h wf saw has.0 has.1).0 in omega arith

    -- a version that was seen of what neither aborted nor is open nor committed later is 0 or visible
    zero_or_visible : NoneBelow h p t k saw due 5 → (saw ≡ 0) ⊎ IsVisible h t k saw
    zero_or_visible none = elim (cases_eq saw 0) [
      | inl least ↦ inl least
      | inr other ↦ let wrote = saw_written h wf p t k saw bad.0 other in elim (committed_or_not h saw) [
        | inl done ↦ let start = has_start h t (p, (bad.0.0, bad.0.1, bad.0.2)) in elim (cases_lt start.0 done.0) [
          | inl less ↦ absurd (none FutureRead (omega arith) (start.0, done.0, start.1, done.1, less))
          | inr most ↦ inr ((wrote.0, wrote.2), (start.0, done.0, start.1, done.1, most))
        ]
        | inr runs ↦ absurd (none UncommittedRead (omega arith) ((wrote.0, (Write saw k, wrote.2, refl)), runs, none AbortedRead (omega arith)))
      ]
    ]

    -- where none of the others fits, the version that was seen is older than the one due
    pub rest_is_stale : NoneBelow h p t k saw due 5 → Fits h p t k saw due StaleRead
    rest_is_stale none = of_due bad.1
      where
        before_newest : IsNewestVisible h t k due → (saw ≡ 0) ⊎ IsVisible h t k saw → IsVersionBefore h k saw due
        before_newest newest (inl least) = inl (least, (newest.0.0, (newest.0.1.1, newest.0.1.3)))
        before_newest newest (inr seen) =
            let most : seen.1.1 ≤ newest.0.1.1 = newest.1 saw seen.1.1 newest.0.1.1 seen seen.1.3 newest.0.1.3 in
            let differ : seen.1.1 ≢ newest.0.1.1 = two_commits h saw due seen.1.1 newest.0.1.1 bad.2 seen.1.3 newest.0.1.3 in
            inr (seen.0, newest.0.0, (seen.1.1, newest.0.1.1, seen.1.3, newest.0.1.3, omega arith))

        of_due : IsDue h t p k due → IsVersionBefore h k saw due
        of_due (inl own) = absurd (none OwnWriteMissed (omega arith) own.0)
        of_due (inr (other, inl newest)) = before_newest newest (zero_or_visible none)
        of_due (inr (other, inr unseen)) = absurd (elim (zero_or_visible none) [ inl least ↦ bad.2 (least ∙ sym unseen.1) | inr seen ↦ unseen.0 saw seen ])

    has_name : (name : Anomaly) × IsNamed h p t k saw due name
    has_name =
        or_next h p t k saw due OwnWriteMissed (none_below_first h p t k saw due) (wrote_before_or_not h t k p)
        (λ n. or_next h p t k saw due AbortedRead n (aborted_or_not h saw)
        (λ n. or_next h p t k saw due UncommittedRead n (open_or_not h saw)
        (λ n. or_next h p t k saw due FutureRead n (starts_before_or_not t saw (p, (bad.0.0, bad.0.1, bad.0.2)))
        (λ n. or_next h p t k saw due Phantom n (phantom_or_not h p t k saw due bad.0)
        (λ n. (StaleRead, (rest_is_stale (λ other below. n other (omega arith)), n)))))))

  -- a read that no serial order explains is a bad read
  unexplained_is_bad : (p t k saw : ℕ) → IsUnexplained h p t k saw → (due : ℕ) × IsBadRead h p t k saw due
  unexplained_is_bad p t k saw bad = of_kind bad.2
    where
      of_kind : (WroteBefore h t k p × (saw ≢ t)) ⊎ ((saw ≢ 0) × (saw ≢ t) × ¬ IsCommitted h saw) → (due : ℕ) × IsBadRead h p t k saw due
      of_kind (inl own) = (t, (bad.1, inl (own.0, refl), own.1))
      of_kind (inr other) =
          let due = has_due h wf t p k (p, (bad.1.0, bad.1.1, bad.1.2)) in
          (due.0, (bad.1, due.1, differs due.0 due.1))
        where
          differs : (due : ℕ) → IsDue h t p k due → saw ≢ due
          differs due (inl own) same = other.1 (same ∙ own.1)
          differs due (inr (none, inl newest)) same = other.2 (newest.0.1.1, subst (λ u. CommitsAt h u newest.0.1.1) (sym same) newest.0.1.3)
          differs due (inr (none, inr unseen)) same = other.0 (same ∙ unseen.1)

-- each bad read has exactly one name, and what no serial order explains has one too
pub anomaly_law : (h : List Event) → IsWellFormed h → AnomalyLaw h
anomaly_law h wf = record {
  named = has_name h wf;
  once = λ p t k saw due name other. one_name h p t k saw due name other;
  unexplained = unexplained_is_bad h wf;
}
