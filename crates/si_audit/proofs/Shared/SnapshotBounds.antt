-- A snapshot fits a transaction exactly if it is within bounds that the reads and writes of the transaction give.
use Rattle.std.proofs.Common.{◌≡◌, ◌≢◌, ◌⊎◌, inl, inr, ℕ, ◌<◌, ◌≤◌, List, length, refl, subst, arith, ◌↔◌, sym}
use Rattle.std.proofs.lemmas.Bool.{cases_eq, cases_lt}
use Rattle.sia_events.specs.declared.event.Event.{Event}
use Rattle.sia_events.specs.declared.event.Event.TheVariants.{Write}
use Rattle.sia_events.specs.NarrowDependencies.{CommitsVersion}
use Rattle.sia_events.specs.Reads.{SawAt, IsDue, IsVisible}
use Rattle.sia_events.specs.Refusals.{IsWellFormed}
use Rattle.sia_events.specs.Transactions.{CommitsAt, WroteBefore, ActsAt, HasEvent, StartsAt, WritesAt}
use Rattle.sia_events.proofs.OfLaws.Looks.{commits_above}
use Rattle.sia_events.proofs.OfLaws.Seen.{actor_is_txn, saw_written}
use Rattle.sia_events.proofs.Shared.Decisions.{at_most}
use Rattle.sia_events.proofs.Shared.TransactionDecisions.{committed_or_not, place_within, wrote_before_or_not, has_start}
use Rattle.sia_events.proofs.Writing.WellFormed.{one_commit}
use Rattle.sia_parts.proofs.Auditing.AsOf.{one_as_of, zero_commits_not}
use Rattle.si_audit.specs.Snapshots.{AccessesAt, Bars, Fits, IsAsked, IsDueFrom, IsInNone, IsNewestIn, ReadAsks, FitsStart}
use Rattle.sia_events.specs.Isolation.{IsBadRead, IsBadWrite}
use Rattle.sia_events.proofs.OfLaws.Due.{has_due, one_due}
use Rattle.sia_events.proofs.OfLaws.StartsBelow.{start_below}
use Rattle.sia_events.proofs.Shared.Starts.{one_start}

-- a read or write is an event of the history
pub access_within : (h : List Event) (t p : ℕ) → AccessesAt h t p → (0 < p) × (p ≤ length h)
access_within h t p access = elim access.1 [ inl wrote ↦ place_within h p (Write t access.0) wrote | inr saw ↦ place_within h p saw.1.0 saw.1.1 ]

-- what neither reads nor writes fits every snapshot
pub idle_fits : (h : List Event) (t n : ℕ) → ((p : ℕ) → ¬ AccessesAt h t p) → Fits h t n
idle_fits h t n none = record { reads = λ p k v saw. absurd (none p (k, inr (v, saw))); writes = λ k u c d own other less. absurd (none own.0.0 (k, inl own.0.1)) }

-- each read is of some snapshot, each commit that is asked for is in this one, and none that is barred
pub record IsBounded (h : List Event) (t n : ℕ) : Type 0 where
  pub none : (p k : ℕ) → ¬ IsInNone h t p k
  pub low : (c : ℕ) → IsAsked h t c → c ≤ n
  pub high : (c p k : ℕ) → Bars h t c p k → n < c

module _ (h : List Event) (wf : IsWellFormed h) (t n : ℕ) where
  module _ (fits : Fits h t n) where
    fit_none : (p k : ℕ) → ¬ IsInNone h t p k
    fit_none p k odd = of_due (fits.reads p k odd.0 odd.1) odd.2
      where
        of_due : IsDueFrom h n t p k odd.0 → ¬ ((WroteBefore h t k p × (odd.0 ≢ t)) ⊎ ((odd.0 ≢ 0) × (odd.0 ≢ t) × ¬ ((c : ℕ) × CommitsAt h odd.0 c)))
        of_due (inl own) (inl missed) = missed.1 own.1
        of_due (inl own) (inr unknown) = unknown.1 own.1
        of_due (inr other) (inl missed) = other.0 missed.0
        of_due (inr (out, inl newest)) (inr unknown) = unknown.2 (newest.0, newest.1.1)
        of_due (inr (out, inr none)) (inr unknown) = unknown.0 none.1

    fit_read : (c p k : ℕ) → ReadAsks h t c p k → c ≤ n
    fit_read c p k asks = of_due (fits.reads p k asks.0 asks.1)
      where
        of_due : IsDueFrom h n t p k asks.0 → c ≤ n
        of_due (inl own) = absurd (asks.2 own.1)
        of_due (inr (out, inl newest)) =
            let same : c ≡ newest.0 = one_commit h wf asks.0 c newest.0 asks.3 newest.1.1 in
            grind arith
        of_due (inr (out, inr none)) = absurd (zero_commits_not h wf c (subst (λ v. CommitsAt h v c) none.1 asks.3))

    fit_low : (c : ℕ) → IsAsked h t c → c ≤ n
    fit_low c asked = elim asked.2 [
      | inl read ↦ fit_read c asked.0 asked.1 read
      | inr write ↦ fits.writes asked.1 write.1 c write.2 ((asked.0, write.0), write.4) write.3 write.5
    ]

    fit_high : (c p k : ℕ) → Bars h t c p k → n < c
    fit_high c p k bars = of_due (fits.reads p k bars.0 bars.3)
      where
        below : bars.1 < c
        below = bars.7

        of_due : IsDueFrom h n t p k bars.0 → n < c
        of_due (inl own) = absurd (bars.4 own.1)
        of_due (inr (out, inl newest)) = elim (cases_lt n c) [
          | inl less ↦ less
          | inr most ↦
              let same : bars.1 ≡ newest.0 = one_as_of h wf bars.0 bars.1 newest.0 bars.5 (inr newest.1.1) in
              let last : c ≤ newest.0 = newest.3 bars.2 c bars.6 most in
              absurd (omega (arith, below))
        ]
        of_due (inr (out, inr none)) = none.0 bars.2 c bars.6

    bounded : IsBounded h t n
    bounded = record { none = fit_none; low = fit_low; high = fit_high }

  module _ (within : IsBounded h t n) where
    read_fits : (p k v : ℕ) → SawAt h p t k v → IsDueFrom h n t p k v
    read_fits p k v saw = elim (wrote_before_or_not h t k p) [
      | inl wrote ↦ elim (cases_eq v t) [
        | inl own ↦ inl (wrote, own)
        | inr other ↦ absurd (within.none p k (v, saw, inl (wrote, other)))
      ]
      | inr out ↦ inr (out, of_version (not_own out))
    ]
      where
        not_own : ¬ WroteBefore h t k p → v ≢ t
        not_own out own =
            let above : 0 < t = (actor_is_txn h wf t p (saw.0, saw.1, saw.2)).0 in
            out (subst (λ u. WroteBefore h u k p) own (saw_written h wf p t k v saw (λ e. omega arith)))

        of_version : v ≢ t → IsNewestIn h n k v ⊎ (((u c : ℕ) → CommitsVersion h k u c → n < c) × (v ≡ 0))
        of_version other = elim (cases_eq v 0) [
          | inl first ↦ inr ((λ u c version. within.high c p k (v, 0, u, saw, other, inl (first, refl), version, commits_above h u c version.1)), first)
          | inr later ↦ elim (committed_or_not h v) [
            | inr none ↦ absurd (within.none p k (v, saw, inr (later, other, none)))
            | inl done ↦
                let wrote = saw_written h wf p t k v saw later in
                inl (
                  done.0,
                  ((wrote.0, wrote.2), done.1),
                  within.low done.0 (p, k, inl (v, saw, other, done.1)),
                  λ w d version most. at_most d done.0 (λ less.
                      let after : n < d = within.high d p k (v, done.0, w, saw, other, inr done.1, version, less) in
                      omega arith),
                )
          ]
        ]

    is_fit : Fits h t n
    is_fit = record {
      reads = read_fits;
      writes = λ k u c d own version less. within.low c (own.0.0, k, inr (own.0.1, u, d, version, own.1, less));
    }

  pub fits_bounds : Fits h t n ↔ IsBounded h t n
  fits_bounds = (bounded, is_fit)

-- ---- The start of a transaction fits it exactly if none of its reads is bad and none of its writes.

-- no read of t is bad, and no write
abbrev pub IsBlameless : List Event → ℕ → Type 0
IsBlameless h t = ((p k saw due : ℕ) → ¬ IsBadRead h p t k saw due) × ((k first : ℕ) → ¬ IsBadWrite h k first t)

module _ (h : List Event) (wf : IsWellFormed h) (t : ℕ) where
  -- a transaction starts before it reads or writes
  pub start_before : (s p : ℕ) → StartsAt h t s → AccessesAt h t p → s < p
  start_before s p starts accesses = start_below h wf t s p starts (acts accesses.1)
    where
      acts : WritesAt h t accesses.0 p ⊎ ((v : ℕ) × SawAt h p t accesses.0 v) → ActsAt h t p
      acts (inl write) = (Write t accesses.0, write, refl)
      acts (inr saw) = (saw.1.0, saw.1.1, saw.1.2)

  module _ (s : ℕ) (starts : StartsAt h t s) where
    -- what is due is due from the start
    due_from : (p k v : ℕ) → IsDue h t p k v → IsDueFrom h s t p k v
    due_from p k v (inl own) = inl own
    due_from p k v (inr (out, inl newest)) =
        let sees = newest.0.1 in
        let same : sees.0 ≡ s = one_start h t sees.0 s sees.2 starts in
        let within : sees.1 ≤ sees.0 = sees.4 in
        inr (out, inl (sees.1, (newest.0.0, sees.3), omega arith, λ w d version most. newest.1 w d sees.1 (version.0, (s, d, starts, version.1, most)) version.1 sees.3))
    due_from p k v (inr (out, inr none)) = inr (
      out,
      inr ((λ u c version. elim (cases_lt s c) [ inl less ↦ less | inr most ↦ absurd (none.0 u (version.0, (s, c, starts, version.1, most))) ]), none.1),
    )

    -- a visible version is committed up to the start
    seen : (k u : ℕ) (visible : IsVisible h t k u) → visible.1.1 ≤ s
    seen k u visible =
        let same : visible.1.0 ≡ s = one_start h t visible.1.0 s visible.1.2 starts in
        grind arith

    -- and the other way round
    from_due : (p k v : ℕ) → IsDueFrom h s t p k v → IsDue h t p k v
    from_due p k v (inl own) = inl own
    from_due p k v (inr (out, inl newest)) = inr (
      out,
      inl (
        (newest.1.0, (s, newest.0, starts, newest.1.1, newest.2)),
        λ w c d visible at own.
            let one : c ≡ visible.1.1 = one_commit h wf w c visible.1.1 at visible.1.3 in
            let same : d ≡ newest.0 = one_commit h wf v d newest.0 own newest.1.1 in
            let most : visible.1.1 ≤ newest.0 = newest.3 w visible.1.1 (visible.0, visible.1.3) (seen k w visible) in
            omega arith,
      ),
    )
    from_due p k v (inr (out, inr none)) = inr (
      out,
      inr ((λ u visible. let after : s < visible.1.1 = none.0 u visible.1.1 (visible.0, visible.1.3) in let most = seen k u visible in omega arith), none.1),
    )

    -- so it fits exactly if no read is bad and no write
    starts_fit : Fits h t s ↔ IsBlameless h t
    starts_fit = (
      (λ fits. (
        (λ p k saw due bad. bad.2 (one_due h t p k saw due (from_due p k saw (fits.reads p k saw bad.0)) bad.1)),
        (λ k first bad.
            let early = bad.2 in
            let order = bad.3 in
            let same : early.0 ≡ s = one_start h t early.0 s early.2 starts in
            let one : early.1 ≡ order.0 = one_commit h wf first early.1 order.0 early.3 order.2 in
            let after : early.0 < early.1 = early.4 in
            let within : order.0 ≤ s = fits.writes k first order.0 order.1 (bad.1, order.3) (bad.0, order.2) order.4 in
            omega arith),
      )),
      (λ none. record {
        reads = λ p k v saw.
            let due = has_due h wf t p k (p, (saw.0, saw.1, saw.2)) in
            due_from p k v (elim (cases_eq due.0 v) [
              | inl same ↦ subst (IsDue h t p k) same due.1
              | inr other ↦ absurd (none.0 p k v due.0 (saw, due.1, λ e. other (sym e)))
            ]);
        writes = λ k u c d own version less. at_most c s (λ early. none.1 k u (version.0, own.0, (s, c, starts, version.1, early), (c, d, version.1, own.1, less)));
      }),
    )

  pub fits_start : HasEvent h t → FitsStart h t ↔ IsBlameless h t
  fits_start has = (
    (λ fits. (starts_fit fits.0 fits.1).0 fits.2),
    (λ none. let start = has_start h t has in (start.0, start.1, (starts_fit start.0 start.1).1 none)),
  )
