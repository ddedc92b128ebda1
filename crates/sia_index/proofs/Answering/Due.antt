-- What a search of the writes and of a key's versions says of the version due.
use Rattle.std.proofs.Common.{◌≡◌, inl, inr, ℕ, ◌<◌, ◌≤◌, List, refl, arith}
use Rattle.std.specs.Prelude.{All, Contains}
use Rattle.std.proofs.lemmas.List.Elements.{All-contains}
use Rattle.sia_events.specs.declared.event.Event.{Event}
use Rattle.sia_events.specs.Refusals.{IsWellFormed}
use Rattle.sia_events.specs.Transactions.{StartsAt, CommitsAt, WroteBefore}
use Rattle.sia_events.specs.Reads.{IsVisible, IsDue}
use Rattle.sia_events.proofs.Shared.Starts.{one_start}
use Rattle.sia_events.proofs.Writing.WellFormed.{one_commit}
use Rattle.sia_index.specs.declared.info.Made.{Made}
use Rattle.sia_index.specs.Info.{AreVersions}
use Rattle.sia_index.specs.Rows.{IsLastWithin}

module _ (h : List Event) (wf : IsWellFormed h) (t p k s : ℕ) (starts : StartsAt h t s) (none : ¬ WroteBefore h t k p) (versions : List Made) (are : AreVersions h k versions) where
  -- a writer that is visible has a version that commits at most at the start
  seen : (u c : ℕ) → IsVisible h t k u → CommitsAt h u c → Contains versions (record { txn = u; commit = c }) × (c ≤ s)
  seen u c visible commits =
      let start : visible.1.0 ≡ s = one_start h t visible.1.0 s visible.1.2 starts in
      let commit : c ≡ visible.1.1 = one_commit h wf u c visible.1.1 commits visible.1.3 in
      let within : visible.1.1 ≤ visible.1.0 = visible.1.4 in
      ((are.each (record { txn = u; commit = c })).1 (visible.0, commits), omega arith)

  -- where no version commits at most at the start, 0 is due
  pub none_due : All (λ made. s < made.commit) versions → IsDue h t p k 0
  none_due later = inr (
    none,
    inr (
      (λ u visible.
          let found = seen u visible.1.1 visible visible.1.3 in
          let after : s < visible.1.1 = All-contains (λ (made : Made). s < made.commit) versions (record { txn = u; commit = visible.1.1 }) later found.0 in
          let within : visible.1.1 ≤ s = found.1 in
          omega arith),
      refl,
    ),
  )

  -- the last that commits at most at the start is due
  pub last_due : (made : Made) → IsLastWithin versions s made → IsDue h t p k made.txn
  last_due made last =
      let is = (are.each made).0 last.0 in
      inr (
        none,
        inl (
          (is.0, (s, made.commit, starts, is.1, last.1)),
          λ w c d visible commits other.
              let found = seen w c visible commits in
              let most : c ≤ made.commit = All-contains (λ (m : Made). m.commit ≤ s → m.commit ≤ made.commit) versions (record { txn = w; commit = c }) last.2 found.0 found.1 in
              let same : d ≡ made.commit = one_commit h wf made.txn d made.commit other is.1 in
              omega arith,
        ),
      )
