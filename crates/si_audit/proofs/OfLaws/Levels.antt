-- Isolation is kept exactly where each start fits its transaction, and what meets a level meets those that ask for less.
use Rattle.std.proofs.Common.{ℕ, List, refl, rules, arith}
use Rattle.sia_events.specs.declared.event.Event.{Event}
use Rattle.sia_events.specs.declared.event.Event.TheVariants.{Write}
use Rattle.sia_events.specs.Isolation.{IsolationKept}
use Rattle.sia_events.specs.Refusals.{IsWellFormed}
use Rattle.sia_events.specs.Transactions.{HasEvent, StartsAt}
use Rattle.si_audit.specs.Laws.{SnapshotsLaw, CleanLaw, LevelsLaw}
use Rattle.si_audit.specs.Snapshots.{Fits, FitsStart, IsGeneralized, IsSnapshot}
use Rattle.si_audit.proofs.Shared.SnapshotsExist.{between, none_told}
use Rattle.si_audit.proofs.Shared.SnapshotBounds.{fits_start, start_before}
use Rattle.sia_events.specs.Limits.{Limits, greatest, AreWithin}
use Rattle.sia_events.proofs.OfLaws.Histories.{accepted_well_formed}
use Rattle.sia_graph.proofs.OfLaws.SsiLaw.{ssi_holds}

module _ (h : List Event) (wf : IsWellFormed h) where
  -- a start that fits is a snapshot
  pub snapshot_of_start : (t s : ℕ) → StartsAt h t s → Fits h t s → IsSnapshot h t s
  snapshot_of_start t s starts fits = ((λ p. start_before h wf t s p starts), fits)

  -- where isolation is kept each start fits
  pub kept_fits : IsolationKept h → (t : ℕ) → HasEvent h t → FitsStart h t
  kept_fits kept t has = (fits_start h wf t has).1 ((λ p. kept.reads p t), (λ k first. kept.writes k first t))

  -- and the other way round
  fits_kept : ((t : ℕ) → HasEvent h t → FitsStart h t) → IsolationKept h
  fits_kept fit = record {
    reads = λ p t k saw due bad. let has : HasEvent h t = (p, (bad.0.0, bad.0.1, bad.0.2)) in ((fits_start h wf t has).0 (fit t has)).0 p k saw due bad;
    writes = λ k first second bad.
        let has : HasEvent h second = (bad.1.0, (Write second k, bad.1.1, refl)) in
        ((fits_start h wf second has).0 (fit second has)).1 k first bad;
  }

  -- so what is kept is generalized
  pub kept_generalized : IsolationKept h → IsGeneralized h
  kept_generalized kept t has = let fits = kept_fits kept t has in (fits.0, snapshot_of_start t fits.0 fits.1 fits.2)

pub snapshots_hold : (h : List Event) → IsWellFormed h → SnapshotsLaw h
snapshots_hold h wf = search (rules, kept_fits, fits_kept, snapshot_of_start, between, none_told)

pub levels_hold : (h : List Event) → IsWellFormed h → LevelsLaw h
levels_hold h wf = grind (arith, ssi_holds, kept_generalized)

pub clean_holds : (limits : Limits) → AreWithin limits greatest → (text : List ℕ) → CleanLaw limits text
clean_holds limits within text = record {
  ssi = λ (h, accepted, stands, passes).
      let meets = (levels_hold h (accepted_well_formed limits text h within accepted stands)).ssi passes in
      ((h, accepted, stands, meets.0), (h, accepted, stands, meets.1));
  serializable = λ (h, accepted, stands, meets). (h, accepted, stands, meets.0);
  si = λ (h, accepted, stands, kept). (h, accepted, stands, kept_generalized h (accepted_well_formed limits text h within accepted stands) kept);
}
