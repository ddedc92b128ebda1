use Rattle.std.proofs.Common.{◌≡◌, ◌∙◌, ℕ, None, Option, Some, arith, false, refl}
use Rattle.std.specs.Prelude.{MatchOption, is_some}
use Rattle.std.proofs.lemmas.Bool.{both_ways, lt-ltb, ltb-true, not_from_false, not_from_true}
use Rattle.sia_parts.proofs.Shared.Options.{if_not_there}
use Rattle.si_audit.specs.Snapshots.{IsFirst}
use Rattle.si_audit.proofs.Shared.KnownRows.{start_fits, snapshots_between}
use Rattle.si_audit.proofs.Shared.SnapshotBounds.{fits_bounds}
use Rattle.si_audit.proofs.snapshots.Bounds.fits.Goals as goal

-- there is no first one of none
none_there : {P : ℕ → ℕ → Type 0} (o : Option (ℕ × ℕ)) → MatchOption o ((p k : ℕ) → ¬ P p k) (λ at. IsFirst P at.0 at.1) → ((p k : ℕ) → ¬ P p k) → is_some o ≡ false
none_there None is none = refl
none_there (Some at) is none = absurd (none at.0 at.1 is.0)

pub returns-then-not-self : goal.returns-then-not-self
returns-then-not-self c h t wf has known = ((λ fit. start_fits h wf t c.args.self.now known has c.if-not-self.true), (λ n. not_from_false c.args.self.now.misfit c.if-not-self.true))

pub returns-then-is_none : goal.returns-then-is_none
returns-then-is_none c h t wf has known =
    let b = c.args.self.now in
    let never : is_some b.never ≡ false = c.is_none.ensures ∙ not_from_true c.is_none.result c.if-is_none.true in
    let between = snapshots_between h wf t b known c.if-not-self.false (if_not_there _ _ b.never never known.marked.never) in (
      (λ less. let below = ltb-true b.low.commit c.min-end.result less in (b.low.commit, (between b.low.commit).1 (omega arith, omega arith, omega arith))),
      (λ n. let within = (between n.0).0 n.1 in lt-ltb b.low.commit c.min-end.result (omega (arith, within.0))),
    )

pub returns-else-is_none : goal.returns-else-is_none
returns-else-is_none c h t wf has known = (
  (λ fit. absurd (both_ways c.is_none.result c.if-is_none.false fit)),
  (λ n.
      let b = c.args.self.now in
      let never = none_there b.never known.marked.never ((fits_bounds h wf t n.0).0 n.1.1).none in
      absurd (both_ways (is_some b.never) never (c.is_none.ensures ∙ not_from_false c.is_none.result c.if-is_none.false))),
)
