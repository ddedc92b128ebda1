-- Each row tells whether a snapshot fits its transaction.
use Rattle.std.proofs.Common.{◌≡◌, inl, inr, ℕ, ◌<◌, Some, get_or, length, slice_get, refl, sym, subst, ◌∙◌, arith}
use Rattle.std.proofs.lemmas.Bool.{cases_lt, false≢true}
use Rattle.std.proofs.lemmas.Option.{slice_get-get_or, slice_get_within}
use Rattle.sia_events.specs.Numbering.{names_of, txn_at, txns_of}
use Rattle.sia_events.specs.Transactions.{HasEvent}
use Rattle.sia_index.proofs.Shared.LogNames.{event_has_number}
use Rattle.sia_index.proofs.Shared.NumberedNames.{same_some}
use Rattle.si_audit.specs.Bounds.{IsKnownOf}
use Rattle.si_audit.specs.Snapshots.{IsSnapshot}
use Rattle.si_audit.specs.declared.snapshots.Bounds.{Bounds}
use Rattle.si_audit.proofs.Shared.KnownRows.{row_known}
use Rattle.si_audit.proofs.Shared.Marking.{unknown}
use Rattle.si_audit.proofs.snapshots.is_generalized.Goals.{In-loop-number}
use Rattle.si_audit.proofs.snapshots.is_generalized.Goals as goal

-- the transaction of the number
here : (c : In-loop-number) → slice_get (txns_of c.args.log.now) c.loop-number.number ≡ Some (txn_at (names_of c.args.log.now) c.loop-number.number)
here c = slice_get-get_or (txns_of c.args.log.now) c.loop-number.number 0 (omega (arith, c.loop-number-test.true, c.txn_count-number-end.ensures))

row : (c : In-loop-number) (d : Bounds) → (c.loop-number.number < length c.in_ok-all.all.items) × HasEvent c.args.log.now (txn_at (names_of c.args.log.now) c.loop-number.number) × IsKnownOf c.args.log.now (txn_at (names_of c.args.log.now) c.loop-number.number) (get_or c.in_ok-all.all.items c.loop-number.number d)
row c d = row_known c.args.log.now c.in_ok-all.all.items c.in_ok-all.ensures c.loop-number.number _ (here c) d

pub index-requires : goal.index-requires
index-requires c = omega (arith, (row (goal.at.index-requires c).In-loop-number unknown).0, c.in_ok-all.all.ok.0)

pub returns-then-not-fits : goal.returns-then-not-fits
returns-then-not-fits c =
    let h = c.args.log.now in
    let t = txn_at (names_of h) c.loop-number.number in
    let (inside, has, known) = row (goal.at.returns-then-not-fits c).In-loop-number c.index.result.now in
    ((λ e. absurd (false≢true e)), (λ all. sym c.if-not-fits.true ∙ (c.fits.ensures h t c.law.ensures has (subst (IsKnownOf h t) (sym c.index.ensures) known)).1 (all t has)))

pub loop-number-preserved : goal.loop-number-preserved
loop-number-preserved c k t below at = elim (cases_lt k c.loop-number.number) [
  | inl before ↦ c.loop-number.invariant k t before at
  | inr last ↦
      let h = c.args.log.now in
      let d = (goal.at.loop-number-preserved c).In-loop-number in
      let u = txn_at (names_of h) c.loop-number.number in
      let (inside, has, known) = row d c.index.result.now in
      let same : c.loop-number.number ≡ k = omega arith in
      let name : u ≡ t = same_some u t (sym (subst (λ n. slice_get (txns_of h) n ≡ Some u) same (here d)) ∙ at) in
      subst (λ s. (n : ℕ) × IsSnapshot h s n) name ((c.fits.ensures h u c.law.ensures has (subst (IsKnownOf h u) (sym c.index.ensures) known)).0 c.if-not-fits.false)
]

pub returns : goal.returns
returns c = (
  (λ e t has.
      let number = event_has_number c.args.log.now t has in
      let below = slice_get_within (txns_of c.args.log.now) number.0 t number.1 in
      c.loop-number.invariant number.0 t (omega (arith, c.loop-number-test.false, c.txn_count-number-end.ensures)) number.1),
  (λ all. refl),
)
