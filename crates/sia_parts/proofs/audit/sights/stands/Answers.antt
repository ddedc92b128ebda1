-- A write's version stands where the index says, and version 0 first.
use Rattle.std.proofs.Common.{◌≡◌, ◌≢◌, ◌<◌, ◌≤◌, ◌-◌, ℕ, List, Option, Some, None, length, ap, sym, subst, ◌∙◌, arith}
use Rattle.std.specs.Prelude.{MatchOption}
use Rattle.sia_events.specs.declared.event.Event.{Event}
use Rattle.sia_events.specs.Numbering.{names_of, writes_of, key_at, pair_at, version_at, write_at}
use Rattle.sia_events.specs.Refusals.{IsWellFormed}
use Rattle.sia_events.specs.Transactions.{IsCommitted, Wrote}
use Rattle.sia_events.proofs.OfLaws.Versions.{writer_not_zero}
use Rattle.sia_events.proofs.Shared.LogReads.{seen_write}
use Rattle.sia_index.specs.declared.info.KeyVersion.{KeyVersion}
use Rattle.sia_index.specs.declared.info.WriteAt.{WriteAt}
use Rattle.sia_index.specs.Positions.{IsAtPosition}
use Rattle.sia_parts.specs.Seeing.{IsPositionOf, IsVersionAt}
use Rattle.sia_parts.proofs.Shared.OneNumber.{one_key}
use Rattle.sia_parts.proofs.Auditing.Positions.{at_zero}
use Rattle.sia_parts.proofs.Auditing.LogWrites.{write_wrote}
use Rattle.sia_parts.proofs.audit.sights.stands.Goals as goal

of_write : (h : List Event) → IsWellFormed h → (k v : ℕ) → Wrote h v k → (o : Option ℕ) → MatchOption o (¬ IsCommitted h v) (λ q. (w : KeyVersion) × IsAtPosition h q w × (w.key ≡ k) × (w.txn ≡ v) × (0 < w.commit))
    → MatchOption o ((v ≢ 0) × ¬ IsCommitted h v) (IsPositionOf h k v)
of_write h wf k v wrote None none = (writer_not_zero h wf v k wrote, none)
of_write h wf k v wrote (Some q) is = (is.0, is.1, is.2, is.3)

pub returns-then-write-gt0 : goal.returns-then-write-gt0
returns-then-write-gt0 c =
    let h = c.args.scope.now.ix.now in
    let same = sym c.requires.scope.same in
    let told = c.pair_numbers-key.ensures in
    let w = c.pair_numbers-key.result.1 in
    let bound : w ≤ length (writes_of h) = subst (λ l. w ≤ length (writes_of l)) same told.write in
    let made : write_at (names_of h) (w - 1) ≡ pair_at (names_of h) c.args.pair = subst (λ l. write_at (names_of l) (w - 1) ≡ pair_at (names_of l) c.args.pair) same (seen_write (names_of c.args.scope.now.log.now) _ _ w c.if-write-gt0.true told.seen ∙ sym told.pair) in
    subst (λ (q : ℕ × ℕ). IsVersionAt h q.0 q.1 c.write_at.result) made
    (record { key = c.write_at.ensures.key; position = of_write h c.requires.scope.well_formed _ _ (write_wrote h w c.if-write-gt0.true bound) c.write_at.result.position c.write_at.ensures.position })

pub returns : goal.returns
returns c =
    let h = c.args.scope.now.ix.now in
    let log = c.args.scope.now.log.now in
    let k = c.pair_numbers-key.result.0 in
    let first = c.first_position.ensures in
    let v = first.0 in
    let number = c.in_ok-number.number in
    let none : 0 ≡ c.pair_numbers-key.result.1 = (let no = c.if-write-gt0.false in omega arith) in
    let unmade : (key_at (names_of h) k, 0) ≡ pair_at (names_of h) c.args.pair = subst (λ l. (key_at (names_of l) k, 0) ≡ pair_at (names_of l) c.args.pair) (sym c.requires.scope.same) (ap (λ w. (key_at (names_of log) k, version_at (names_of log) w)) none ∙ sym c.pair_numbers-key.ensures.pair) in
    subst (λ (q : ℕ × ℕ). IsVersionAt h q.0 q.1 (record { key = number; position = Some c.first_position.result })) unmade
    (record { key = c.in_ok-number.ensures; position = (v, first.1, one_key h number v.key (key_at (names_of h) k) first.2 c.in_ok-number.ensures, at_zero h c.requires.scope.well_formed c.first_position.result v first.1 first.3) })

pub returns-in_err-number : goal.returns-in_err-number
returns-in_err-number c =
    let h = c.args.scope.now.ix.now in
    let k = c.pair_numbers-key.result.0 in
    let key : key_at (names_of h) k ≡ (pair_at (names_of h) c.args.pair).0 = subst (λ l. key_at (names_of l) k ≡ (pair_at (names_of l) c.args.pair).0) (sym c.requires.scope.same) (ap (λ (q : ℕ × ℕ). q.0) (sym c.pair_numbers-key.ensures.pair)) in
    subst (λ (r : Option WriteAt). MatchOption r ((t : ℕ) → ¬ Wrote h t (pair_at (names_of h) c.args.pair).0) (IsVersionAt h (pair_at (names_of h) c.args.pair).0 (pair_at (names_of h) c.args.pair).1)) (sym c.from_residual.ensures)
    (subst (λ j. (t : ℕ) → ¬ Wrote h t j) key c.in_err-number.ensures)
