-- A key that isn't written, or isn't of the part, gives nothing.
use Rattle.std.proofs.Common.{◌≤◌, ◌<◌, refl, arith}
use Rattle.sia_events.specs.declared.event.Event.TheVariants.{Read}
use Rattle.sia_parts.specs.declared.audit.sights.View.{View}
use Rattle.sia_parts.specs.Seeing.{IsSightWithin, IsView}
use Rattle.sia_parts.proofs.Auditing.Gaining.{gains_none}
use Rattle.sia_parts.proofs.Auditing.Viewing.{gains_newest, on_ok, read_gains, read_number, read_unwritten}
use Rattle.sia_parts.proofs.audit.sights.put_read.Goals as goal
use Rattle.sia_parts.proofs.audit.sights.put_read.Goals.{then-at-scope-via-then-at-scope, then-at-scope-via-else-at-scope+then-scope-at}

pub put_view-requires-clause-view : goal.put_view-requires-clause-view
put_view-requires-clause-view c = record {
  pair = c.requires.pair;
  saw = (Read _ _ _, c.requires.event, refl, (refl, refl));
  at = c.in-Some.ensures;
  mine = c.requires.mine;
}

pub returns-in_default : goal.returns-in_default
returns-in_default c =
    let h = c.args.scope.now.ix.now in
    gains_none h (IsSightWithin h c.args.known.now.reader.place c.args.scope.now.first c.args.scope.now.end) (read_unwritten h c.args.known.now.reader.place _ _ _ c.requires.event c.args.scope.now.first c.args.scope.now.end c.in_default.ensures) c.args.seen.now

pub returns-then-at-scope : goal.returns-then-at-scope
returns-then-at-scope c =
    let h = c.args.scope.now.ix.now in
    let outside : c.args.scope.now.first ≤ c.in-Some.at.key → c.in-Some.at.key < c.args.scope.now.end → ⊥ = λ low less. elim c.then-at-scope.branch [
      | then-at-scope-via-then-at-scope w ↦ (let below = w.if-at-scope.true in omega arith)
      | then-at-scope-via-else-at-scope+then-scope-at w ↦ (let behind = w.if-scope-at.true in omega arith)
    ] in
    gains_none h (IsSightWithin h c.args.known.now.reader.place c.args.scope.now.first c.args.scope.now.end)
    (λ s is. let within = read_number h c.args.known.now.reader.place _ _ _ c.requires.event c.in-Some.at.key c.args.scope.now.first c.args.scope.now.end c.in-Some.ensures.key s is in outside within.0 within.1) c.args.seen.now

pub returns : goal.returns
returns c =
    let h = c.args.scope.now.ix.now in
    let known = c.args.known.now in
    let old = c.args.seen.now in
    let view : View = record { pair = c.args.pair; at = c.in-Some.at; mine = c.args.mine } in
    let is : IsView h known view = record {
      pair = c.requires.pair;
      saw = (Read _ _ _, c.requires.event, refl, (refl, refl));
      at = c.in-Some.ensures;
      mine = c.requires.mine;
    } in
    on_ok c.put_position.result _ _
    (λ adds. read_gains h known.reader.place _ _ _ c.requires.event c.in-Some.at.key c.args.scope.now.first c.args.scope.now.end c.in-Some.ensures.key c.if-at-scope.false c.if-scope-at.false old (record { wrong = old.wrong; saw = c.put_position.new.saw; missed = old.missed; near = old.near })
    (gains_newest h c.requires.scope.well_formed known c.requires.known view is c.in-Some-position.position c.in-Some-position.is c.if-not-mine.true (λ v there. (c.is_newest.ensures v there).0 c.if-is_newest.true) old c.put_position.new.saw adds))
    c.put_position.ensures

pub returns-2 : goal.returns-2
returns-2 c =
    let h = c.args.scope.now.ix.now in
    on_ok c.put_view.result _ _
    (read_gains h c.args.known.now.reader.place _ _ _ c.requires.event c.in-Some.at.key c.args.scope.now.first c.args.scope.now.end c.in-Some.ensures.key c.if-at-scope.false c.if-scope-at.false c.args.seen.now c.put_view.new.seen)
    c.put_view.ensures
