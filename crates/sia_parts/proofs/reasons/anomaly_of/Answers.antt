use Rattle.std.proofs.Common.{subst}
use Rattle.std.proofs.lemmas.Bool.{false≢true}
use Rattle.sia_events.specs.declared.event.Anomaly.{Anomaly}
use Rattle.sia_parts.specs.Wrong.{IsWrong}
use Rattle.sia_parts.proofs.OfReasons.Named.{named_own, named_phantom, named_stale, named_wrong}
use Rattle.sia_parts.proofs.reasons.anomaly_of.Goals as goal

pub returns-then-b : goal.returns-then-b
returns-then-b c =
    let b = c.args.b.now in
    named_own c.args.h.now c.law.ensures b.place b.txn b.key b.saw b.due c.args.start c.requires.bad c.requires.starts c.if-b.true

pub returns-in-Some : goal.returns-in-Some
returns-in-Some c =
    let b = c.args.b.now in
    let name = c.in-Some.wrong in
    named_wrong c.args.h.now c.law.ensures b.place b.txn b.key b.saw b.due c.args.start c.requires.bad c.requires.starts c.if-b.false name
    (subst (λ h. IsWrong h b.saw c.args.start name) c.requires.index c.in-Some.ensures)

pub returns-then-b-eq0 : goal.returns-then-b-eq0
returns-then-b-eq0 c =
    let b = c.args.b.now in
    named_stale c.args.h.now c.law.ensures b.place b.txn b.key b.saw b.due c.args.start c.requires.bad c.requires.starts c.if-b.false
    (subst (λ h. (name : Anomaly) → ¬ IsWrong h b.saw c.args.start name) c.requires.index c.in_default.ensures)
    (λ fits. fits.0 c.if-b-eq0.true)

pub returns-then-leaves_out : goal.returns-then-leaves_out
returns-then-leaves_out c =
    let b = c.args.b.now in
    let left_out = c.leaves_out.ensures.0 c.if-leaves_out.true in
    named_phantom c.args.h.now c.law.ensures b.place b.txn b.key b.saw b.due c.args.start c.requires.bad c.requires.starts c.if-b.false
    (subst (λ h. (name : Anomaly) → ¬ IsWrong h b.saw c.args.start name) c.requires.index c.in_default.ensures)
    (c.if-b-eq0.false, left_out.0, left_out.1, left_out.2)

pub returns : goal.returns
returns c =
    let b = c.args.b.now in
    named_stale c.args.h.now c.law.ensures b.place b.txn b.key b.saw b.due c.args.start c.requires.bad c.requires.starts c.if-b.false
    (subst (λ h. (name : Anomaly) → ¬ IsWrong h b.saw c.args.start name) c.requires.index c.in_default.ensures)
    (λ fits. false≢true (c.if-leaves_out.ensures.1 (fits.1, fits.2, fits.3)))
