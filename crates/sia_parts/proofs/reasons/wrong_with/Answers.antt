use Rattle.std.proofs.Common.{subst, sym, arith}
use Rattle.std.specs.Prelude.{MatchOption}
use Rattle.std.proofs.lemmas.Bool.Decides.{nat_tests}
use Rattle.sia_events.specs.declared.event.Anomaly.{Anomaly}
use Rattle.sia_events.specs.declared.event.Anomaly.TheVariants.{FutureRead}
use Rattle.sia_parts.specs.Wrong.{IsWrong}
use Rattle.sia_parts.proofs.OfReasons.Named.{early_enough}
use Rattle.sia_parts.proofs.Shared.Options.{then_some_below}
use Rattle.sia_parts.proofs.reasons.wrong_with.Goals as goal

pub returns-in_ok-end-in-Committed : goal.returns-in_ok-end-in-Committed
returns-in_ok-end-in-Committed c =
    let h = c.args.ix.now in
    let end = c.in_ok-end-in-Committed.field-0.commit in
    let at = c.in_ok-end-in-Committed.ensures.1 in
    subst (λ o. MatchOption o ((name : Anomaly) → ¬ IsWrong h c.args.saw c.args.start name) (IsWrong h c.args.saw c.args.start)) (sym c.then_some.ensures)
    (then_some_below _ (IsWrong h c.args.saw c.args.start) FutureRead c.args.start end (early_enough h c.law.ensures c.args.saw c.args.start end at) (λ late. (end, at, late)) _ (grind (arith, nat_tests)))
