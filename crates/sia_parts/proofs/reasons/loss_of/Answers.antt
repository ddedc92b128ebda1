use Rattle.std.proofs.Common.{List, subst, sym, arith}
use Rattle.std.specs.Prelude.{MatchOption}
use Rattle.std.proofs.lemmas.Bool.Decides.{nat_tests}
use Rattle.sia_events.specs.declared.event.Event.{Event}
use Rattle.sia_index.specs.Info.{IsFirstWrite}
use Rattle.sia_parts.specs.LostUpdates.{IsLostUpdate, LosesFirstAt}
use Rattle.sia_parts.proofs.OfReasons.Losses.{loses_first, loses_not, none_loses}
use Rattle.sia_parts.proofs.Shared.Options.{then_some_below}
use Rattle.sia_parts.proofs.reasons.loss_of.Goals as goal

pub returns-in_err-sight : goal.returns-in_err-sight
returns-in_err-sight c =
    let b = c.args.b.now in
    let h = c.args.of.now.history.now in
    subst (λ o. MatchOption o (¬ IsLostUpdate h b.key b.first b.second) (LosesFirstAt h b.key b.first b.second)) (sym c.from_residual.ensures)
    (none_loses h c.law.ensures b.key b.first b.second c.requires.bad c.in_err-sight.ensures)

pub returns : goal.returns
returns c =
    let b = c.args.b.now in
    let h = c.args.of.now.history.now in
    let sight = c.in_ok-sight.sight in
    let write = c.in_ok-write.write in
    let wrote = subst (λ (g : List Event). IsFirstWrite g b.second b.key write) c.requires.index c.in_ok-write.ensures in
    subst (λ o. MatchOption o (¬ IsLostUpdate h b.key b.first b.second) (LosesFirstAt h b.key b.first b.second)) (sym c.then_some.ensures)
    (then_some_below _ (LosesFirstAt h b.key b.first b.second) sight.place sight.place write
    (loses_not h c.law.ensures b.key b.first b.second c.requires.bad sight.place sight.version write c.in_ok-sight.ensures wrote)
    (loses_first h c.law.ensures b.key b.first b.second c.requires.bad sight.place sight.version write c.in_ok-sight.ensures wrote) _ (grind (arith, nat_tests)))
