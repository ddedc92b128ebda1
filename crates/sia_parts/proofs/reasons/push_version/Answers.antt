use Rattle.std.proofs.Common.{◌++◌, codes, inl, inr, refl, subst, sym}
use Rattle.std.proofs.lemmas.Result.{on_ok_weaker}
use Rattle.sia_events.specs.Transactions.{HasEvent}
use Rattle.sia_events.specs.declared.event.Event.TheVariants.{Write}
use Rattle.sia_index.specs.Info.{EndsAs, IsFirstWrite, IsInfo}
use Rattle.sia_parts.specs.Telling.{event_words}
use Rattle.sia_index.proofs.Shared.Fates.{ended_at, open_without_end}
use Rattle.sia_parts.proofs.OfReasons.PushedWords.{and_more}
use Rattle.sia_parts.proofs.reasons.push_version.Goals as goal

pub returns-in-None : goal.returns-in-None
returns-in-None c =
    let h = c.args.of.now.history.now in
    let v = c.args.version in
    let write = c.in-Some-Some.write in
    let info = c.in-Some-Some.info in
    let first = subst (λ g. IsFirstWrite g v c.args.key write) c.requires.index c.in-Some-Some.ensures in
    let known = subst (λ g. IsInfo g v info) c.requires.index c.in-Some-Some.ensures' in
    let unended = open_without_end h v info.fate (subst (λ e. EndsAs h v info.fate e) c.in-None.is known.1) in
    (event_words h c.args.key write, (write, first, inl (unended, refl)), c.in_ok-push_event.ensures)

pub returns-in_default : goal.returns-in_default
returns-in_default c =
    let has : HasEvent c.args.of.now.history.now c.args.version = (c.requires.wrote.0, (Write c.args.version c.args.key, c.requires.wrote.1, refl)) in
    absurd (c.in_default.ensures' (subst (λ g. HasEvent g c.args.version) (sym c.requires.index) has))

pub returns-in-Some : goal.returns-in-Some
returns-in-Some c =
    let h = c.args.of.now.history.now in
    let v = c.args.version in
    let write = c.in-Some-Some.write in
    let info = c.in-Some-Some.info in
    let end = c.in-Some.end in
    let first = subst (λ g. IsFirstWrite g v c.args.key write) c.requires.index c.in-Some-Some.ensures in
    let known = subst (λ g. IsInfo g v info) c.requires.index c.in-Some-Some.ensures' in
    let ended = ended_at h v info.fate end (subst (λ e. EndsAs h v info.fate e) c.in-Some.is known.1) in
    on_ok_weaker c.push_event-in-Some.result (λ told. (event_words h c.args.key write ++ codes ", " ++ event_words h c.args.key end, (write, first, inr (end, ended, refl)), and_more c.args.out.now.items c.args.before.now (event_words h c.args.key write) (codes ", ") (event_words h c.args.key end) _ _ c.in_ok-push_event.ensures told)) c.push_event-in-Some.ensures
