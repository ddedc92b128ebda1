use Rattle.std.proofs.Common.{subst}
use Rattle.std.proofs.lemmas.Result.{on_ok_weaker}
use Rattle.sia_events.specs.Reads.{IsDue}
use Rattle.sia_parts.proofs.OfReasons.Named.{unexplained_is_bad}
use Rattle.si_audit.proofs.explain.UnexplainedFinding.push_reasons.Goals as goal

pub push_reasons-requires-clause-found : goal.push_reasons-requires-clause-found
push_reasons-requires-clause-found c =
    let u = c.args.self.now in
    unexplained_is_bad c.args.of.now.history.now c.law.ensures u.place u.txn u.key u.saw c.due.result c.requires.found
    (subst (λ g. IsDue g u.txn u.place u.key c.due.result) c.requires.index c.due.ensures)

pub returns : goal.returns
returns c =
    let u = c.args.self.now in
    let bad =
    unexplained_is_bad c.args.of.now.history.now c.law.ensures u.place u.txn u.key u.saw c.due.result c.requires.found
    (subst (λ g. IsDue g u.txn u.place u.key c.due.result) c.requires.index c.due.ensures) in
    on_ok_weaker c.push_reasons.result (λ told. (told.0, (c.due.result, bad, told.1), told.2)) c.push_reasons.ensures
