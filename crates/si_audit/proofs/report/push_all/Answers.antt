use Rattle.std.proofs.Common.{Option, Bor, subst, sym, All, IfSome, take_all}
use Rattle.sia_parts.specs.declared.reasons.Recorded.{Recorded}
use Rattle.si_audit.specs.Explained.{TellsAll, WithReasons, TellsIf}
use Rattle.si_audit.proofs.Shared.Telling.{IsToldBehind, next_item_told, told_if_none, told_if_some, told_none, with_reasons}
use Rattle.si_audit.proofs.report.push_all.Goals as goal
use Rattle.si_audit.proofs.report.push_all.Goals.{in-Some+in_ok-push_reasons, in_default}

pub loop-x-init : goal.loop-x-init
loop-x-init g c = told_none (WithReasons g.T.Finding.line (TellsIf c.args.of g.T.Finding.tells)) c.args.out.now.items

pub push_reasons-requires-clause-found : goal.push_reasons-requires-clause-found
push_reasons-requires-clause-found g c =
    subst (g.T.Finding.is_found c.in-Some.of.now) (sym c.x-item.is)
    (subst (λ (o : Option (Bor Recorded)). IfSome o (λ of. All (g.T.Finding.is_found of.now) c.args.found.now)) c.in-Some.is c.requires.found c.loop-x.x-index c.x-item.result c.loop-x-test.true)

pub loop-x-preserved : goal.loop-x-preserved
loop-x-preserved g c =
    let line = g.T.Finding.line in
    let tells = g.T.Finding.tells in
    elim c.match-of.branch [
      | in-Some+in_ok-push_reasons w ↦
          rw (w.out-is)
          (next_item_told (WithReasons line (TellsIf c.args.of tells)) c.args.found.now c.loop-x.x-index c.x-item.result _ _ _ c.loop-x-test.true c.x-item.is c.loop-x.invariant
          (with_reasons line (TellsIf c.args.of tells) _ _ _ _ c.in_ok-push_line.ensures (told_if_some c.args.of _ tells _ _ _ w.in-Some.is w.in_ok-push_reasons.ensures)))
      | in_default w ↦
          rw (w.out-is)
          (next_item_told (WithReasons line (TellsIf c.args.of tells)) c.args.found.now c.loop-x.x-index c.x-item.result _ _ _ c.loop-x-test.true c.x-item.is c.loop-x.invariant
          (with_reasons line (TellsIf c.args.of tells) _ _ _ _ c.in_ok-push_line.ensures (told_if_none c.args.of tells _ _ w.in_default.is)))
    ]

pub returns : goal.returns
returns g c =
    subst (λ xs. IsToldBehind (TellsAll (WithReasons g.T.Finding.line (TellsIf c.args.of g.T.Finding.tells)) xs) c.args.out.now.items c.loop-x.out.items)
    (take_all c.loop-x.x-index c.args.found.now c.loop-x-test.false) c.loop-x.invariant
