use Rattle.std.proofs.Common.{◌≡◌, ◌+◌, length, ◌∙◌, take_all, arith}
use Rattle.si_audit.specs.Explained.{edges_round}
use Rattle.si_audit.proofs.OfReasons.Rounds.{as_many, edge_pushed, leads_home, leads_on}
use Rattle.si_audit.proofs.explain.edges_of.Goals as goal
use Rattle.si_audit.proofs.explain.edges_of.Goals.{then-i-steps, else-i-steps}

pub loop-i-preserved : goal.loop-i-preserved
loop-i-preserved c home rest starts =
    let steps = c.args.steps.now in
    let inside = c.loop-i-test.true in
    let so = c.loop-i.invariant home rest starts in
    elim c.if-i-steps.branch [
      | then-i-steps w ↦ c.in_ok-push.ensures.items ∙ edge_pushed steps home.txn c.loop-i.i home _ c.loop-i.edges.items inside so (leads_on steps home.txn c.loop-i.i c.if-i-steps.next _ _ w.if-i-steps.true w.next-is)
      | else-i-steps w ↦
          let last : c.loop-i.i + 1 ≡ length steps = omega (arith, w.if-i-steps.false, inside) in
          c.in_ok-push.ensures.items ∙ edge_pushed steps home.txn c.loop-i.i home _ c.loop-i.edges.items inside so (leads_home steps rest home c.loop-i.i c.if-i-steps.next _ _ starts last w.next-is)
    ]

pub returns : goal.returns
returns c home rest starts =
    let many = as_many c.args.steps.now home.txn in
    c.loop-i.invariant home rest starts ∙ take_all c.loop-i.i (edges_round c.args.steps.now home.txn) (omega (arith, many, c.loop-i-test.false))
