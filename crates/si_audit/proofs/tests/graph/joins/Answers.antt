use Rattle.std.proofs.Common.{◌≢◌, refl, arith}
use Rattle.std.specs.Prelude.{Contains}
use Rattle.sia_parts.specs.declared.finding.Edge.{Edge}
use Rattle.si_audit.proofs.OfTests.InOrder.{all_more}
use Rattle.si_audit.proofs.tests.graph.joins.Goals as goal

pub loop-e-preserved : goal.loop-e-preserved
loop-e-preserved c =
    all_more (λ (e : Edge). Contains c.args.ids.now e.src × Contains c.args.ids.now e.dst × (e.src ≢ e.dst)) c.args.edges.now c.loop-e.e-index _ c.loop-e-test.true
    (c.if-not-is_joined.ensures refl) c.loop-e.invariant

pub returns : goal.returns
returns c = λ _ k d l. c.loop-e.invariant k d (let a = c.loop-e-test.false in omega arith)
