use Rattle.si_audit.proofs.OfReport.Chains.{next_words}
use Rattle.si_audit.proofs.report.push_words.Goals as goal

pub loop-some-preserved : goal.loop-some-preserved
loop-some-preserved c = next_words c.args.words.now c.loop-some.some-index _ _ _ _ c.loop-some-test.true c.in_ok-push_some.ensures c.loop-some.invariant
