use Rattle.std.proofs.Common.{◌≡◌, ◌+◌, get_or, inl, inr, subst, arith}
use Rattle.std.proofs.lemmas.Bool.{cases_lt}
use Rattle.sia_graph.proofs.SsiTest.Marks.{IsRising, rises_on, risen}
use Rattle.sia_graph.proofs.ssi.top_of.Goals as goal

pub loop-block-preserved : goal.loop-block-preserved
loop-block-preserved c =
    let most = c.args.most.now in
    let b = c.loop-block.block in
    let top = c.loop-block.top in
    rises_on c.args.size (c.args.size + c.args.key) most b top c.max-top.result c.loop-block.invariant c.loop-block-test.true (omega arith) (omega arith)
    (elim (cases_lt top (get_or most b 0)) [ inl less ↦ inr (omega arith) | inr more ↦ inl (omega arith) ])

pub returns : goal.returns
returns c x some =
    let last : c.loop-block.block ≡ 0 = omega arith in
    risen c.args.size c.args.key c.args.most.now c.loop-block.top (subst (λ b. IsRising c.args.size (c.args.size + c.args.key) c.args.most.now b c.loop-block.top) last c.loop-block.invariant) x some
