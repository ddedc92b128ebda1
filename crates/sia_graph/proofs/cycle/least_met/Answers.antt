use Rattle.std.proofs.Common.{◌+◌, ℕ, List, get_or, take, sym, subst, arith, take_all}
use Rattle.sia_parts.specs.Sights.{FromSome}
use Rattle.sia_graph.specs.LeastEdges.{IsMet}
use Rattle.sia_graph.specs.Twos.{IsLeastNumber}
use Rattle.sia_graph.proofs.Cycles.MetEdges.{as_met}
use Rattle.sia_graph.proofs.Shared.LeastNumbers.{first_least}
use Rattle.sia_graph.proofs.cycle.least_met.Goals as goal

pub loop-other-preserved : goal.loop-other-preserved
loop-other-preserved c =
    let h = c.args.index.now in
    let others = c.args.others.now in
    let i = c.loop-other.other-index in
    let T = IsMet h c.args.kind c.args.made.now in
    let f = c.min-least.ensures in (
      omega arith,
      subst (IsLeastNumber (FromSome T (take (i + 1) others))) (sym f)
          (first_least T others i 0 c.loop-other.least c.least_made.result c.loop-other-test.true c.loop-other.invariant.0 (omega arith) c.loop-other.invariant.1
          (as_met h c.args.kind c.args.made.now (get_or others i 0) c.span_met-from.result.0 c.span_met-from.result.1 c.least_made.result c.span_met-from.ensures c.least_made.ensures)),
    )

pub returns : goal.returns
returns c =
    let others = c.args.others.now in
    subst (λ (xs : List ℕ). IsLeastNumber (FromSome (IsMet c.args.index.now c.args.kind c.args.made.now) xs) c.loop-other.least) (take_all c.loop-other.other-index others c.loop-other-test.false) c.loop-other.invariant.1
