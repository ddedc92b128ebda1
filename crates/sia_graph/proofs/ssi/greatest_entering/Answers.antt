use Rattle.std.proofs.Common.{arith, get_or}
use Rattle.std.proofs.lemmas.List.Elements.{Contains-get_or}
use Rattle.sia_graph.proofs.SsiTest.Entering.{entering_all, entering_more}
use Rattle.sia_graph.proofs.Shared.EarlierSources.{positions_below}
use Rattle.sia_graph.proofs.ssi.greatest_entering.Goals as goal

pub bounds-late-position : goal.bounds-late-position
bounds-late-position c =
    let made = c.made_by-position-items.result.now in
    let n = c.loop-position.position-index in
    let txn = c.requires.txn in
    let v = ((c.made_by-position-items.ensures txn.0 txn.1).each (get_or made n 0)).0 (Contains-get_or made n 0 c.loop-position-test.true) in
    positions_below c.args.index.now _ (get_or made n 0) c.requires.late.1.long (v.0, v.1)

pub loop-position-preserved : goal.loop-position-preserved
loop-position-preserved c values are =
    let made = c.made_by-position-items.result.now in
    let n = c.loop-position.position-index in
    let txn = c.requires.txn in
    let v = ((c.made_by-position-items.ensures txn.0 txn.1).each (get_or made n 0)).0 (Contains-get_or made n 0 c.loop-position-test.true) in
    entering_more c.args.index.now values c.args.late.now are made n 0 c.loop-position.greatest c.max-greatest.result c.loop-position-test.true v.0 v.1 v.2 c.max-greatest.ensures (c.loop-position.invariant values are)

pub returns : goal.returns
returns c values t are at =
    entering_all c.args.index.now values c.args.late.now are c.made_by-position-items.result.now t c.loop-position.position-index c.loop-position.greatest (let l = c.loop-position-test.false in omega arith)
    (c.made_by-position-items.ensures t at) (c.loop-position.invariant values are)
