use Rattle.std.proofs.Common.{◌<◌, length, arith}
use Rattle.sia_parts.proofs.EdgeRows.Room.{one_count}
use Rattle.sia_graph.proofs.TwoLeast.EnteredTwos.{run_first, run_next}
use Rattle.sia_graph.proofs.twos.run_up.Goals as goal
use Rattle.sia_parts.proofs.EdgeRows.PositionOrder.{has_position}

pub position_before-requires : goal.position_before-requires
position_before-requires c = has_position c.args.index.now c.position_count-position-end.result c.loop-position.position c.position_count-position-end.ensures c.loop-position-test.true

pub slice_copy_out-earlier : goal.slice_copy_out-earlier
slice_copy_out-earlier c =
    let h = c.args.index.now in
    let at = has_position h c.position_count-position-end.result c.loop-position.position c.position_count-position-end.ensures c.loop-position-test.true in
    omega (arith, one_count h _ _ c.position_count-position-end.ensures c.requires, (c.in-Some.ensures at.0 at.1).5)

pub slice_copy_out-with : goal.slice_copy_out-with
slice_copy_out-with c = let long = one_count c.args.index.now _ _ c.position_count-position-end.ensures c.requires in let l = c.loop-position-test.true in let e = c.loop-position.auto.twos in omega arith

pub bounds-twos-at : goal.bounds-twos-at
bounds-twos-at c = let long = one_count c.args.index.now _ _ c.position_count-position-end.ensures c.requires in let l = c.loop-position-test.true in let e = c.loop-position.auto.twos in omega arith

pub loop-position-preserved-in_default : goal.loop-position-preserved-in_default
loop-position-preserved-in_default c entries few are =
    let h = c.args.index.now in
    let q = c.loop-position.position in
    let at = has_position h c.position_count-position-end.result q c.position_count-position-end.ensures c.loop-position-test.true in
    let long = one_count h _ _ c.position_count-position-end.ensures c.requires in
    let inside : q < length c.loop-position.twos = (let l = c.loop-position-test.true in let e = c.loop-position.auto.twos in omega arith) in
    run_first h c.law.ensures entries few c.loop-position.twos q inside at.0 at.1 (c.loop-position.invariant entries few are) (c.in_default.ensures at.0 at.1)

pub loop-position-preserved : goal.loop-position-preserved
loop-position-preserved c entries few are =
    let h = c.args.index.now in
    let q = c.loop-position.position in
    let at = has_position h c.position_count-position-end.result q c.position_count-position-end.ensures c.loop-position-test.true in
    let long = one_count h _ _ c.position_count-position-end.ensures c.requires in
    let inside : q < length c.loop-position.twos = (let l = c.loop-position-test.true in let e = c.loop-position.auto.twos in omega arith) in
    run_next h c.law.ensures entries few c.loop-position.twos q inside at.0 at.1 (c.loop-position.invariant entries few are) c.in-Some.before (c.in-Some.ensures at.0 at.1) _ _ c.with.result c.with-in-loop-position.result
    c.with.ensures c.with-in-loop-position.ensures

pub returns : goal.returns
returns c entries few are q d l =
    let long = one_count c.args.index.now _ _ c.position_count-position-end.ensures c.requires in
    (c.loop-position.invariant entries few are).below q d (let f = c.loop-position-test.false in let e = c.loop-position.auto.twos in omega arith) l
