-- The next maker, up to the one from whom on all start too late.
use Rattle.std.proofs.Common.{◌+◌, length, get_or, sym, ◌∙◌, arith}
use Rattle.std.proofs.lemmas.List.{get_or_default}
use Rattle.sia_index.specs.declared.info.Lifetime.{Lifetime}
use Rattle.sia_parts.proofs.EdgeRows.KeyEnds.{up_to_last}
use Rattle.sia_parts.proofs.EdgeRows.PositionOrder.{position_below}
use Rattle.sia_parts.proofs.Shared.Adding.{FromFirst, first_more}
use Rattle.sia_graph.specs.Links.{EndsBehind, OverlapsBehind}
use Rattle.sia_graph.proofs.OfNeighbours.Stops.{first_stop, makers_late}
use Rattle.sia_graph.proofs.OfPivots.Outs.{IsOut, OverlapsMaker, first_all, makers_all, outs_both, outs_same, put_maker, puts_like, puts_none, puts_then}
use Rattle.sia_graph.proofs.OfPivots.Vulnerable.{lived}
use Rattle.sia_graph.proofs.Shared.EarlierSources.{positions_below}
use Rattle.sia_graph.proofs.neighbours.Neighbours.put_makers.Goals.{After-makers_behind-makers}
use Rattle.sia_graph.proofs.neighbours.Neighbours.put_makers.Goals as goal

abbrev unlived : Lifetime
unlived = record { start = 0; commit = 0 }

pub loop-i-init : goal.loop-i-init
loop-i-init c = puts_none (IsOut (FromFirst (OverlapsMaker c.args.self.now.evidence.index.now c.args.number) c.makers_behind-makers.result.now 0)) c.args.rows.now (λ n f. absurd (let below = f.1.1.1 in omega arith))

pub index-requires : goal.index-requires
index-requires c =
    let (v, at) = c.requires.position in
    let w = (c.makers_behind-makers.ensures.makers v at).each c.loop-i.i 0 c.loop-i-test.true in
    let below = position_below c.args.self.now.evidence.index.now (length c.args.self.now.starts.items) _ w.0 c.requires.can.starts.long w.1 in
    let ok = c.args.self.now.starts.ok in
    omega arith

-- the end of the key's positions
ends : (c : After-makers_behind-makers) → EndsBehind c.args.self.now.evidence.index.now c.args.position (c.args.position + 1 + length c.makers_behind-makers.result.now)
ends c =
    let (v, at) = c.requires.position in
    let makers = c.makers_behind-makers.result.now in
    let last = up_to_last c.args.self.now.evidence.index.now c.args.position v at makers (c.makers_behind-makers.ensures.makers v at) (c.args.position + length makers) (omega arith) (omega arith) in
    (c.args.position + length makers, omega arith, omega arith, (v, last.0, at, last.1, sym last.2))

pub returns-then-commit-index-clause-end : goal.returns-then-commit-index-clause-end
returns-then-commit-index-clause-end c = ends (goal.at.returns-then-commit-index-clause-end c).After-makers_behind-makers

pub returns-then-commit-index-clause-puts : goal.returns-then-commit-index-clause-puts
returns-then-commit-index-clause-puts c =
    let self = c.args.self.now in
    let h = self.evidence.index.now in
    let i = c.args.number in
    let t = c.requires.number in
    let (v, at) = c.requires.position in
    let makers = c.makers_behind-makers.result.now in
    let behind = c.makers_behind-makers.ensures.makers v at in
    let n = c.loop-i.i in
    let life = (lived h c.lifetimes-2.result.now c.lifetimes-2.ensures i t.0 t.1).1 unlived in
    let w = behind.each n 0 c.loop-i-test.true in
    let below = position_below h (length self.starts.items) _ w.0 c.requires.can.starts.long w.1 in
    let value = c.index.ensures ∙ get_or_default self.starts.items (c.args.position + 1 + n) c.index.result.now 0 below in
    let late = makers_late self c.requires.can i t.0 t.1 _ life.1 c.args.position v makers behind n c.loop-i-test.true (let stop = c.if-commit-index.true in omega arith) in
    let all = makers_all h i c.args.position v at makers behind n (first_stop (OverlapsMaker h i) makers n 0 late) in
    puts_like _ _ n _ _ _ (let most = c.loop-i-test.true in omega arith) (outs_same (FromFirst (OverlapsMaker h i) makers n) (OverlapsBehind h i c.args.position) all) c.loop-i.invariant

pub put_if_overlaps-requires-clause-other : goal.put_if_overlaps-requires-clause-other
put_if_overlaps-requires-clause-other c =
    let (v, at) = c.requires.position in
    let w = (c.makers_behind-makers.ensures.makers v at).each c.loop-i.i 0 c.loop-i-test.true in
    (w.0.txn, w.4)

pub put_if_overlaps-requires-clause-room : goal.put_if_overlaps-requires-clause-room
put_if_overlaps-requires-clause-room c =
    let h = c.args.self.now.evidence.index.now in
    let (v, at) = c.requires.position in
    let makers = c.makers_behind-makers.result.now in
    let last = up_to_last h c.args.position v at makers (c.makers_behind-makers.ensures.makers v at) (c.args.position + length makers) (omega arith) (omega arith) in
    let below = positions_below h (length c.args.self.now.looks.now) (c.args.position + length makers) c.requires.can.looks.long (last.0, last.1) in
    let few = c.loop-i.invariant.few in
    let same = c.loop-i.invariant.room in
    let room = c.requires.room in
    let next = c.loop-i-test.true in
    omega arith

pub loop-i-preserved : goal.loop-i-preserved
loop-i-preserved c =
    let h = c.args.self.now.evidence.index.now in
    let i = c.args.number in
    let P = OverlapsMaker h i in
    let makers = c.makers_behind-makers.result.now in
    let n = c.loop-i.i in
    puts_then _ _ _ n 1 (n + 1) _ _ _ (omega arith) (outs_both (FromFirst P makers n) (P (get_or makers n 0)) (FromFirst P makers (n + 1)) (first_more P makers n 0 c.loop-i-test.true)) c.loop-i.invariant
    (puts_like _ _ 1 1 _ _ (omega arith) (put_maker h i (get_or makers n 0)) c.put_if_overlaps.ensures)

pub returns-clause-end : goal.returns-clause-end
returns-clause-end c = ends (goal.at.returns-clause-end c).After-makers_behind-makers

pub returns-clause-puts : goal.returns-clause-puts
returns-clause-puts c =
    let h = c.args.self.now.evidence.index.now in
    let i = c.args.number in
    let (v, at) = c.requires.position in
    let makers = c.makers_behind-makers.result.now in
    let n = c.loop-i.i in
    let end = c.loop-i-test.false in
    let all = makers_all h i c.args.position v at makers (c.makers_behind-makers.ensures.makers v at) n (first_all (OverlapsMaker h i) makers n (omega arith)) in
    puts_like _ _ n _ _ _ (let most = c.loop-i.auto in omega arith) (outs_same (FromFirst (OverlapsMaker h i) makers n) (OverlapsBehind h i c.args.position) all) c.loop-i.invariant
