-- The start of the next maker, where it is less.
use Rattle.std.proofs.Common.{◌≡◌, ◌+◌, ◌-◌, get_or, length, subst, arith}
use Rattle.sia_index.specs.Positions.{HasPosition}
use Rattle.sia_index.specs.declared.info.Lifetime.{Lifetime}
use Rattle.sia_parts.proofs.EdgeRows.PositionOrder.{position_below}
use Rattle.sia_graph.proofs.OfNeighbours.Stops.{StartFrom, starts_end, starts_next, starts_none, starts_set, starts_zero}
use Rattle.sia_graph.proofs.OfPivots.Vulnerable.{lived}
use Rattle.sia_parts.proofs.EdgeRows.PositionOrder.{has_position}
use Rattle.sia_graph.proofs.neighbours.starts_of.Goals.{After-maker_at}
use Rattle.sia_graph.proofs.neighbours.starts_of.Goals as goal

abbrev unlived : Lifetime
unlived = record { start = 0; commit = 0 }

pub loop-position-init : goal.loop-position-init
loop-position-init c =
    let h = c.args.index.now in
    let count = c.position_count-count.result in (
      starts_none h count c.position_count-count.ensures c.in_ok-starts.starts.items (c.in_ok-starts.ensures.items_if_clones_equal (λ y e. e)),
      starts_end h count _ _ c.position_count-count.ensures (omega arith),
    )

pub maker_at-requires : goal.maker_at-requires
maker_at-requires c = has_position c.args.index.now c.position_count-count.result (c.loop-position.position - 1) c.position_count-count.ensures (let some = c.loop-position-test.true in let most = c.loop-position.auto.position in omega arith)

here : (c : After-maker_at) → HasPosition c.args.index.now (c.loop-position.position - 1)
here c = has_position c.args.index.now c.position_count-count.result (c.loop-position.position - 1) c.position_count-count.ensures (let some = c.loop-position-test.true in let most = c.loop-position.auto.position in omega arith)

pub loop-position-preserved-in_default : goal.loop-position-preserved-in_default
loop-position-preserved-in_default c =
    let at = here (goal.at.loop-position-preserved-in_default c).After-maker_at in
    (c.loop-position.invariant.0, starts_zero c.args.index.now _ _ at.0 at.1 (c.in_default.ensures at.0 at.1))

pub bounds-lifetimes-maker : goal.bounds-lifetimes-maker
bounds-lifetimes-maker c =
    let at = here (goal.at.bounds-lifetimes-maker c).After-maker_at in
    (lived c.args.index.now c.lifetimes-lifetimes.result.now c.lifetimes-lifetimes.ensures c.in-Some.maker at.0.txn (c.in-Some.ensures at.0 at.1).1).0

pub index_mut-requires : goal.index_mut-requires
index_mut-requires c =
    let at = here (goal.at.index_mut-requires c).After-maker_at in
    let below = position_below c.args.index.now (length c.loop-position.starts.items) _ at.0 c.loop-position.invariant.0.long at.1 in
    let ok = c.loop-position.starts.ok in
    omega arith

pub loop-position-preserved : goal.loop-position-preserved
loop-position-preserved c =
    let h = c.args.index.now in
    let at = here (goal.at.loop-position-preserved c).After-maker_at in
    let i = c.loop-position.position - 1 in
    let back : c.loop-position.position ≡ i + 1 = (let some = c.loop-position-test.true in omega arith) in
    let life = (lived h c.lifetimes-lifetimes.result.now c.lifetimes-lifetimes.ensures c.in-Some.maker at.0.txn (c.in-Some.ensures at.0 at.1).1).1 unlived in
    let start = (get_or c.lifetimes-lifetimes.result.now c.in-Some.maker unlived).start in
    let later = subst (λ n. StartFrom h n c.loop-position.least) back c.loop-position.invariant.1 in (
      starts_set h i c.loop-position.least start c.min-least.result at.0 at.1 life.0 c.min-least.ensures later c.loop-position.starts.items c.loop-position.invariant.0,
      starts_next h i c.loop-position.least start c.min-least.result at.0 at.1 life.0 c.min-least.ensures later,
    )

pub returns : goal.returns
returns c = c.loop-position.invariant.0
