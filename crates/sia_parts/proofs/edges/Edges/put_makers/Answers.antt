-- The maker of the next version, if it isn't the source.
use Rattle.std.proofs.Common.{◌+◌, length, get_or, refl, subst, arith}
use Rattle.sia_parts.specs.EdgeRows.{IsKeyEnd, IsMadeAt}
use Rattle.sia_parts.proofs.EdgeRows.EdgeLoops.{makers_all, makers_none, makers_push, makers_skip}
use Rattle.sia_parts.proofs.EdgeRows.KeyEnds.{ends_behind, made_behind}
use Rattle.sia_parts.proofs.EdgeRows.Room.{puts_like, puts_push}
use Rattle.sia_parts.proofs.edges.Edges.put_makers.Goals as goal
use Rattle.sia_parts.proofs.edges.Edges.put_makers.Goals.{After-makers_behind-makers, then-target-source, else-target-source}

-- where the positions of the key end
ends : (c : After-makers_behind-makers) → IsKeyEnd c.args.self.now.index.now c.args.position (c.args.position + 1 + length c.makers_behind-makers.result.now)
ends c =
    let (v, at) = c.requires.position in
    ends_behind c.args.self.now.index.now c.args.position v at c.makers_behind-makers.result.now (c.makers_behind-makers.ensures.makers v at) c.key_at-key.result (c.key_at-key.ensures v at)

pub loop-maker-init : goal.loop-maker-init
loop-maker-init c = record { adds = makers_none c.args.self.now.index.now c.args.source c.args.kind c.args.position _ _ (omega arith); few = omega arith; room = refl }

pub push_reserved-requires : goal.push_reserved-requires
push_reserved-requires c =
    let room = c.requires.room _ (ends (goal.at.push_reserved-requires c).After-makers_behind-makers) in
    let few = c.loop-maker.invariant.few in
    let same = c.loop-maker.invariant.room in
    let high = c.loop-maker-test.true in
    let ok = c.loop-maker.rows.ok in
    omega arith

pub loop-maker-preserved : goal.loop-maker-preserved
loop-maker-preserved c =
    let h = c.args.self.now.index.now in
    let i = c.args.source in
    let q = c.args.position in
    let n = c.loop-maker.maker-index in
    let (v, at) = c.requires.position in
    let key = c.key_at-key.ensures v at in
    let makers = c.makers_behind-makers.result.now in
    let made = made_behind h q v at makers (c.makers_behind-makers.ensures.makers v at) n 0 c.key_at-key.result c.loop-maker-test.true key in
    let before = c.loop-maker.invariant in
    elim c.if-target-source.branch [
      | then-target-source w ↦
          rw w.rows-is (puts_push _ _ _ _ _ _ before (omega arith) _ _ w.push_reserved.ensures.items w.push_reserved.ensures.capacity
          (makers_push h i c.args.kind q (q + 1 + n) (q + 1 + (n + 1)) (get_or makers n 0) c.key_at-key.result _ _ (omega arith) (record { version = v; at = at; key = key }) made (omega arith) w.if-target-source.true before.adds))
      | else-target-source w ↦
          rw w.rows-is (puts_like _ _ _ _ _ _ before (omega arith) (makers_skip h i c.args.kind q (q + 1 + n) (q + 1 + (n + 1)) c.key_at-key.result _ _ (omega arith) (subst (λ u. IsMadeAt h u c.key_at-key.result (q + 1 + n)) w.if-target-source.false made) before.adds))
    ]

pub returns-clause-end : goal.returns-clause-end
returns-clause-end c = ends (goal.at.returns-clause-end c).After-makers_behind-makers

pub returns-clause-puts : goal.returns-clause-puts
returns-clause-puts c =
    let before = c.loop-maker.invariant in
    let last = c.loop-maker-test.false in
    puts_like _ _ _ _ _ _ before (let most = c.loop-maker.auto in omega arith) (makers_all c.args.self.now.index.now c.args.source c.args.kind c.args.position _ _ _ _ (ends (goal.at.returns-clause-puts c).After-makers_behind-makers) (omega arith) before.adds)
