-- The row of the next one who saw the version, back to the version up to which all commit too early.
use Rattle.std.proofs.Common.{◌≡◌, ◌+◌, ◌-◌, ◌<◌, [], ℕ, length, get_or, ap, subst, ◌∙◌, arith}
use Rattle.std.specs.Prelude.{Contains, slice_index_or}
use Rattle.std.proofs.lemmas.List.{get_or_default, take_all}
use Rattle.std.proofs.lemmas.List.Elements.{Contains-get_or}
use Rattle.sia_index.specs.declared.info.Lifetime.{Lifetime}
use Rattle.sia_parts.specs.EdgeRows.{noted_between}
use Rattle.sia_parts.specs.Sights.{FromSome}
use Rattle.sia_parts.proofs.EdgeRows.PositionOrder.{position_below}
use Rattle.sia_parts.proofs.EdgeRows.Room.{noted_more, noted_rises}
use Rattle.sia_parts.proofs.Shared.Adding.{FromFirst, first_more}
use Rattle.sia_graph.specs.Found.{IsLookerRow, PutsMore}
use Rattle.sia_graph.proofs.OfNeighbours.Lookers.{IsLookRow, looker_at, lookers_more, lookers_stop}
use Rattle.sia_graph.proofs.OfNeighbours.Stops.{lookers_late}
use Rattle.sia_graph.proofs.OfPivots.Outs.{puts_like, puts_none, puts_then}
use Rattle.sia_graph.proofs.OfPivots.Vulnerable.{lived}
use Rattle.sia_graph.proofs.neighbours.Neighbours.put_lookers.Goals.{After-lifetimes-2}
use Rattle.sia_graph.proofs.neighbours.Neighbours.put_lookers.Goals as goal

abbrev unlived : Lifetime
unlived = record { start = 0; commit = 0 }

-- the last position is one of those that there are
below_end : (c : After-lifetimes-2) → c.args.to < length c.args.self.now.looks.now
below_end c = let key = c.requires.key in position_below c.args.self.now.evidence.index.now _ c.args.to key.2.version c.requires.can.looks.long key.2.at

pub loop-position-init : goal.loop-position-init
loop-position-init c =
    let P = IsLookerRow c.args.self.now c.args.number c.args.to c.args.to in
    (c.requires.from, omega arith, puts_like P P 0 _ _ _ (omega arith) (λ row. ((λ is. is), (λ is. is))) (puts_none P c.args.rows.now (λ row is. let low = is.1 in let high = is.2 in omega arith)))

pub index-requires : goal.index-requires
index-requires c =
    let to = below_end (goal.at.index-requires c).After-lifetimes-2 in
    let long = c.requires.can.ends.long in
    let ok = c.args.self.now.ends.ok in
    let some = c.loop-position-test.true in
    let most = c.loop-position.invariant.1 in
    omega arith

pub returns-then-index-start : goal.returns-then-index-start
returns-then-index-start c =
    let self = c.args.self.now in
    let h = self.evidence.index.now in
    let i = c.args.number in
    let t = c.requires.number in
    let q = c.loop-position.position - 1 in
    let some = c.loop-position-test.true in
    let most = c.loop-position.invariant.1 in
    let back : c.loop-position.position ≡ q + 1 = omega arith in
    let life = (lived h c.lifetimes-2.result.now c.lifetimes-2.ensures i t.0 t.1).1 unlived in
    let key = c.requires.key in
    let to = below_end (goal.at.returns-then-index-start c).After-lifetimes-2 in
    let value = c.index.ensures ∙ get_or_default self.ends.items q c.index.result.now 0 (let long = c.requires.can.ends.long in omega arith) in
    let late = lookers_late self c.requires.can i t.0 t.1 _ life.0 key.0 c.args.from q c.args.to key.1 key.2 (omega arith) (omega arith) (let stop = c.if-index-start.true in omega arith) in
    puts_like (IsLookerRow self i (q + 1) c.args.to) (IsLookerRow self i c.args.from c.args.to) (noted_between self.looks.now (q + 1) c.args.to) (noted_between self.looks.now c.args.from c.args.to) _ _
    (let low = noted_rises self.looks.now c.args.from (q + 1) (omega arith) in omega arith)
    (lookers_stop self i c.args.from (q + 1) c.args.to (omega arith) late)
    (subst (λ n. PutsMore (IsLookerRow self i n c.args.to) (noted_between self.looks.now n c.args.to) c.args.rows.now c.loop-position.rows) back c.loop-position.invariant.2)

pub at-look-items-requires : goal.at-look-items-requires
at-look-items-requires c =
    let to = below_end (goal.at.at-look-items-requires c).After-lifetimes-2 in
    let some = c.loop-position-test.true in
    let most = c.loop-position.invariant.1 in
    omega arith

pub put_if_overlaps-requires-clause-other : goal.put_if_overlaps-requires-clause-other
put_if_overlaps-requires-clause-other c =
    let look = get_or c.at-look-items.result.now c.loop-look.look-index 0 in
    let has = Contains-get_or c.at-look-items.result.now c.loop-look.look-index 0 c.loop-look-test.true in
    looker_at c.args.self.now c.requires.can (c.loop-position.position - 1) look (subst (λ xs. Contains xs look) c.at-look-items.ensures has)

pub put_if_overlaps-requires-clause-room : goal.put_if_overlaps-requires-clause-room
put_if_overlaps-requires-clause-room c =
    let looks = c.args.self.now.looks.now in
    let to = below_end (goal.at.put_if_overlaps-requires-clause-room c).After-lifetimes-2 in
    let some = c.loop-position-test.true in
    let most = c.loop-position.invariant.1 in
    let q = c.loop-position.position - 1 in
    let back : c.loop-position.position ≡ q + 1 = omega arith in
    let more = noted_more looks q (omega arith) in
    let same = ap (λ n. noted_between looks n c.args.to) back in
    let rest = noted_rises looks (q + 1) c.args.to (omega arith) in
    let low = noted_rises looks c.args.from q (omega arith) in
    let long = ap (length {A = ℕ}) c.at-look-items.ensures in
    let room = c.requires.room in
    let few = c.loop-position.invariant.2.few in
    let rows = c.loop-look.invariant.few in
    let index = c.loop-look-test.true in
    let kept = c.loop-look.invariant.room in
    let before = c.loop-position.invariant.2.room in
    omega arith

pub loop-look-preserved : goal.loop-look-preserved
loop-look-preserved c =
    let P = IsLookRow c.args.self.now c.args.number in
    let xs = c.at-look-items.result.now in
    let n = c.loop-look.look-index in
    puts_then (FromFirst P xs n) (P (get_or xs n 0)) (FromFirst P xs (n + 1)) n 1 (n + 1) _ _ _ (omega arith) (first_more P xs n 0 c.loop-look-test.true) c.loop-look.invariant c.put_if_overlaps.ensures

pub loop-position-preserved : goal.loop-position-preserved
loop-position-preserved c =
    let self = c.args.self.now in
    let P = IsLookRow self c.args.number in
    let looks = self.looks.now in
    let to = below_end (goal.at.loop-position-preserved c).After-lifetimes-2 in
    let some = c.loop-position-test.true in
    let most = c.loop-position.invariant.1 in
    let q = c.loop-position.position - 1 in
    let back : c.loop-position.position ≡ q + 1 = omega arith in
    let more = noted_more looks q (omega arith) in
    let rest = noted_rises looks (q + 1) c.args.to (omega arith) in
    let long = ap (length {A = ℕ}) c.at-look-items.ensures in (
      omega arith,
      omega arith,
      puts_then (IsLookerRow self c.args.number (q + 1) c.args.to) (FromSome P (slice_index_or looks q [])) (IsLookerRow self c.args.number q c.args.to) (noted_between looks (q + 1) c.args.to) c.loop-look.look-index
          (noted_between looks q c.args.to) _ _ _ (let count = c.loop-look.auto in omega arith) (lookers_more self c.args.number q c.args.to (omega arith))
          (subst (λ n. PutsMore (IsLookerRow self c.args.number n c.args.to) (noted_between looks n c.args.to) c.args.rows.now c.loop-position.rows) back c.loop-position.invariant.2)
          (subst (λ xs. PutsMore (FromSome P xs) c.loop-look.look-index c.loop-position.rows c.loop-look.rows) (take_all c.loop-look.look-index c.at-look-items.result.now c.loop-look-test.false ∙ c.at-look-items.ensures) c.loop-look.invariant),
    )

pub returns : goal.returns
returns c =
    let end : c.loop-position.position ≡ c.args.from = (let last = c.loop-position-test.false in let least = c.loop-position.invariant.0 in omega arith) in
    subst (λ q. PutsMore (IsLookerRow c.args.self.now c.args.number q c.args.to) (noted_between c.args.self.now.looks.now q c.args.to) c.args.rows.now c.loop-position.rows) end c.loop-position.invariant.2
