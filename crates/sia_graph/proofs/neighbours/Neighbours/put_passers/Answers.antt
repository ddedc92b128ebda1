-- The row of who has the next range miss that reaches behind the key.
use Rattle.std.proofs.Common.{◌≡◌, ◌+◌, ◌-◌, ◌≤◌, ℕ, true, false, leb, length, refl, sym, subst, arith}
use Rattle.std.specs.Prelude.{slice_index_or}
use Rattle.std.specs.List.{AllWithin}
use Rattle.std.specs.List.Sorted.{IsPartitionPoint}
use Rattle.sia_index.specs.Numbers.{IsCommittedAt}
use Rattle.sia_parts.proofs.Shared.Adding.{adds_nothing}
use Rattle.sia_graph.specs.declared.neighbours.Passing.{Passing}
use Rattle.sia_graph.specs.Found.{IsInRow, IsPasserRow, PutsMore}
use Rattle.sia_graph.proofs.OfNeighbours.Passers.{begin_up_to, begins_before, passer_at, passers_all, passers_more, passers_none}
use Rattle.sia_graph.proofs.OfPivots.Outs.{puts_like, puts_then}
use Rattle.sia_graph.proofs.neighbours.Neighbours.put_passers.Goals.{After-from-limit}
use Rattle.sia_graph.proofs.neighbours.Neighbours.put_passers.Goals as goal

point : (c : After-from-limit) → IsPartitionPoint (λ (p : Passing). leb p.from c.args.key ≡ true) (λ (p : Passing). leb p.from c.args.key ≡ false) c.args.self.now.passings.items c.place_above-to.result
point c = rw (c.deref.ensures.value, c.from.ensures) at c.place_above-to.ensures.point

bound : (c : After-from-limit) → c.place_above-to.result ≤ length c.args.self.now.passings.items
bound c = rw c.deref.ensures.value at c.place_above-to.ensures.bound

pub loop-next-init : goal.loop-next-init
loop-next-init c = (
  omega arith,
  begins_before c.args.self.now c.requires.can c.args.number c.args.key c.args.from _ c.requires.from (point c),
  record { adds = adds_nothing (IsPasserRow c.args.self.now c.args.number c.args.key c.args.from c.args.from) _ (passers_none c.args.self.now c.requires.can c.args.number c.args.key c.args.from); few = omega arith; room = refl },
)

pub next_below-requires-clause-minima_are : goal.next_below-requires-clause-minima_are
next_below-requires-clause-minima_are c = rw (c.deref-in-loop-next.ensures.value, c.deref-in-loop-next-2.ensures.value) c.requires.can.reaches

pub put_if_overlaps-requires-clause-other : goal.put_if_overlaps-requires-clause-other
put_if_overlaps-requires-clause-other c =
    let high = c.in-Some.ensures.1 in
    subst (λ (p : Passing). (u : ℕ) × IsCommittedAt c.args.self.now.evidence.index.now p.reader u) (sym c.index.ensures) (passer_at c.args.self.now c.requires.can c.in-Some.next c.index.result.now (omega arith))

pub loop-next-preserved : goal.loop-next-preserved
loop-next-preserved c =
    let self = c.args.self.now in
    let i = c.args.number in
    let j = c.args.key in
    let next = c.in-Some.next in
    let p = c.index.result.now in
    let low = c.loop-next.invariant.0 in
    let le = c.in-Some.ensures.0 in
    let high = c.in-Some.ensures.1 in
    let most = bound (goal.at.loop-next-preserved c).After-from-limit in
    let reaches = rw (c.deref-in-loop-next.ensures.value, c.from-limit.ensures) at c.in-Some.ensures.2 in
    let passed : AllWithin (λ (x : Passing). 4294967295 - j ≤ 4294967295 - x.to) self.passings.items c.loop-next.at next = rw (c.deref-in-loop-next.ensures.value, c.from-limit.ensures) at c.in-Some.ensures.3 in
    let begins = (begin_up_to self c.requires.can i j _ most (point (goal.at.loop-next-preserved c).After-from-limit)).1 next p high in
    let more = subst (λ (x : Passing). PutsMore (IsInRow self.evidence.index.now i x.reader) 1 c.loop-next.rows c.put_if_overlaps.new.rows) c.index.ensures c.put_if_overlaps.ensures in (
      omega arith,
      omega arith,
      puts_then (IsPasserRow self i j c.args.from c.loop-next.at) (IsInRow self.evidence.index.now i (slice_index_or self.passings.items next p).reader) (IsPasserRow self i j c.args.from (next + 1)) (c.loop-next.at - c.args.from) 1 (next + 1 - c.args.from) _ _ _ (omega arith)
          (passers_more self c.requires.can i j c.args.from c.loop-next.at next p low le (omega arith) begins (reaches p) passed) c.loop-next.invariant.2 more,
    )

pub returns-clause-puts : goal.returns-clause-puts
returns-clause-puts c =
    let self = c.args.self.now in
    let to = c.place_above-to.result in
    let high = c.loop-next.invariant.1 in
    let passed : AllWithin (λ (x : Passing). 4294967295 - c.args.key ≤ 4294967295 - x.to) self.passings.items c.loop-next.at to = rw (c.deref-in-loop-next.ensures.value, c.from-limit.ensures) at c.in_default.ensures in
    puts_like (IsPasserRow self c.args.number c.args.key c.args.from c.loop-next.at) (IsPasserRow self c.args.number c.args.key c.args.from (length self.passings.items)) (c.loop-next.at - c.args.from) (to - c.args.from) _ _ (omega arith)
    (passers_all self c.requires.can c.args.number c.args.key c.args.from c.loop-next.at to (bound (goal.at.returns-clause-puts c).After-from-limit) high passed (point (goal.at.returns-clause-puts c).After-from-limit)) c.loop-next.invariant.2
