-- The makers behind the next position, where it is the oldest of its key: else those are told already. And those of the next key of
-- the next range miss, of which a version was committed.
use Rattle.std.proofs.Common.{◌-◌, ◌+◌, ◌≤◌, inl, inr, length, get_or, refl, arith}
use Rattle.std.specs.List.Sorted.{IsNonDecreasingBy}
use Rattle.sia_parts.specs.declared.accesses.RangeMiss.{RangeMiss}
use Rattle.sia_parts.specs.Sights.{FromSome}
use Rattle.sia_parts.proofs.EdgeRows.AccessRows.{reaches_more}
use Rattle.sia_parts.proofs.Shared.Adding.{FromFirst, adds_nothing, first_more}
use Rattle.sia_parts.proofs.Shared.FewNumbers.{few_keys}
use Rattle.sia_graph.specs.Found.{missed_of, saw_of}
use Rattle.sia_graph.specs.Links.{IsVulnerableAt, OverlapsBehind, OverlapsIn}
use Rattle.sia_graph.proofs.OfPivots.Outs.{IsOut, adds_same_outs, adds_then, all_outs, ends_more, ends_same, ends_within, first_all, keys_more, keys_none, miss_at, misses_more, missed_all, outs_both, outs_same, puts_like, puts_then, saw_all, saw_at, seen_held, span, takes_later, takes_more}
use Rattle.sia_graph.proofs.neighbours.Neighbours.put_outs.Goals as goal
use Rattle.sia_graph.proofs.neighbours.Neighbours.put_outs.Goals.{then-position-end, else-position-end}

pub put_makers-end-requires-clause-position : goal.put_makers-end-requires-clause-position
put_makers-end-requires-clause-position c =
    let t = c.requires.number in
    saw_at c.args.self.now c.requires.can c.args.number t.0 t.1 c.at-position-items.result.now c.at-position-items.ensures c.loop-position.position-index c.loop-position-test.true

pub loop-position-preserved : goal.loop-position-preserved
loop-position-preserved c =
    let h = c.args.self.now.evidence.index.now in
    let i = c.args.number in
    let P = OverlapsBehind h i in
    let xs = c.at-position-items.result.now in
    let n = c.loop-position.position-index in
    let t = c.requires.number in
    let rise : IsNonDecreasingBy (λ q. q) xs = rw c.at-position-items.ensures (c.requires.can.saw_rise i) in
    let below = c.loop-position-test.true in
    let before = c.loop-position.invariant.2 in
    let w = saw_at c.args.self.now c.requires.can i t.0 t.1 xs c.at-position-items.ensures n below in
    elim c.if-position-end.branch [
      | then-position-end b ↦
          let end = b.put_makers-end.ensures.end in
          rw (b.rows-is, b.end-is) (
            ends_more h i xs n below _ end,
            ends_within h _ _ (length c.args.self.now.looks.now) c.requires.can.looks.long end,
            puts_then _ _ _ c.loop-position.end (b.put_makers-end.result - get_or xs n 0) b.put_makers-end.result _ _ _
                (let past = b.if-position-end.true in let is = end.1 in let behind = end.2 in omega arith)
                (outs_both (FromFirst P xs n) (P (get_or xs n 0)) (FromFirst P xs (n + 1)) (first_more P xs n 0 below)) before b.put_makers-end.ensures.puts,
          )
      | else-position-end b ↦
          rw (b.rows-is, b.end-is) (
            ends_same h i xs n below _ c.loop-position.invariant.0,
            c.loop-position.invariant.1,
            puts_like _ _ c.loop-position.end c.loop-position.end _ _ (omega arith)
                (outs_same (FromFirst P xs n) (FromFirst P xs (n + 1)) (seen_held h i xs n below rise c.loop-position.end c.loop-position.invariant.0 (let less = b.if-position-end.false in omega arith) w.0 w.1)) before,
          )
    ]

pub loop-miss-init : goal.loop-miss-init
loop-miss-init c =
    let before = c.loop-position.invariant.2 in (
      (λ j less all. absurd (omega arith)),
      record { low = 0; stand = λ k q le of. omega arith; within = omega arith; few = (let few = before.few in let most = c.loop-position.invariant.1 in omega arith); room = before.room },
      adds_nothing (IsOut (FromFirst (OverlapsIn c.args.self.now.evidence.index.now c.args.number) c.at-miss-items.result.now 0)) _ (λ n f. absurd (let below = f.1.1.1 in omega arith)),
    )

pub loop-key-init : goal.loop-key-init
loop-key-init c = (
  omega arith,
  inl refl,
  takes_later c.args.self.now.evidence.index.now _ _ c.loop-miss.reached _ _ (let is = c.max-from.ensures in omega arith) c.loop-miss.invariant.1,
  adds_nothing _ _ (λ n p. keys_none c.args.self.now.evidence.index.now c.args.number c.requires.can.evidence.well_formed c.max-from.result n.txn p.1),
)

pub next_visible-requires : goal.next_visible-requires
next_visible-requires c =
    let t = c.requires.number in
    (miss_at c.args.self.now c.requires.can c.args.number t.0 t.1 c.at-miss-items.result.now c.at-miss-items.ensures c.loop-miss.miss-index c.loop-miss-test.true).1

pub first_position-requires : goal.first_position-requires
first_position-requires c =
    let t = c.requires.number in
    (miss_at c.args.self.now c.requires.can c.args.number t.0 t.1 c.at-miss-items.result.now c.at-miss-items.ensures c.loop-miss.miss-index c.loop-miss-test.true).1 c.in-Some.key c.in-Some.ensures.1

pub put_makers-requires-clause-room : goal.put_makers-requires-clause-room
put_makers-requires-clause-room c =
    let first = c.first_position.ensures in
    let takes = c.loop-key.invariant.2 in
    let low = takes.stand c.in-Some.key c.first_position.result c.in-Some.ensures.0 (record { version = first.0; at = first.1; key = first.2 }) in
    omega arith

pub overflow_add-from : goal.overflow_add-from
overflow_add-from c = (let first = c.first_position.ensures in let few = few_keys c.args.self.now.evidence.index.now c.requires.can.evidence.well_formed c.in-Some.key first.0.key first.2 in omega arith)

pub loop-key-preserved : goal.loop-key-preserved
loop-key-preserved c =
    let h = c.args.self.now.evidence.index.now in
    let i = c.args.number in
    let low = c.loop-key.invariant.0 in
    let from = c.in-Some.ensures.0 in
    let to = c.in-Some.ensures.1 in
    let first = c.first_position.ensures in
    let puts = c.put_makers.ensures.puts in
    let start = c.max-from.result in (
      omega arith,
      inr (omega arith),
      takes_more h (length c.args.self.now.looks.now) _ c.requires.can.looks.long c.loop-key.from c.in-Some.key c.first_position.result c.put_makers.result _ _ c.loop-key.invariant.2 from (record { version = first.0; at = first.1; key = first.2 })
          c.put_makers.ensures.end puts.few puts.room,
      adds_then (OverlapsIn h i (span start c.loop-key.from)) (OverlapsBehind h i c.first_position.result) (OverlapsIn h i (span start (c.in-Some.key + 1))) _ _ _
          (keys_more h i c.requires.can.evidence.well_formed start c.loop-key.from c.in-Some.key c.first_position.result first.0 low from first.1 first.2 first.3 c.in-Some.ensures.2) c.loop-key.invariant.3 puts.adds,
    )

pub loop-miss-preserved : goal.loop-miss-preserved
loop-miss-preserved c =
    let h = c.args.self.now.evidence.index.now in
    let i = c.args.number in
    let xs = c.at-miss-items.result.now in
    let n = c.loop-miss.miss-index in
    let below = c.loop-miss-test.true in
    let t = c.requires.number in
    let rise : IsNonDecreasingBy (λ (miss : RangeMiss). miss.from) xs = rw c.at-miss-items.ensures (c.requires.can.missed_rise i) in
    let some = (miss_at c.args.self.now c.requires.can i t.0 t.1 xs c.at-miss-items.ensures n below).0 in
    let first = c.max-from.ensures in
    let end = c.max-reached.ensures in
    let key = c.loop-key.invariant in
    let start = c.max-from.result in
    let high : c.loop-key.from ≤ c.max-reached.result = elim key.1 [ inl same ↦ omega arith | inr most ↦ omega arith ] in (
      reaches_more h i xs n (span 0 0) below rise c.loop-miss.reached c.loop-miss.invariant.0 _ end,
      takes_later h _ _ c.loop-key.from _ _ high key.2,
      adds_then (FromFirst (OverlapsIn h i) xs n) (OverlapsIn h i (span start c.loop-key.from)) (FromFirst (OverlapsIn h i) xs (n + 1)) _ _ _
          (misses_more h i c.requires.can.evidence.well_formed xs n (span 0 0) below rise c.loop-miss.reached start first c.loop-miss.invariant.0 c.loop-key.from key.1 c.in_default.ensures) c.loop-miss.invariant.2 key.3,
    )

pub returns : goal.returns
returns c =
    let self = c.args.self.now in
    let h = self.evidence.index.now in
    let i = c.args.number in
    let t = c.requires.number in
    let P = OverlapsBehind h i in
    let Q = OverlapsIn h i in
    let xs = c.at-position-items.result.now in
    let ys = c.at-miss-items.result.now in
    let takes = c.loop-miss.invariant.1 in
    record {
      adds = adds_then (FromSome P xs) (FromSome Q ys) (IsVulnerableAt h i) _ _ _
          (rw (c.at-position-items.ensures, c.at-miss-items.ensures) (all_outs h i c.requires.can.evidence.well_formed self.evidence.accesses.now c.requires.can.evidence.accesses t.0 t.1 (saw_of self i) (missed_of self i) (saw_all self c.requires.can i t.0 t.1) (missed_all self c.requires.can i t.0 t.1)))
          (adds_same_outs _ (FromSome P xs) _ _ (first_all P xs c.loop-position.position-index c.loop-position-test.false) c.loop-position.invariant.2.adds)
          (adds_same_outs _ (FromSome Q ys) _ _ (first_all Q ys c.loop-miss.miss-index c.loop-miss-test.false) c.loop-miss.invariant.2);
      few = (let few = takes.few in let within = takes.within in omega arith);
      room = takes.room;
    }
