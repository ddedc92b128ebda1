-- The makers behind the next position, where it is the oldest of its key. Else those are told already.
use Rattle.std.proofs.Common.{◌∙◌, length, refl, sym, arith}
use Rattle.std.specs.List.Sorted.{IsNonDecreasingBy}
use Rattle.sia_parts.specs.declared.finding.Kind.TheVariants.{Rw}
use Rattle.sia_parts.specs.EdgeRows.{IsMakerRow}
use Rattle.sia_parts.specs.Parts.{IsWithin}
use Rattle.sia_parts.proofs.EdgeRows.AccessRows.{ends_behind, ends_more, ends_same, from_held, saw_positions, saw_within}
use Rattle.sia_parts.proofs.Shared.Adding.{from_all, from_more, from_none}
use Rattle.sia_parts.proofs.EdgeRows.EdgeLoops.{makers_behind}
use Rattle.sia_parts.proofs.EdgeRows.Room.{end_behind, end_within, puts_like}
use Rattle.sia_parts.proofs.edges.Edges.put_seen.Goals as goal
use Rattle.sia_parts.proofs.edges.Edges.put_seen.Goals.{then-position-end, else-position-end}

pub loop-position-init : goal.loop-position-init
loop-position-init c = ((λ some. absurd (omega arith)), omega arith, record { adds = from_none (IsMakerRow c.args.self.now.index.now c.args.source Rw) c.at-position-items.result.now _; few = omega arith; room = refl })

pub put_makers-end-requires-clause-position : goal.put_makers-end-requires-clause-position
put_makers-end-requires-clause-position c =
    let self = c.args.self.now in
    let h = self.index.now in
    let below = saw_within h (IsWithin self.within) self.accesses.now c.requires.tell.accesses c.args.source c.requires.source.0 c.requires.source.1 in
    rw c.at-position-items.ensures (saw_positions h (IsWithin self.within) self.accesses.now c.requires.tell.accesses c.args.source below c.loop-position.position-index 0 (rw c.at-position-items.ensures at c.loop-position-test.true))

pub put_makers-end-requires-clause-room : goal.put_makers-end-requires-clause-room
put_makers-end-requires-clause-room c end is =
    let most = end_within c.args.self.now.index.now _ end is (length c.args.self.now.readings.now) c.requires.tell.readings.long in
    let behind = end_behind c.args.self.now.index.now _ end is in
    let few = c.loop-position.invariant.2.few in
    let same = c.loop-position.invariant.2.room in
    let past = c.if-position-end.true in
    let room = c.requires.room in
    omega arith

pub loop-position-preserved : goal.loop-position-preserved
loop-position-preserved c =
    let h = c.args.self.now.index.now in
    let P = IsMakerRow h c.args.source Rw in
    let xs = c.at-position-items.result.now in
    let n = c.loop-position.position-index in
    let rise : IsNonDecreasingBy (λ q. q) xs = rw c.at-position-items.ensures (c.requires.tell.saw_rise c.args.source) in
    let below = c.loop-position-test.true in
    let before = c.loop-position.invariant.2 in
    elim c.if-position-end.branch [
      | then-position-end w ↦
          let puts = w.put_makers-end.ensures.puts in
          rw (w.rows-is, w.end-is) (
            ends_more h xs n below _ w.put_makers-end.ensures.end,
            end_within h _ _ w.put_makers-end.ensures.end (length c.args.self.now.readings.now) c.requires.tell.readings.long,
            record {
              adds = from_more P xs n 0 _ _ _ below before.adds puts.adds;
              few = (
                  let behind = end_behind h _ _ w.put_makers-end.ensures.end in
                  let past = w.if-position-end.true in
                  let few = before.few in
                  let more = puts.few in
                  omega arith);
              room = puts.room ∙ before.room;
            },
          )
      | else-position-end w ↦
          let behind = ends_behind h xs n below rise c.loop-position.end c.loop-position.invariant.0 (let less = w.if-position-end.false in omega arith) in
          rw (w.rows-is, w.end-is) (
            ends_same h xs n below _ c.loop-position.invariant.0,
            c.loop-position.invariant.1,
            puts_like _ _ _ _ _ _ before (omega arith) (from_held P xs n 0 _ _ below behind.0 behind.1 (λ row p. makers_behind h c.args.source Rw _ _ behind.2 row p) before.adds),
          )
    ]

pub returns : goal.returns
returns c =
    let P = IsMakerRow c.args.self.now.index.now c.args.source Rw in
    let before = c.loop-position.invariant.2 in
    rw (sym c.at-position-items.ensures) (puts_like _ _ _ _ _ _ before c.loop-position.invariant.1 (from_all P c.at-position-items.result.now c.loop-position.position-index _ _ c.loop-position-test.false before.adds))
