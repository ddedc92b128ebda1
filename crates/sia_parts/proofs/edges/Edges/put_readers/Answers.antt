-- Those who are noted at the next position.
use Rattle.std.proofs.Common.{◌≡◌, ◌∙◌, ◌+◌, ◌<◌, ◌≤◌, ℕ, [], length, get_or, refl, ap, sym, subst, arith}
use Rattle.std.specs.Prelude.{slice_index_or}
use Rattle.sia_parts.specs.EdgeRows.{IsOfKey, IsReadingRow, noted_between}
use Rattle.sia_parts.proofs.Shared.Adding.{adds_push, adds_nothing, from_more, from_all, from_none}
use Rattle.sia_parts.proofs.EdgeRows.EdgeLoops.{readers_all, readers_more, readers_none}
use Rattle.sia_parts.proofs.EdgeRows.PositionOrder.{position_below}
use Rattle.sia_parts.proofs.EdgeRows.Room.{end_behind, noted_more, noted_rises, puts_like, puts_push}
use Rattle.sia_parts.proofs.edges.Edges.put_readers.Goals as goal
use Rattle.sia_parts.proofs.edges.Edges.put_readers.Goals.{then-target-source, else-target-source}

pub loop-reader-init : goal.loop-reader-init
loop-reader-init c = record { adds = from_none (IsReadingRow c.args.source c.key_at-key.result) c.at-reader-items.result.now _; few = omega arith; room = refl }

pub loop-reader-preserved : goal.loop-reader-preserved
loop-reader-preserved c =
    let readings = c.at-reader-items.result.now in
    let n = c.loop-reader.reader-index in
    let key = c.key_at-key.result in
    let P = IsReadingRow c.args.source key in
    let before = c.loop-reader.invariant in
    elim c.if-target-source.branch [
      | then-target-source w ↦ rw w.rows-is (puts_push _ _ _ _ _ _ before (omega arith) _ _ w.push_reserved.ensures.items w.push_reserved.ensures.capacity
          (from_more P readings n 0 _ _ _ c.loop-reader-test.true before.adds (adds_push (P (get_or readings n 0)) _ _ (refl, w.if-target-source.true) (λ row is. sym is.0))))
      | else-target-source w ↦ rw w.rows-is (puts_like _ _ _ _ _ _ before (omega arith)
          (from_more P readings n 0 _ _ _ c.loop-reader-test.true before.adds (adds_nothing (P (get_or readings n 0)) _ (λ row is. is.1 w.if-target-source.false))))
    ]

pub push_reserved-requires : goal.push_reserved-requires
push_reserved-requires c =
    let readings = c.args.self.now.readings.now in
    let h = c.args.self.now.index.now in
    let seen = c.loop-seen.seen in
    let of : IsOfKey h c.key_at-key.result c.args.position = record { version = c.requires.position.0; at = c.requires.position.1; key = c.key_at-key.ensures c.requires.position.0 c.requires.position.1 } in
    let there = c.requires.end.own c.key_at-key.result seen of c.loop-seen.auto.seen c.loop-seen-test.true in
    let more = noted_more readings seen (position_below h _ seen there.version c.requires.tell.readings.long there.at) in
    let rest = noted_rises readings (seen + 1) c.args.end (let high = c.loop-seen-test.true in omega arith) in
    let low = noted_rises readings c.args.position seen c.loop-seen.auto.seen in
    let items = c.at-reader-items.ensures in
    let below : c.loop-reader.reader-index < length (slice_index_or readings seen []) = rw items at c.loop-reader-test.true in
    let room = c.requires.room in
    let few = c.loop-seen.invariant.few in
    let same = c.loop-seen.invariant.room in
    let own = c.loop-reader.invariant.few in
    let again = c.loop-reader.invariant.room in
    let ok = c.loop-reader.rows.ok in
    omega arith

pub at-reader-items-requires : goal.at-reader-items-requires
at-reader-items-requires c =
    let h = c.args.self.now.index.now in
    let own : IsOfKey h c.key_at-key.result c.args.position = record { version = c.requires.position.0; at = c.requires.position.1; key = c.key_at-key.ensures c.requires.position.0 c.requires.position.1 } in
    let there = c.requires.end.own c.key_at-key.result c.loop-seen.seen own c.loop-seen.auto.seen c.loop-seen-test.true in
    position_below h _ c.loop-seen.seen there.version c.requires.tell.readings.long there.at

pub loop-seen-preserved : goal.loop-seen-preserved
loop-seen-preserved c =
    let h = c.args.self.now.index.now in
    let of : IsOfKey h c.key_at-key.result c.args.position = record { version = c.requires.position.0; at = c.requires.position.1; key = c.key_at-key.ensures c.requires.position.0 c.requires.position.1 } in
    let there = c.requires.end.own c.key_at-key.result c.loop-seen.seen of c.loop-seen.auto.seen c.loop-seen-test.true in
    let readings = c.args.self.now.readings.now in
    let more = noted_more readings c.loop-seen.seen (position_below h _ c.loop-seen.seen there.version c.requires.tell.readings.long there.at) in
    let low = noted_rises readings c.args.position c.loop-seen.seen c.loop-seen.auto.seen in
    let before = c.loop-seen.invariant in
    let own = c.loop-reader.invariant in
    record {
      adds = readers_more c.args.self.now c.args.source c.args.position c.loop-seen.seen c.key_at-key.result _ _ _ c.requires.tell.readings c.loop-seen.auto.seen of there before.adds
          (rw (sym c.at-reader-items.ensures) (from_all (IsReadingRow c.args.source c.key_at-key.result) c.at-reader-items.result.now c.loop-reader.reader-index _ _ c.loop-reader-test.false own.adds));
      few = (
          let long = ap (length {A = ℕ}) c.at-reader-items.ensures in
          let most = c.loop-reader.auto in
          let first = before.few in
          let then = own.few in
          omega arith);
      room = own.room ∙ before.room;
    }

pub loop-seen-init : goal.loop-seen-init
loop-seen-init c = record { adds = readers_none c.args.self.now c.args.source c.args.position _; few = omega arith; room = refl }

pub returns : goal.returns
returns c =
    let before = c.loop-seen.invariant in
    let last = c.loop-seen-test.false in
    let some = end_behind c.args.self.now.index.now c.args.position c.args.end c.requires.end in
    let end : c.loop-seen.seen ≡ c.args.end = (let most = c.loop-seen.auto in omega arith) in
    puts_like _ _ _ _ _ _ before (subst (λ n. noted_between c.args.self.now.readings.now c.args.position c.loop-seen.seen ≤ noted_between c.args.self.now.readings.now c.args.position n) end (omega arith))
    (readers_all c.args.self.now c.args.source c.args.position c.args.end c.loop-seen.seen _ _ c.requires.end last before.adds)
