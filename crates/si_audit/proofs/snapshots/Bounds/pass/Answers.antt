-- The keys between the found ones have no version that would lower the high bound.
use Rattle.std.proofs.Common.{◌≢◌, inl, ◌+◌, ◌≤◌, refl, sym, arith}
use Rattle.std.specs.Prelude.{slice_index}
use Rattle.sia_events.proofs.OfLaws.Seen.{actor_is_txn}
use Rattle.sia_index.specs.Info.{IsKeyAt}
use Rattle.sia_index.proofs.Shared.KeyChains.{key_number}
use Rattle.si_audit.proofs.Shared.SoFar.{sees_then, sees_passed}
use Rattle.si_audit.proofs.snapshots.Bounds.pass.Goals as goal

pub bounds-written_keys-number : goal.bounds-written_keys-number
bounds-written_keys-number c =
    let at = c.requires.keys c.in-Some.number c.in-Some.ensures.1 in
    (key_number c.args.ix.now c.written_keys.result.now c.written_keys.ensures c.in-Some.number (slice_index at.0 c.in-Some.number) (at.0, at.1, at.2, refl)).0

pub loop-number-preserved : goal.loop-number-preserved
loop-number-preserved c =
    let h = c.args.ix.now in
    let wf = c.law.ensures in
    let n = c.in-Some.number in
    let p = c.args.place in
    let so = c.loop-number.invariant in
    let low = so.low in
    let found = c.in-Some.ensures in
    let more = found.0 in
    let less = found.1 in
    let keys = c.written_keys.result.now in
    let key = slice_index keys n in
    let first = c.first_position.ensures in
    let named = key_number h keys c.written_keys.ensures n first.0.key first.2 in
    let at : IsKeyAt h n key = (keys, c.written_keys.ensures, named.0, refl) in
    let least : c.loop-number.self.high.commit ≤ c.saturating_sub.result + 1 = omega arith in
    record {
      low = omega arith;
      high = omega arith;
      sees = λ t has read.
          let positive = (actor_is_txn h wf t has.0 has.1).0 in
          let some : 0 ≢ t = λ zero. omega arith in
          let passed = sees_passed h wf t p c.loop-number.next n c.saturating_sub.result c.loop-number.self more least
          (λ i k after before is. read i k (omega arith) (omega arith) is) (λ i k after before is. found.2 i k after before is) in
          let one = c.see.ensures t n 0 first.0 first.1 (sym named.1) at (inl (refl, first.3)) some (read n key (omega arith) less at) in
          sees_then h wf t p c.args.from p n p (n + 1) c.args.self.now c.loop-number.self c.see.new.self
          (sees_then h wf t p c.args.from p c.loop-number.next p n c.args.self.now c.loop-number.self c.loop-number.self (so.sees t has read) passed)
          one;
    }

pub returns : goal.returns
returns c t has read =
    let h = c.args.ix.now in
    let p = c.args.place in
    let so = c.loop-number.invariant in
    let low = so.low in
    let least : c.loop-number.self.high.commit ≤ c.saturating_sub.result + 1 = omega arith in
    sees_then h c.law.ensures t p c.args.from p c.loop-number.next p c.args.to c.args.self.now c.loop-number.self c.loop-number.self (so.sees t has read)
    (sees_passed h c.law.ensures t p c.loop-number.next c.args.to c.saturating_sub.result c.loop-number.self so.high least
    (λ i k after before is. read i k (omega arith) before is) c.in_default.ensures)
