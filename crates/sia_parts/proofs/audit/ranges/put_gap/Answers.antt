-- Below the next doubtful key version 0 was due. Of all keys passed over comes a range miss.
use Rattle.std.proofs.Common.{◌+◌, ◌-◌, refl, subst, arith}
use Rattle.std.specs.Prelude.{◌↔◌, IsTrue, slice_index}
use Rattle.sia_events.specs.Reads.{SawAt}
use Rattle.sia_events.specs.Transactions.{WroteBefore}
use Rattle.sia_index.specs.Info.{IsKeyAt}
use Rattle.sia_index.proofs.Shared.KeyChains.{key_number}
use Rattle.sia_parts.specs.declared.audit.sights.Seen.{Seen}
use Rattle.sia_parts.specs.Seeing.{Gains, IsSightWithin}
use Rattle.sia_parts.proofs.Shared.OneNumber.{one_key}
use Rattle.sia_parts.proofs.Auditing.Gaining.{wrong_then}
use Rattle.sia_parts.proofs.Auditing.Passing.{gap_gains, none_wrong, one_wrong, part_of_gap}
use Rattle.sia_parts.proofs.Auditing.Viewing.{on_both}
use Rattle.sia_parts.proofs.audit.ranges.put_gap.Goals as goal
use Rattle.sia_parts.proofs.audit.ranges.put_gap.Goals.{then-own, else-own}

pub next_doubtful-requires-clause-keys : goal.next_doubtful-requires-clause-keys
next_doubtful-requires-clause-keys c i below =
    let last = c.requires.gap.unlisted (c.args.to - 1) (let some = c.if-from-to.false in omega arith) (let some = c.if-from-to.false in omega arith) in
    (last.1.0, last.1.1, (let inside = last.1.2 in omega arith))

pub next_doubtful-requires-clause-gap : goal.next_doubtful-requires-clause-gap
next_doubtful-requires-clause-gap c = part_of_gap c.args.ix.now c.args.known.now c.args.own c.args.from c.args.to c.requires.gap c.loop-number.next c.args.to c.loop-number.invariant.low (omega arith)

pub bounds-written_keys-number : goal.bounds-written_keys-number
bounds-written_keys-number c =
    let is = c.in-Some.ensures in
    let low = c.loop-number.invariant.low in
    let first = is.0 in
    let gap = part_of_gap c.args.ix.now c.args.known.now c.args.own c.args.from c.args.to c.requires.gap c.in-Some.number (c.in-Some.number + 1) (omega arith) (let less = is.1 in omega arith) in
    let saw = gap.unlisted c.in-Some.number (omega arith) (omega arith) in
    (key_number c.args.ix.now c.written_keys.result.now c.written_keys.ensures c.in-Some.number saw.0 saw.1).0

pub due_at-due-requires-clause-key : goal.due_at-due-requires-clause-key
due_at-due-requires-clause-key c =
    let is = c.in-Some.ensures in
    let low = c.loop-number.invariant.low in
    let first = is.0 in
    let gap = part_of_gap c.args.ix.now c.args.known.now c.args.own c.args.from c.args.to c.requires.gap c.in-Some.number (c.in-Some.number + 1) (omega arith) (let less = is.1 in omega arith) in
    let saw = gap.unlisted c.in-Some.number (omega arith) (omega arith) in
    (saw.1.0, saw.1.1, saw.1.2)

pub loop-number-preserved : goal.loop-number-preserved
loop-number-preserved c =
    let h = c.args.ix.now in
    let p = c.args.known.now.reader.place in
    let n = c.in-Some.number in
    let is = c.in-Some.ensures in
    let low = c.loop-number.invariant.low in
    let first = is.0 in
    let less = is.1 in
    let passed = none_wrong h c.requires.well_formed c.args.known.now c.requires.known c.args.own c.args.from c.args.to c.requires.gap c.loop-number.next n low (omega arith) is.2 c.loop-number.seen.wrong in
    let upto = wrong_then h p c.args.from c.loop-number.next n low first c.args.seen.now.wrong c.loop-number.seen.wrong c.loop-number.seen.wrong c.loop-number.invariant.wrong passed in
    let keys = c.written_keys.result.now in
    let known = c.args.known.now in
    let gap = part_of_gap h known c.args.own c.args.from c.args.to c.requires.gap n (n + 1) (omega arith) (omega arith) in
    let key = slice_index keys n in
    let saw = gap.unlisted n (omega arith) (omega arith) in
    let at : IsKeyAt h n key = (keys, c.written_keys.ensures, (key_number h keys c.written_keys.ensures n saw.0 saw.1).0, refl) in
    let mine : IsTrue c.if-own.mine ↔ WroteBefore h known.reader.txn key known.reader.place = elim c.if-own.branch [
      | then-own w ↦ rw w.mine-is w.wrote_before-mine.ensures
      | else-own w ↦ rw w.mine-is ((λ e. absurd cc), (λ before. absurd (gap.not_own w.if-own.false n key (omega arith) (omega arith) at before)))
    ] in
    let due = c.due_at-due.ensures key at mine in
    let adds = c.in_ok-put_if_bad.ensures h c.requires.well_formed c.requires.known (subst (λ k. SawAt h known.reader.place known.reader.txn k 0) (one_key h n saw.0 key saw.1 at) saw.2) due ((λ no. absurd cc), (λ loose. absurd (loose.0 refl))) in
    let one = one_wrong h c.requires.well_formed known c.requires.known c.args.own n (n + 1) gap n key (omega arith) (omega arith) at c.loop-number.seen.wrong c.put_if_bad.new.wrong (λ here. adds) in
    record {
      low = omega arith;
      high = omega arith;
      rest = c.loop-number.invariant.rest;
      wrong = wrong_then h p c.args.from n (n + 1) (omega arith) (omega arith) c.args.seen.now.wrong c.loop-number.seen.wrong c.put_if_bad.new.wrong upto one;
    }

pub returns : goal.returns
returns c =
    let h = c.args.ix.now in
    let p = c.args.known.now.reader.place in
    let seen = c.loop-number.seen in
    let low = c.loop-number.invariant.low in
    let high = c.loop-number.invariant.high in
    let passed = none_wrong h c.requires.well_formed c.args.known.now c.requires.known c.args.own c.args.from c.args.to c.requires.gap c.loop-number.next c.args.to low (omega arith) c.in_default.ensures c.loop-number.seen.wrong in
    let wrong = wrong_then h p c.args.from c.loop-number.next c.args.to low high c.args.seen.now.wrong c.loop-number.seen.wrong c.loop-number.seen.wrong c.loop-number.invariant.wrong passed in
    on_both c.put_miss.result _ _ _
    (λ gives some. subst (λ (old : Seen). Gains h (IsSightWithin h p c.args.from c.args.to) old (record { wrong = seen.wrong; saw = seen.saw; missed = c.put_miss.new.missed; near = seen.near })) c.loop-number.invariant.rest
    (gap_gains h c.requires.well_formed c.args.known.now c.requires.known c.args.own c.args.from c.args.to c.requires.gap (record { wrong = c.args.seen.now.wrong; saw = seen.saw; missed = seen.missed; near = seen.near }) seen.wrong c.put_miss.new.missed wrong gives some))
    c.put_miss.ensures.misses c.put_miss.ensures.some
