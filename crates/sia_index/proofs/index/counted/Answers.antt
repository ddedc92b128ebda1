-- Each transaction is counted once, as it ended.
use Rattle.std.proofs.Common.{refl, subst, arith}
use Rattle.sia_events.specs.declared.event.Event.TheVariants.{Abort, Commit}
use Rattle.sia_events.specs.Numbering.{Ends}
use Rattle.sia_events.specs.Transactions.{IsCommitted, IsAborted, IsOpen}
use Rattle.sia_events.proofs.OfLaws.Endings.{one_end}
use Rattle.sia_index.proofs.Answering.Tallies.{counted_all, counted_more, counted_none, counted_same}
use Rattle.sia_index.proofs.index.counted.Goals as goal
use Rattle.sia_index.proofs.index.counted.Goals.{in-Open, in-Committed, in-Aborted}

pub loop-number-init : goal.loop-number-init
loop-number-init c = record {
  events = c.len.ensures.len;
  few = (omega arith, omega arith, omega arith);
  committed = counted_none _ _;
  aborted = counted_none _ _;
  unfinished = counted_none _ _;
}

pub loop-number-preserved : goal.loop-number-preserved
loop-number-preserved c =
    let h = c.args.log.now in
    let n = c.loop-number.number in
    let so = c.loop-number.invariant in
    let t = c.txn.result.name in
    let here = c.txn.ensures.name in
    elim c.match-txn.branch [
      | in-Open w ↦
          let none = subst (Ends h t) w.in-Open.is c.txn.ensures.ends in
          rw w.counts-is (record {
            events = so.events;
            few = (omega (arith, so.few.0), omega (arith, so.few.1), omega (arith, so.few.2));
            committed = counted_same h (IsCommitted h) n t _ here so.committed none.1;
            aborted = counted_same h (IsAborted h) n t _ here so.aborted none.2;
            unfinished = counted_more h (IsOpen h) n t _ here so.unfinished none;
          })
      | in-Committed w ↦
          let commits = subst (Ends h t) w.in-Committed.is c.txn.ensures.ends in
          rw w.counts-is (record {
            events = so.events;
            few = (omega (arith, so.few.0), omega (arith, so.few.1), omega (arith, so.few.2));
            committed = counted_more h (IsCommitted h) n t _ here so.committed (w.in-Committed.field-0, commits);
            aborted = counted_same h (IsAborted h) n t _ here so.aborted (λ a. one_end h c.law.ensures t w.in-Committed.field-0 a.0 commits a.1);
            unfinished = counted_same h (IsOpen h) n t _ here so.unfinished (λ none. none.1 (w.in-Committed.field-0, commits));
          })
      | in-Aborted w ↦
          let aborts = subst (Ends h t) w.in-Aborted.is c.txn.ensures.ends in
          rw w.counts-is (record {
            events = so.events;
            few = (omega (arith, so.few.0), omega (arith, so.few.1), omega (arith, so.few.2));
            committed = counted_same h (IsCommitted h) n t _ here so.committed (λ d. one_end h c.law.ensures t d.0 w.in-Aborted.field-0 d.1 aborts);
            aborted = counted_more h (IsAborted h) n t _ here so.aborted (w.in-Aborted.field-0, aborts);
            unfinished = counted_same h (IsOpen h) n t _ here so.unfinished (λ none. none.2 (w.in-Aborted.field-0, aborts));
          })
    ]

pub returns : goal.returns
returns c =
    let h = c.args.log.now in
    let so = c.loop-number.invariant in
    let n = c.loop-number.number in
    record {
      events = so.events;
      committed = counted_all h (IsCommitted h) n _ (omega (arith, c.loop-number-test.false, c.txn_count-number-end.ensures)) (λ t d. (d.0, (Commit t, d.1, refl))) so.committed;
      aborted = counted_all h (IsAborted h) n _ (omega (arith, c.loop-number-test.false, c.txn_count-number-end.ensures)) (λ t d. (d.0, (Abort t, d.1, refl))) so.aborted;
      unfinished = counted_all h (IsOpen h) n _ (omega (arith, c.loop-number-test.false, c.txn_count-number-end.ensures)) (λ t d. d.0) so.unfinished;
    }
