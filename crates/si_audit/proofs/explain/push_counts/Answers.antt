-- Findings are counted one after another, and then the counts are told.
use Rattle.std.proofs.Common.{◌≡◌, ◌≢◌, ◌+◌, ◌++◌, ◌∙◌, [], ℕ, List, get_or, set, take, flat_map, ap, sym, subst, refl, rules, append_assoc, arith, take_all}
use Rattle.std.proofs.lemmas.List.Elements.{All-contains}
use Rattle.std.proofs.lemmas.Result.{on_ok_weaker}
use Rattle.sia_events.specs.Transactions.{HasEvent, StartsAt}
use Rattle.sia_events.proofs.Writing.Writing.{when_ok}
use Rattle.sia_parts.specs.Acts.{HasActs}
use Rattle.sia_parts.specs.declared.finding.BadRead.{BadRead}
use Rattle.sia_parts.specs.declared.finding.BadWrite.{BadWrite}
use Rattle.sia_parts.proofs.Shared.Options.{if_not_there}
use Rattle.si_audit.specs.Counts.{IsLost, count_words, counts_line}
use Rattle.si_audit.proofs.OfReasons.Counting.{AreBegun, AreCounted, at_index, at_most_taken, begun, conflict_counted, found_there, line_ends, lost_counted, name_pushed, none_more, placed, read_counted, read_fits, rows_more, rows_of, some_more, tail}
use Rattle.si_audit.proofs.explain.push_counts.Goals as goal
use Rattle.si_audit.proofs.explain.push_counts.Goals.{in-Some, in_default, then-is_some, else-is_some, then-counts-name-gt0+in_ok-push_number+in_ok-extend_from_slice, else-counts-name-gt0}

pub anomaly_of-name-requires-clause-bad : goal.anomaly_of-name-requires-clause-bad
anomaly_of-name-requires-clause-bad c =
    ((c.requires.judgement.bad_reads.each _).0 (at_index c.deref-b-items.result.now c.args.j.now.bad_reads.items c.loop-b.b-index _ c.deref-b-items.ensures.value c.loop-b-test.true)).0

pub anomaly_of-name-requires-clause-starts : goal.anomaly_of-name-requires-clause-starts
anomaly_of-name-requires-clause-starts c =
    let known = c.in-Some.ensures in
    let b : BadRead = get_or c.deref-b-items.result.now c.loop-b.b-index (record { place = 0; txn = 0; key = 0; saw = 0; due = 0 }) in
    subst (λ g. StartsAt g b.txn c.in-Some.info.start) c.requires.index known.0

pub overflow_add-counts : goal.overflow_add-counts
overflow_add-counts c =
    read_fits c.args.of.now.history.now c.deref-b-items.result.now c.loop-b.b-index _ c.loop-b.counts c.anomaly_of-name.result c.loop-b-test.true (let inside = c.loop-b-test.true in omega arith) c.loop-b.invariant (search rules)

pub loop-b-preserved : goal.loop-b-preserved
loop-b-preserved c =
    let h = c.args.of.now.history.now in
    let reads = c.deref-b-items.result.now in
    let i = c.loop-b.b-index in
    let counts = c.loop-b.counts in
    let b : BadRead = get_or reads i (record { place = 0; txn = 0; key = 0; saw = 0; due = 0 }) in
    let bad = ((c.requires.judgement.bad_reads.each b).0 (at_index reads c.args.j.now.bad_reads.items i _ c.deref-b-items.ensures.value c.loop-b-test.true)).0 in
    elim c.match-txn.branch [
      | in-Some w ↦
          let own = w.anomaly_of-name.result in
          read_counted h c.law.ensures reads i _ counts c.match-txn.counts own c.loop-b-test.true w.anomaly_of-name.ensures c.loop-b.invariant (placed counts c.match-txn.counts _ own w.counts-is (search rules))
      | in_default w ↦ absurd (w.in_default.ensures (subst (λ g. HasEvent g b.txn) (sym c.requires.index) (b.place, (bad.0.0, bad.0.1, bad.0.2))))
    ]

pub loss_of-requires-clause-acts : goal.loss_of-requires-clause-acts
loss_of-requires-clause-acts c =
    let of = c.args.of.now in
    All-contains (λ (b : BadWrite). HasActs of.history.now b.second of.acts.now) c.args.j.now.bad_writes.items _ c.requires.acts
    (at_index c.deref-b-items-2.result.now c.args.j.now.bad_writes.items c.loop-b-2.b-index _ c.deref-b-items-2.ensures.value c.loop-b-2-test.true)

pub loss_of-requires-clause-bad : goal.loss_of-requires-clause-bad
loss_of-requires-clause-bad c =
    ((c.requires.judgement.bad_writes.each _).0 (at_index c.deref-b-items-2.result.now c.args.j.now.bad_writes.items c.loop-b-2.b-index _ c.deref-b-items-2.ensures.value c.loop-b-2-test.true)).0

pub overflow_add-counts-in-loop-b-2 : goal.overflow_add-counts-in-loop-b-2
overflow_add-counts-in-loop-b-2 c =
    let h = c.args.of.now.history.now in
    let writes = c.deref-b-items-2.result.now in
    let i = c.loop-b-2.b-index in
    let counts = c.loop-b-2.counts in
    let inside = c.loop-b-2-test.true in
    elim c.if-is_some.branch [
      | then-is_some w ↦
          let few = at_most_taken (IsLost h) writes i (get_or counts 6 0) inside c.loop-b-2.invariant.2 in
          let same : get_or counts c.if-is_some.counts 0 ≡ get_or counts 6 0 = ap (λ (k : ℕ). get_or counts k 0) w.counts-is in
          omega arith
      | else-is_some w ↦
          let few = at_most_taken (λ b. ¬ IsLost h b) writes i (get_or counts 7 0) inside c.loop-b-2.invariant.3 in
          let same : get_or counts c.if-is_some.counts 0 ≡ get_or counts 7 0 = ap (λ (k : ℕ). get_or counts k 0) w.counts-is in
          omega arith
    ]

pub loop-b-2-preserved : goal.loop-b-2-preserved
loop-b-2-preserved c =
    let h = c.args.of.now.history.now in
    let reads = c.args.j.now.bad_reads.items in
    let writes = c.deref-b-items-2.result.now in
    let i = c.loop-b-2.b-index in
    let counts = c.loop-b-2.counts in
    elim c.if-is_some.branch [
      | then-is_some w ↦
          let lost = found_there _ _ c.loss_of.result (sym c.is_some.ensures ∙ w.if-is_some.true) c.loss_of.ensures in
          lost_counted h reads writes i _ counts _ c.loop-b-2-test.true c.loop-b-2.invariant (lost.0, lost.1.0) (ap (λ (k : ℕ). set counts k (get_or counts k 0 + 1)) w.counts-is)
      | else-is_some w ↦
          conflict_counted h reads writes i _ counts _ c.loop-b-2-test.true c.loop-b-2.invariant
          (if_not_there _ _ c.loss_of.result (sym c.is_some.ensures ∙ w.if-is_some.false) c.loss_of.ensures) (ap (λ (k : ℕ). set counts k (get_or counts k 0 + 1)) w.counts-is)
    ]

pub loop-name-preserved : goal.loop-name-preserved
loop-name-preserved c =
    let counts = c.loop-b-2.counts in
    let i = c.loop-name.name in
    let name = (get_or (rows_of counts) i (0, [])).1 in
    let o = c.args.out.now.items in
    subst (λ rows. AreBegun rows o c.if-counts-name-gt0.out.items c.if-counts-name-gt0.before.now c.if-counts-name-gt0.end.now) (sym (rows_more counts i c.loop-name-test.true)) (elim c.if-counts-name-gt0.branch [
      | then-counts-name-gt0+in_ok-push_number+in_ok-extend_from_slice w ↦
          let named : w.extend_from_slice.new.self.items ≡ w.push_number.new.out.items ++ name = name_pushed _ _ _ _ _ _ _ _ counts i _ _ w.in_ok-extend_from_slice.ensures.items c.loop-name-test.true in
          let some : get_or counts i 0 ≢ 0 = λ none. let more = w.if-counts-name-gt0.true in omega arith in
          rw (w.out-is, w.before-is, w.end-is) (some_more (take i (rows_of counts)) (get_or counts i 0) name o _ _ _ _ _ some w.in_ok-push_number.ensures named c.loop-name.invariant)
      | else-counts-name-gt0 w ↦
          rw (w.out-is, w.before-is, w.end-is) (none_more (take i (rows_of counts)) (get_or counts i 0) name o _ _ _ (let none = w.if-counts-name-gt0.false in omega arith) c.loop-name.invariant)
    ])

pub returns : goal.returns
returns c =
    let h = c.args.of.now.history.now in
    let counts = c.loop-b-2.counts in
    let o = c.args.out.now.items in
    let words = flat_map count_words (rows_of counts) in
    let whole = take_all c.loop-name.name (rows_of counts) c.loop-name-test.false in
    let so = subst (λ rows. AreBegun rows o c.loop-name.out.items c.loop-name.before.now c.loop-name.end.now) whole c.loop-name.invariant in
    let found = subst (λ writes. AreCounted h c.args.j.now.bad_reads.items writes counts) (take_all c.loop-b-2.b-index c.deref-b-items-2.result.now c.loop-b-2-test.false ∙ c.deref-b-items-2.ensures.value) c.loop-b-2.invariant in
    on_ok_weaker c.extend_from_slice-2.result (λ ended. (
      counts_line words,
      (_, _, _, found.1, found.2, found.3, refl),
      ended ∙ (λ i. so.0 i ++ so.2 i) ∙ append_assoc o (begun words) (tail words) ∙ ap (λ (x : List ℕ). o ++ x) (line_ends words),
    )) (when_ok _ _ _ _ c.extend_from_slice-2.ensures.items)
