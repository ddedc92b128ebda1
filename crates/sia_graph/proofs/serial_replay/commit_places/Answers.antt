use Rattle.std.proofs.Common.{◌+◌, ◌∙◌, Some, ap, sym, subst, arith, ℕ, BTreeMap}
use Rattle.std.proofs.lemmas.Option.{same_Some}
use Rattle.sia_graph.proofs.ReplayedTxns.MapSteps.{AreCommitsTo, commits_more, commits_same, all_commits}
use Rattle.sia_graph.proofs.serial_replay.commit_places.Goals as goal
use Rattle.sia_graph.proofs.serial_replay.commit_places.Goals.{in-Some+in-Commit+in_ok-insert, in-Some+in_default-event, in_default}

pub loop-before-preserved : goal.loop-before-preserved
loop-before-preserved c =
    let h = c.args.h.now in
    let b = c.loop-before.before in
    let same = c.loop-before.commits in
    elim c.match-event.branch [
      | in-Some+in-Commit+in_ok-insert w ↦
          subst (λ (m : BTreeMap ℕ ℕ). AreCommitsTo h (b + 1) m) (sym w.commits-is)
          (commits_more h c.len-before-end.ensures.well_formed b w.in-Commit.txn same w.insert.new.self c.loop-before.invariant (sym w.in-Some.ensures ∙ ap Some w.in-Commit.is) w.in_ok-insert.ensures.updates)
      | in-Some+in_default-event w ↦
          subst (λ (m : BTreeMap ℕ ℕ). AreCommitsTo h (b + 1) m) (sym w.commits-is)
          (commits_same h b same c.loop-before.invariant (λ t is. w.in_default-event.not-Commit t (same_Some _ _ (w.in-Some.ensures ∙ is))))
      | in_default w ↦
          subst (λ (m : BTreeMap ℕ ℕ). AreCommitsTo h (b + 1) m) (sym w.commits-is)
          (commits_same h b same c.loop-before.invariant (λ t is. let k = w.in_default.ensures in let f = k ∙ is in cc))
    ]

pub returns : goal.returns
returns c = all_commits c.args.h.now c.loop-before.before c.loop-before.commits (let a = c.loop-before-test.false in let b = c.len-before-end.ensures.len in omega arith) c.loop-before.invariant
