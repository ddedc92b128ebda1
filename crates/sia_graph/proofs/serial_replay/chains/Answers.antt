use Rattle.std.proofs.Common.{◌≡◌, ◌+◌, ◌-◌, ℕ, Option, Some, unwrap_or, ap, sym, ◌∙◌, subst, arith, nat_cmp}
use Rattle.std.specs.BTreeMap.{get, Updates}
use Rattle.sia_graph.specs.Replaying.{AreFirsts, AreNext}
use Rattle.sia_graph.proofs.ReplayedTxns.MapSteps.{chains_more}
use Rattle.sia_events.proofs.Shared.LogReads.{no_event}
use Rattle.sia_graph.proofs.serial_replay.chains.Goals as goal

pub loop-before-preserved-in_ok-insert : goal.loop-before-preserved-in_ok-insert
loop-before-preserved-in_ok-insert c =
    let h = c.args.h.now in
    let b = c.loop-before.before - 1 in
    let back : b + 1 ≡ c.loop-before.before = let l = c.loop-before-test.true in omega arith in
    let firsts = c.loop-before.firsts in
    let is = c.unwrap_or.ensures ∙ ap (λ (o : Option ℕ). unwrap_or o 0) (c.copied.ensures ∙ c.get.ensures.value ∙ ap (λ t. get nat_cmp firsts t) c.txn-txn.ensures) in
    let u = subst (λ t. Updates nat_cmp firsts c.insert.new.self t (Some (b + 1))) c.txn-txn.ensures c.in_ok-insert.ensures.updates in
    chains_more h b c.in-Some.event.now firsts c.insert.new.self c.loop-before.next.items c.unwrap_or.result (sym c.in-Some.ensures)
    (subst (λ n. AreFirsts h n firsts × AreNext h n c.loop-before.next.items) (sym back) c.loop-before.invariant)
    is u

pub loop-before-preserved : goal.loop-before-preserved
loop-before-preserved c = grind (arith, no_event)
