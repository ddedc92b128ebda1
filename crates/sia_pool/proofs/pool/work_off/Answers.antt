use Rattle.std.proofs.Common.{◌<◌, ◌∙◌, ℕ, Ok, subst, rules}
use Rattle.std.proofs.lemmas.Iterator.{YieldsList-from_map, items_from_collect}
use Rattle.std.proofs.lemmas.Iterator.Adapters.{YieldsList-from_vec}
use Rattle.std.proofs.lemmas.Iterator.Consumers.{YieldsList-at}
use Rattle.std.proofs.lemmas.List.Sorted.{IsNonDecreasingBy-from_sort_by_key}
use Rattle.sia_pool.proofs.FinishLemmas.{IsFinished, have_run, all_back, finished}
use Rattle.sia_pool.proofs.pool.work_off.Goals.{After-into_shares}
use Rattle.sia_pool.proofs.pool.work_off.Goals as goal

pub work-requires-clause-takes : goal.work-requires-clause-takes
work-requires-clause-takes g c =
    let run = have_run (g.J.Job.owes c.args.job.now) c.args.count c.args.workers c.in_ok-takers.takers.items _ _ c.in_ok-takers.ensures c.in_ok-taker.ensures in
    λ p h. c.requires.takes p (subst (λ n. p < n) run.counted h)

pub into_shares-requires-clause-all : goal.into_shares-requires-clause-all
into_shares-requires-clause-all g c =
    all_back (g.J.Job.owes c.args.job.now) c.args.count c.args.workers c.in_ok-taker.field-0.taker c.work.new.taker c.in_ok-taker.field-0.answers.items c.work.new.answers.items _
    (have_run (g.J.Job.owes c.args.job.now) c.args.count c.args.workers c.in_ok-takers.takers.items _ _ c.in_ok-takers.ensures c.in_ok-taker.ensures) c.in_ok-work.ensures

-- what the call promises
done : (g : _) (c : After-into_shares g) → IsFinished (g.J.Job.owes c.args.job.now) c.args.count c.args.workers c.in_ok-outs.outs.items c.into_shares.result.items
done g c =
    let sorted = c.sort_unstable_by_key.new.self in
    let items = items_from_collect {E = ℕ} (Ok c.in_ok-outs.outs) c.in_ok-outs.ensures.ran (YieldsList-from_map _ (λ a. a.1) (YieldsList-at c.map.ensures.source (YieldsList-from_vec sorted.items c.into_iter.ensures.rest (c.into_iter.ensures.len ∙ sorted.ok.0))) c.map.ensures.closure (λ x r q k. search rules)) in
    finished (g.J.Job.owes c.args.job.now) c.args.count c.args.workers c.in_ok-taker.field-0.taker c.work.new.taker c.in_ok-taker.field-0.answers.items c.work.new.answers.items _
    (have_run _ c.args.count c.args.workers c.in_ok-takers.takers.items _ _ c.in_ok-takers.ensures c.in_ok-taker.ensures)
    c.in_ok-work.ensures c.in_ok-outs.outs.items c.into_shares.result.items
    (sorted.items, c.sort_unstable_by_key.ensures.permutation, IsNonDecreasingBy-from_sort_by_key (λ a. a.0) _ c.sort_unstable_by_key.ensures.sorted (λ a r q k. search rules), items) c.into_shares.ensures

pub returns-clause-len : goal.returns-clause-len
returns-clause-len g c = (done g (goal.at.returns-clause-len g c).After-into_shares).len

pub returns-clause-owed : goal.returns-clause-owed
returns-clause-owed g c = (done g (goal.at.returns-clause-owed g c).After-into_shares).owed

pub returns-clause-reached : goal.returns-clause-reached
returns-clause-reached g c = (done g (goal.at.returns-clause-reached g c).After-into_shares).reached

pub returns-clause-workers : goal.returns-clause-workers
returns-clause-workers g c = (done g (goal.at.returns-clause-workers g c).After-into_shares).sized

pub returns-clause-once : goal.returns-clause-once
returns-clause-once g c = (done g (goal.at.returns-clause-once g c).After-into_shares).once

pub returns-clause-ascending : goal.returns-clause-ascending
returns-clause-ascending g c = (done g (goal.at.returns-clause-ascending g c).After-into_shares).ascending
