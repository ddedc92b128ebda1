use Rattle.std.proofs.Common.{◌≡◌, ◌<◌, ◌++◌, ◌∷◌, [], length, subst, sym, rules}
use Rattle.sia_pool.specs.Taker.{taker_view, taker_deque}
use Rattle.sia_pool.specs.Work.{HasWorked}
use Rattle.sia_pool.specs.Threads.{IsReady, count_of, AllDone}
use Rattle.sia_pool.proofs.ThreadLemmas.{ready_front, front_count, last_count, last_back, all_ended, ok_there}
use Rattle.sia_pool.proofs.threads.+run_all.Goals as goal

pub join-worked-requires-after_bounds : goal.join-worked-requires-after_bounds
join-worked-requires-after_bounds g t c κs within =
    let ready : IsReady (c.pop.new.self.items ++ c.unwrap-last.result ∷ []) = subst IsReady (rw c.unwrap-last.ensures at c.pop.ensures.items) c.requires.ready in
    let long : 0 < length c.pop.new.self.items = search rules in
    let front : IsReady c.pop.new.self.items = ready_front c.pop.new.self.items c.unwrap-last.result long ready in
    let all : count_of c.args.takers.items ≡ count_of (c.pop.new.self.items ++ c.unwrap-last.result ∷ []) = cc (rw c.unwrap-last.ensures at c.pop.ensures.items) in
    let counts = last_count c.pop.new.self.items c.unwrap-last.result ready in
    let fronts = front_count c.pop.new.self.items c.unwrap-last.result long in
    (λ p h. c.requires.takes p (subst (λ n. p < n) (sym all) (subst (λ n. p < n) counts h)), search rules)

pub take_back-requires-clause-owner : goal.take_back-requires-clause-owner
take_back-requires-clause-owner g t c =
    let owes = g.J.Job.owes c.args.job.now in
    (last_back owes c.args.takers.items c.pop.new.self.items c.unwrap-last.result (rw c.unwrap-last.ensures at c.pop.ensures.items) c.requires.ready _ _ _ _
    (ok_there (λ w. HasWorked owes (taker_deque c.unwrap-last.result) (taker_view c.unwrap-last.result) [] w.taker w.answers.items) c.join-worked.result.0 _ c.in_ok-taker.was c.join-worked.ensures.first)
    (ok_there (λ r. AllDone owes c.pop.new.self.items r.taker r.answers.items) c.join-worked.result.1 _ c.in_ok-done.was c.join-worked.ensures.second)).owner

pub take_back-requires-clause-deque : goal.take_back-requires-clause-deque
take_back-requires-clause-deque g t c =
    let owes = g.J.Job.owes c.args.job.now in
    (last_back owes c.args.takers.items c.pop.new.self.items c.unwrap-last.result (rw c.unwrap-last.ensures at c.pop.ensures.items) c.requires.ready _ _ _ _
    (ok_there (λ w. HasWorked owes (taker_deque c.unwrap-last.result) (taker_view c.unwrap-last.result) [] w.taker w.answers.items) c.join-worked.result.0 _ c.in_ok-taker.was c.join-worked.ensures.first)
    (ok_there (λ r. AllDone owes c.pop.new.self.items r.taker r.answers.items) c.join-worked.result.1 _ c.in_ok-done.was c.join-worked.ensures.second)).deque

pub take_back-requires-clause-next : goal.take_back-requires-clause-next
take_back-requires-clause-next g t c =
    let owes = g.J.Job.owes c.args.job.now in
    (last_back owes c.args.takers.items c.pop.new.self.items c.unwrap-last.result (rw c.unwrap-last.ensures at c.pop.ensures.items) c.requires.ready _ _ _ _
    (ok_there (λ w. HasWorked owes (taker_deque c.unwrap-last.result) (taker_view c.unwrap-last.result) [] w.taker w.answers.items) c.join-worked.result.0 _ c.in_ok-taker.was c.join-worked.ensures.first)
    (ok_there (λ r. AllDone owes c.pop.new.self.items r.taker r.answers.items) c.join-worked.result.1 _ c.in_ok-done.was c.join-worked.ensures.second)).next

pub returns : goal.returns
returns g t c =
    let owes = g.J.Job.owes c.args.job.now in
    all_ended owes c.args.takers.items c.pop.new.self.items c.unwrap-last.result (rw c.unwrap-last.ensures at c.pop.ensures.items) c.requires.ready c.in_ok-taker.field-0.taker c.in_ok-done.done.taker c.take_back.new.self c.in_ok-taker.field-0.answers.items c.in_ok-done.done.answers.items c.append.new.self.items
    (ok_there (λ w. HasWorked owes (taker_deque c.unwrap-last.result) (taker_view c.unwrap-last.result) [] w.taker w.answers.items) c.join-worked.result.0 _ c.in_ok-taker.was c.join-worked.ensures.first)
    (ok_there (λ r. AllDone owes c.pop.new.self.items r.taker r.answers.items) c.join-worked.result.1 _ c.in_ok-done.was c.join-worked.ensures.second) c.take_back.ensures.deque c.take_back.ensures.view c.in_ok-append.ensures.items
