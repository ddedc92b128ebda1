use Rattle.sia_pool.specs.Taker.{taker_view, taker_deque}
use Rattle.sia_pool.specs.Work.{HasWorked}
use Rattle.sia_pool.proofs.threads.work.Given as goal

abbrev pub invariant-taking : goal.invariant-taking
invariant-taking g l = HasWorked (g.J.Job.owes l.job) (taker_deque l.initial.taker) (taker_view l.initial.taker) l.initial.answers.items l.taker l.answers.items
