use Rattle.std.proofs.Common.{◌+◌, ◌*◌}
use Rattle.sia_pool.proofs.threads.+run_all.Given as goal

abbrev pub decreases-run_all : goal.decreases-run_all
decreases-run_all g l = 2 * l.takers.len

abbrev pub decreases-here : goal.decreases-here
decreases-here g l = 2 * l.takers.len + 1
