use Rattle.std.proofs.Common.{ℕ, ◌<◌, List}
use Rattle.sia_graph.specs.Twos.{AreTwosOf}
use Rattle.sia_graph.proofs.TwoLeast.EnteredTwos.{IsUpRun, At}
use Rattle.sia_graph.proofs.twos.run_up.Given as goal

abbrev pub invariant-loop-position : goal.invariant-loop-position
invariant-loop-position l = (entries : List (ℕ × ℕ)) → ((q r : ℕ) → At entries q r → r < 4294967295) → AreTwosOf (At entries) l.initial.twos → IsUpRun l.index entries l.position l.twos
