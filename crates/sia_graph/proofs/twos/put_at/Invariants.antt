use Rattle.std.proofs.Common.{◌<◌, ℕ, List, ◌++◌, map, take}
use Rattle.sia_graph.specs.Twos.{AreTwosOf}
use Rattle.sia_graph.proofs.TwoLeast.EnteredTwos.{At}
use Rattle.sia_graph.proofs.twos.put_at.Given as goal

abbrev pub invariant-loop-place : goal.invariant-loop-place
invariant-loop-place l = (entries : List (ℕ × ℕ)) → ((place r : ℕ) → At entries place r → r < 4294967295) → AreTwosOf (At entries) l.initial.twos
    → AreTwosOf (At (entries ++ map (λ b. (b, l.number)) (take l.place-index l.places))) l.twos
