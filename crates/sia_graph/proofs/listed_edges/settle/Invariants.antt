use Rattle.std.proofs.Common.{◌≡◌, ℕ, get_or, length, take, Contains}
use Rattle.sia_graph.proofs.Settling.EdgesListed.{AreLeastFrom}
use Rattle.sia_graph.proofs.listed_edges.settle.Given as goal

abbrev pub invariant-loop-source : goal.invariant-loop-source
invariant-loop-source l = AreLeastFrom l.graph.targets l.left l.source l.previous.items

abbrev pub invariant-loop-target : goal.invariant-loop-target
invariant-loop-target l = (length l.previous.items ≡ length l.initial.previous.items)
    × ((t : ℕ) → Contains (take l.target-index l.target-items) t → get_or l.previous.items t 0 ≡ l.source)
    × ((t : ℕ) → ¬ Contains (take l.target-index l.target-items) t → get_or l.previous.items t 0 ≡ get_or l.initial.previous.items t 0)
