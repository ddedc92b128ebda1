use Rattle.std.proofs.Common.{◌≡◌, ℕ, ◌<◌, ◌≤◌, ◌-◌, length}
use Rattle.sia_graph.specs.Searched.{IsEdgeIn}
use Rattle.sia_graph.specs.Walks.{back}
use Rattle.sia_graph.proofs.Cycles.Rounds.{IsPartOfRound}
use Rattle.sia_graph.proofs.cycle.cycle_of.Given as goal

abbrev pub invariant-loop : goal.invariant-loop
invariant-loop l = (l.place < length l.previous) × (l.place ≡ back l.previous l.counter l.initial.place)

abbrev pub invariant-round : goal.invariant-round
invariant-round l = (l.place < length l.previous) × (l.place ≡ back l.previous l.counter l.initial.place)
    × ((n : ℕ) × (n ≤ l.counter) × (back l.previous n l.initial.place ≡ l.home))
    × ((n : ℕ) → n ≤ l.counter → l.home ≤ back l.previous n l.initial.place)

abbrev pub invariant-walk : goal.invariant-walk
invariant-walk l = (period : ℕ) × (period ≤ length l.previous) × (back l.previous period l.home ≡ l.home) × IsPartOfRound l.ids (IsEdgeIn l.edges) l.previous l.home period l.steps.items l.at

abbrev pub decreases-walk : goal.decreases-walk
decreases-walk l = length l.previous - length l.steps.items
