use Rattle.sia_graph.proofs.OfLaws.SsiLaw.{pivot_holds}
use Rattle.sia_graph.proofs.OfLaws.AllowedCycles.{allowed}
use Rattle.sia_graph.specs.Closures.{IsPair}
use Rattle.sia_graph.proofs.OfLaws.Extremes.{firsts_hold}
use Rattle.std.specs.Prelude.{Contains}
use Rattle.sia_graph.proofs.OfLaws.Blocks.{settles_members}
use Rattle.sia_graph.proofs.Shared.StandIns.{settles_edges, stand_in_holds}
use Rattle.sia_graph.proofs.laws.laws_hold.Goals as goal

pub returns-clause-pivot_law : goal.returns-clause-pivot_law
returns-clause-pivot_law c = pivot_holds

pub returns-clause-cycle_law : goal.returns-clause-cycle_law
returns-clause-cycle_law c = allowed

pub returns-clause-closure_law : goal.returns-clause-closure_law
returns-clause-closure_law c = λ h pairs same. settles_edges h (IsPair pairs) same

pub returns-clause-firsts_law : goal.returns-clause-firsts_law
returns-clause-firsts_law c = firsts_hold

pub returns-clause-blocks_law : goal.returns-clause-blocks_law
returns-clause-blocks_law c = λ floor ids edges has. settles_members floor (Contains ids) (Contains edges) has

pub returns-clause-stand_in_law : goal.returns-clause-stand_in_law
returns-clause-stand_in_law c = stand_in_holds
