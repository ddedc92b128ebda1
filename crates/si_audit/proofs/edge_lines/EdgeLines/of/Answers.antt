use Rattle.std.proofs.Common.{length, subst, sym, ◌∙◌, arith}
use Rattle.sia_events.specs.Lists.{ListsAscending}
use Rattle.sia_events.specs.Transactions.{IsCommitted}
use Rattle.sia_parts.proofs.EdgeRows.Readings.{few_txns}
use Rattle.si_audit.specs.EdgeLines.{AreLinesFrom}
use Rattle.si_audit.specs.Giving.{IsTextOf}
use Rattle.si_audit.proofs.OfReport.EdgesInTurn.{lines_in_turn}
use Rattle.si_audit.proofs.edge_lines.EdgeLines.of.Goals as goal

pub overflow_cast-result : goal.overflow_cast-result
overflow_cast-result c = let few = few_txns _ c.law.ensures c.committed.result.now c.committed.ensures in omega arith

pub returns-clause-all : goal.returns-clause-all
returns-clause-all c = λ text all.
    let (edges, lists, is) = all in
    let h = c.args.found.now in
    let txns = c.committed.result.now in
    let are = subst (λ g. ListsAscending (IsCommitted g) txns) c.found.view_is c.committed.ensures in
    subst (λ g. IsTextOf (AreLinesFrom g) 0 (length txns) text) (sym (c.of.ensures.index ∙ c.found.view_is))
    (subst (IsTextOf (AreLinesFrom h) 0 (length txns)) (sym is) (lines_in_turn h txns are edges lists))
