use Rattle.sia_graph.proofs.Shared.NoFirsts.{kept}
use Rattle.si_audit.proofs.tests.graph.histories.dangerous.Goals as goal

pub dangerous_of-requires-clause-evidence : goal.dangerous_of-requires-clause-evidence
dangerous_of-requires-clause-evidence c = record {
  well_formed = c.law.ensures;
  accesses = c.in_ok-found.ensures.accesses;
}

pub dangerous_of-requires-clause-kept : goal.dangerous_of-requires-clause-kept
dangerous_of-requires-clause-kept c =
    let found = c.in_ok-found.found in
    let are = c.in_ok-found.ensures in
    let none = c.are_none.ensures c.if-not-are_none.false in
    kept c.args.ix.now found.bad_reads.items found.bad_writes.items are.bad_reads are.bad_writes none.0 none.1
