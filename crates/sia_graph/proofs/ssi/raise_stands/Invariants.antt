use Rattle.std.proofs.Common.{[], get_or}
use Rattle.sia_graph.specs.Late.{IsRaised}
use Rattle.sia_graph.proofs.SsiTest.Stands.{IsOwnFirst, IsSeenFirst}
use Rattle.sia_graph.proofs.ssi.raise_stands.Given as goal

abbrev pub invariant-loop-position : goal.invariant-loop-position
invariant-loop-position l = IsRaised l.index l.txn (IsSeenFirst l.index l.txn l.position-items l.position-index) l.fn.table l.table l.to

abbrev pub invariant-loop-key : goal.invariant-loop-key
invariant-loop-key l = IsRaised l.index l.txn (IsOwnFirst l.index l.txn (get_or l.evidence.accesses.now.saw l.txn []) l.own l.key-index) l.fn.table l.table l.to
