-- The tables are those of the history.
use Rattle.sia_index.proofs.make.index_log.Goals as goal

pub invariant_of-result : goal.invariant_of-result
invariant_of-result c = rw c.of.ensures (record {
  well_formed = c.law.ensures;
  txns_are = c.in_ok-txns.ensures;
  keys_are = c.in_ok-keys.ensures;
  versions_are = c.in_ok-versions.ensures;
  writes_are = c.in_ok-written.ensures.tables;
})

pub returns : goal.returns
returns c = c.of.ensures
