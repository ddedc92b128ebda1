-- The rows so far are those of the first numbers, and then names and lifetimes those of the rows.
use Rattle.std.proofs.Common.{◌≡◌, ℕ, take}
use Rattle.std.specs.Prelude.{All}
use Rattle.sia_events.specs.LogTables.{Lives, txn_names}
use Rattle.sia_events.specs.Numbering.{txns_of}
use Rattle.sia_events.specs.Transactions.{IsCommitted}
use Rattle.sia_index.specs.Lifetimes.{IsLifetime}
use Rattle.sia_index.specs.Rows.{IsColumn}
use Rattle.sia_index.specs.declared.names.Numbered.{Numbered}
use Rattle.sia_index.proofs.TxnTables.Collected.{HoldsBelow}
use Rattle.sia_index.proofs.TxnTables.KnownTxns.{StandBeside}
use Rattle.sia_index.proofs.Shared.NumberedNames.{IsRowOf}
use Rattle.sia_index.proofs.txns.txns_of.Given as goal

abbrev pub invariant-loop-number : goal.invariant-loop-number
invariant-loop-number l = record {
  rows : HoldsBelow (IsRowOf (IsCommitted l.log) (txns_of l.log)) l.number l.rows.items;
  names : txn_names l.known.items ≡ take l.number (txns_of l.log);
  lives : All (Lives l.log) l.known.items;
}

abbrev pub invariant-loop-row : goal.invariant-loop-row
invariant-loop-row l = record {
  named : IsColumn (λ (row : Numbered ℕ). row.name) l.row-items l.row-index l.committed.items;
  beside : StandBeside (IsLifetime l.log) l.row-index l.committed.items l.lifetimes.items;
}
