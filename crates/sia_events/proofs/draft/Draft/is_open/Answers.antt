-- The row says whether the transaction has ended.
use Rattle.std.proofs.Common.{◌∙◌}
use Rattle.sia_events.specs.declared.log.TxnRow.{TxnRow}
use Rattle.sia_events.specs.LogTables.{Lives, events_of}
use Rattle.std.proofs.lemmas.Option.{get_or_from_slice_get}
use Rattle.sia_events.proofs.LogRows.Lived.{to_get}
use Rattle.sia_events.proofs.Shared.Drafted.{map_read, tables_of, row_going, row_ended}
use Rattle.sia_events.proofs.draft.Draft.is_open.Goals as goal

pub returns-in-Open : goal.returns-in-Open
returns-in-Open c = λ name is.
    let r = map_read (λ (x : TxnRow). x.name) c.args.self.now.tables.txns.items c.args.txn name is in
    let lives = to_get (Lives (events_of c.args.self.now.tables)) c.args.self.now.tables.txns.items c.args.txn r.0 (tables_of c.args.self.now c.requires.knows).lives r.1 in
    row_going (events_of c.args.self.now.tables) r.0 c.index.result.now name lives r.2 (c.index.ensures ∙ get_or_from_slice_get c.args.self.now.tables.txns.items c.args.txn r.0 c.index.result.now r.1) c.in-Open.is

pub returns-in_default : goal.returns-in_default
returns-in_default c = λ name is.
    let r = map_read (λ (x : TxnRow). x.name) c.args.self.now.tables.txns.items c.args.txn name is in
    let lives = to_get (Lives (events_of c.args.self.now.tables)) c.args.self.now.tables.txns.items c.args.txn r.0 (tables_of c.args.self.now c.requires.knows).lives r.1 in
    row_ended (events_of c.args.self.now.tables) r.0 c.index.result.now name lives r.2 (c.index.ensures ∙ get_or_from_slice_get c.args.self.now.tables.txns.items c.args.txn r.0 c.index.result.now r.1) c.in_default.not-Open
