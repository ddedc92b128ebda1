-- A write is found by its transaction's and its key's numbers.
use Rattle.sia_events.specs.LogTables.{names_in}
use Rattle.sia_events.proofs.Shared.Drafted.{code_write, code_none, write_or}
use Rattle.sia_events.proofs.draft.Draft.write_by.Goals as goal

pub returns-in-Some : goal.returns-in-Some
returns-in-Some c = λ t k is_txn is_key. write_or (names_in c.args.self.now.tables) (k, t) c.in-Some.number (code_write c.args.self.now.tables c.requires.found.sound c.in-Some.number c.args.key c.args.txn k t (rw (← c.deref.ensures.value) c.in-Some.ensures.some) is_key is_txn)

pub returns-in-None : goal.returns-in-None
returns-in-None c = λ t k is_txn is_key. code_none c.args.self.now.tables c.requires.found.sound c.args.key c.args.txn k t (rw (← c.deref.ensures.value) c.in-None.ensures.none) is_key is_txn
