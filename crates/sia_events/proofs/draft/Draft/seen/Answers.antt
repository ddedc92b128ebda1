use Rattle.std.proofs.Common.{arith}
use Rattle.sia_events.proofs.Shared.Drafted.{new_wrote_none}
use Rattle.sia_events.proofs.draft.Draft.seen.Goals as goal

pub returns-in_err-txn-clause-none : goal.returns-in_err-txn-clause-none
returns-in_err-txn-clause-none c = rw (c.from_residual.ensures) (omega (arith, c.if-saw-eq0.false), new_wrote_none c.args.self.now.tables c.requires.found.sound c.args.key c.args.saw c.in_err-txn.ensures)
