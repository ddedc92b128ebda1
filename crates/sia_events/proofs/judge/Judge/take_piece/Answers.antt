-- The unfinished token is judged first, and then those of the piece.
use Rattle.std.proofs.Common.{arith}
use Rattle.std.proofs.lemmas.Result.{err_from_is_err_and}
use Rattle.sia_events.specs.LogTables.{events_of}
use Rattle.sia_events.proofs.JudgedTexts.Pieces.{nothing_taken, taken_after, halts_after, halts_at_first}
use Rattle.sia_events.proofs.judge.Judge.take_piece.Goals as goal

pub returns-in_default-clause-taken : goal.returns-in_default-clause-taken
returns-in_default-clause-taken c = grind (arith, nothing_taken c.args.limits c.args.unfinished.now.items c.args.piece.now (events_of c.args.self.now.draft.tables) c.requires.unbroken c.in_default.ensures.none)

pub returns-in_err-take_some-clause-refused : goal.returns-in_err-take_some-clause-refused
returns-in_err-take_some-clause-refused c = grind (arith, err_from_is_err_and, halts_at_first)

pub returns-in_err-rest-clause-refused : goal.returns-in_err-rest-clause-refused
returns-in_err-rest-clause-refused c = grind (arith, err_from_is_err_and, halts_after)

pub returns-clause-taken : goal.returns-clause-taken
returns-clause-taken c = grind (arith, taken_after)
