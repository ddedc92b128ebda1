-- The transaction is there, and hasn't ended, or it is new.
use Rattle.std.proofs.Common.{◌++◌, ◌∷◌, [], inr, ◌∙◌, ap}
use Rattle.sia_events.specs.Drafts.{new_txn}
use Rattle.sia_events.proofs.Shared.Drafted.{counted, found_of, tables_of, txn_within, new_going}
use Rattle.sia_events.proofs.draft.Draft.actor.Goals as goal

pub find_txn-requires : goal.find_txn-requires
find_txn-requires c = found_of c.args.self.now c.requires.knows

pub is_open-requires-clause-within : goal.is_open-requires-clause-within
is_open-requires-clause-within c = txn_within c.args.self.now.tables.txns.items _ c.args.name c.in-Some.ensures

pub returns-then-is_open-clause-found : goal.returns-then-is_open-clause-found
returns-then-is_open-clause-found c = found_of c.args.self.now c.requires.knows

pub new_txn-requires-clause-found : goal.new_txn-requires-clause-found
new_txn-requires-clause-found c = found_of c.args.self.now c.requires.knows

pub returns-in_ok-new_txn-in-None-clause-acts : goal.returns-in_ok-new_txn-in-None-clause-acts
returns-in_ok-new_txn-in-None-clause-acts c = record {
  same = c.in_ok-new_txn-in-None.ensures.same;
  going = new_going c.args.self.now.tables c.args.name (tables_of c.args.self.now c.requires.knows) c.in-None.ensures;
  is = c.in_ok-new_txn-in-None.ensures.is;
  rows = inr (c.in-None.ensures, c.in_ok-new_txn-in-None.ensures.rows ∙ ap (λ s. c.args.self.now.tables.txns.items ++ new_txn c.args.name s ∷ []) (counted c.args.self.now.tables c.len-start.result c.len-start.ensures));
}
