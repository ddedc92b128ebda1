-- A transaction that has an event has a number.
use Rattle.std.proofs.Common.{◌≡◌, Some, slice_get, subst}
use Rattle.std.proofs.lemmas.Option.{get_or_from_slice_get, slice_get_within}
use Rattle.sia_events.specs.Numbering.{txns_of}
use Rattle.sia_index.specs.Info.{IsReader}
use Rattle.sia_index.proofs.Shared.NumberedNames.{has_number}
use Rattle.sia_index.proofs.index.Index.reader.Goals.{After-unwrap_or-number}
use Rattle.sia_index.proofs.index.Index.reader.Goals as goal

number : (c : After-unwrap_or-number) → slice_get (txns_of c.args.self.now) c.unwrap_or-number.result ≡ Some c.args.t
number c = rw c.unwrap_or-number.ensures (has_number c.args.self.now c.args.t c.txn_number.result c.txn_number.ensures c.requires)

pub reader_at-requires : goal.reader_at-requires
reader_at-requires c = slice_get_within (txns_of c.args.self.now) _ c.args.t (number c)

pub returns : goal.returns
returns c = subst (λ t. IsReader c.args.self.now t c.args.place c.reader_at.result) (get_or_from_slice_get (txns_of c.args.self.now) _ c.args.t 0 (number (goal.at.returns c).After-unwrap_or-number)) c.reader_at.ensures
