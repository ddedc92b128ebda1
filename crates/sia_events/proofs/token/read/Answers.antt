-- A colon follows the first number.
use Rattle.std.proofs.Common.{rules}
use Rattle.sia_events.specs.Drafts.{mentioned}
use Rattle.sia_events.specs.Parsing.{event_with}
use Rattle.sia_events.proofs.TokensRead.TokenSteps.{read_colon}
use Rattle.sia_events.proofs.token.read.Goals as goal

pub returns-in-58 : goal.returns-in-58
returns-in-58 c = let one = read_colon (event_with (mentioned c.args.listing.now.pairs.items)) c.item.result c.args.txn c.in_ok-first.first c.args.text.now c.in_ok-after.field-0.now c.in_ok-first.rest.now c.in_ok-after.ensures.gives c.in_ok-first.ensures.gives c.in-58.len_at_least in search (rules, one, c.item.ensures (mentioned c.args.listing.now.pairs.items))
