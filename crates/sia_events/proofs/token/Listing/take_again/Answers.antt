-- The pair is pushed.
use Rattle.std.proofs.Common.{◌∙◌, ap}
use Rattle.std.proofs.lemmas.List.{map-append}
use Rattle.sia_events.specs.declared.draft.Mention.{Mention}
use Rattle.sia_events.specs.Drafts.{mentioned}
use Rattle.sia_events.proofs.TokensRead.Pairs.{pair_joins}
use Rattle.sia_events.proofs.token.Listing.take_again.Goals as goal

pub returns-in-Some-past-clause-takes : goal.returns-in-Some-past-clause-takes
returns-in-Some-past-clause-takes c = record {
  pair = _;
  read = c.in-Some-past.ensures.pair;
  shorter = c.in-Some-past.ensures.shorter;
  comma = c.in-Some-past.ensures.comma;
  joins = pair_joins c.args.self.now.in_range (mentioned c.args.self.now.pairs.items) _ (ap mentioned c.in_ok-push.ensures.items ∙ map-append (λ (m : Mention). (m.key, m.saw)) c.args.self.now.pairs.items _);
}
