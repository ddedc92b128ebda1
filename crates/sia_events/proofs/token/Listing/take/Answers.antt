-- What was read is spelled by the bytes before the rest, and pushed.
use Rattle.std.proofs.Common.{◌≡◌, ℕ, ◌∙◌, ap, Ok, subst, Some, None, Option, arith}
use Rattle.std.proofs.lemmas.List.{map-append}
use Rattle.sia_events.specs.declared.draft.Mention.{Mention}
use Rattle.sia_events.specs.Drafts.{mentioned}
use Rattle.sia_events.specs.Parsing.{pair_at}
use Rattle.sia_events.proofs.TokensRead.Pairs.{starts_so, pair_joins, none_joins}
use Rattle.sia_events.proofs.TokensRead.SameBytes.{spelled_before}
use Rattle.sia_events.proofs.token.Listing.take.Goals as goal

pub of-spelling-requires : goal.of-spelling-requires
of-spelling-requires c = grind (arith, spelled_before)

pub returns-in_default-clause-takes : goal.returns-in_default-clause-takes
returns-in_default-clause-takes c = record {
  pair = None;
  read = subst (λ (read : Option (ℕ × ℕ)). pair_at c.args.text.now ≡ Ok (read, c.in_ok-read.rest.now)) c.in_default.is c.in_ok-read.ensures.gives;
  shorter = c.in_ok-read.ensures.shorter;
  comma = c.starts_with-goes_on.ensures.value ∙ starts_so 44 c.in_ok-read.rest.now;
  joins = none_joins c.args.self.now.in_range (mentioned c.args.self.now.pairs.items);
}

pub returns-clause-takes : goal.returns-clause-takes
returns-clause-takes c = record {
  pair = Some (c.in-Some.key, c.in-Some.saw);
  read = subst (λ (read : Option (ℕ × ℕ)). pair_at c.args.text.now ≡ Ok (read, c.in_ok-read.rest.now)) c.in-Some.is c.in_ok-read.ensures.gives;
  shorter = c.in_ok-read.ensures.shorter;
  comma = c.starts_with-goes_on.ensures.value ∙ starts_so 44 c.in_ok-read.rest.now;
  joins = pair_joins c.args.self.now.in_range (mentioned c.args.self.now.pairs.items) _ (ap mentioned c.in_ok-push.ensures.items ∙ map-append (λ (m : Mention). (m.key, m.saw)) c.args.self.now.pairs.items _);
}
