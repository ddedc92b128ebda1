-- What is listed, as it is read pair by pair.
use Rattle.std.specs.Prelude.{◌≡◌, ◌≤◌, ℕ, Bool, List, length, Option, Ok}
use Rattle.sia_events.specs.declared.token.Listing.{Listing}
use Rattle.sia_events.specs.Drafts.{mentioned}
use Rattle.sia_events.specs.Parsing.{begins_with, kept, joined, one_pair, pair_at}

-- the pairs so far, unless one had a number out of range
abbrev pub listed : Listing → Option (List (ℕ × ℕ))
listed l = kept l.in_range (mentioned l.pairs.items)

-- the text begins with a pair, which follows the others, and may go on with a comma
pub record TakesPair (before after : Option (List (ℕ × ℕ))) (text rest : List ℕ) (goes_on : Bool) : Type 0 where
  pub pair : Option (ℕ × ℕ)
  pub read : pair_at text ≡ Ok (pair, rest)
  pub shorter : length rest ≤ length text
  pub joins : after ≡ joined before (one_pair pair)
  pub comma : goes_on ≡ begins_with 44 rest
