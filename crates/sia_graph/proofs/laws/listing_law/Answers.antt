-- The law of listings, by its lemma.
use Rattle.sia_graph.proofs.OfLaws.FiniteHistories.{listing_holds}
use Rattle.sia_graph.proofs.laws.listing_law.Goals as goal

pub returns : goal.returns
returns c = listing_holds
