-- The law of serializable snapshot isolation, by its lemma.
use Rattle.sia_graph.proofs.OfLaws.SsiLaw.{ssi_holds}
use Rattle.sia_graph.proofs.laws.ssi_law.Goals as goal

pub returns : goal.returns
returns c = ssi_holds
