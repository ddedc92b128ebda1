-- The law of replays, by its lemma.
use Rattle.sia_graph.proofs.OfLaws.ReplayLaw.{replay_holds}
use Rattle.sia_graph.proofs.laws.replay_law.Goals as goal

pub returns : goal.returns
returns c = replay_holds
