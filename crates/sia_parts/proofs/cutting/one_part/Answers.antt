-- By its lemma.
use Rattle.sia_parts.proofs.CutKeys.PartLemmas.{one_part_holds}
use Rattle.sia_parts.proofs.cutting.one_part.Goals as goal

pub returns : goal.returns
returns c = one_part_holds
