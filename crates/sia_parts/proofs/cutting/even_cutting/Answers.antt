-- The parts are those of the points.
use Rattle.sia_parts.proofs.cutting.even_cutting.Goals as goal

pub returns-clause-parts : goal.returns-clause-parts
returns-clause-parts c = (c.deref-2.result.now, c.in-Ok.ensures.parts)
