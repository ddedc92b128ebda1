-- The nodes below have half as many blocks.
use Rattle.sia_index.proofs.minima.+next_block.Given as goal

abbrev pub decreases-next_block : goal.decreases-next_block
decreases-next_block l = l.width
