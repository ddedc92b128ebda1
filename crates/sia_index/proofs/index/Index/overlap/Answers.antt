-- The starts and the commits tell it.
use Rattle.sia_index.proofs.Answering.Table.{overlap_by}
use Rattle.sia_index.proofs.index.Index.overlap.Goals as goal

pub returns-in-Some-Some : goal.returns-in-Some-Some
returns-in-Some-Some c =
    let both = overlap_by c.args.self.now c.law.ensures c.args.t c.args.u c.in-Some-Some.first c.in-Some-Some.second c.in-Some-Some.ensures c.in-Some-Some.ensures' in
    ((λ yes. both.0 (c.overlap.ensures.0 yes)), (λ o. c.overlap.ensures.1 (both.1 o)))
