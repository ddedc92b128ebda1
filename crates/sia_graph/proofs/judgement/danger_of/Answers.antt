use Rattle.std.proofs.lemmas.Bool.{both_ways}
use Rattle.sia_graph.proofs.OnEvidence.Judging.{kept_where, where_kept}
use Rattle.sia_graph.proofs.judgement.danger_of.Goals as goal
use Rattle.sia_graph.proofs.judgement.danger_of.Goals.{then-j-via-then-j, then-j-via-else-j+then-not-is_kept}

pub returns-then-j : goal.returns-then-j
returns-then-j c kept = elim c.then-j.branch [
  | then-j-via-then-j w ↦ (c.requires.judgement.pass.0 w.if-j.true).1
  | then-j-via-else-j+then-not-is_kept w ↦
      absurd (both_ways _ w.if-not-is_kept.true (w.is_kept.ensures.1 ((kept_where c.args.ix.now c.args.j.now c.requires.judgement).1 kept)))
]

pub dangerous_of-requires-clause-kept : goal.dangerous_of-requires-clause-kept
dangerous_of-requires-clause-kept c = (kept_where c.args.ix.now c.args.j.now c.requires.judgement).0 (c.is_kept.ensures.0 c.if-not-is_kept.false)

pub returns : goal.returns
returns c =
    let h = c.args.ix.now in
    where_kept h c.dangerous_of.result ((kept_where h c.args.j.now c.requires.judgement).0 (c.is_kept.ensures.0 c.if-not-is_kept.false)) c.dangerous_of.ensures
