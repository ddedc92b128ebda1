use Rattle.std.proofs.Common.{arith}
use Rattle.std.proofs.lemmas.Grind.{common_steps}
use Rattle.sia_graph.proofs.Shared.NoFirsts.{passes_by}
use Rattle.sia_graph.proofs.ssi.ssi_pass.Goals as goal

pub returns-then-is_empty-clause-passes : goal.returns-then-is_empty-clause-passes
returns-then-is_empty-clause-passes c h found pivots =
    passes_by c.is_empty-then-is_empty.result h c.args.f.now.bad_reads.items c.args.f.now.bad_writes.items c.args.p.now (grind (arith, common_steps)) found.bad_reads found.bad_writes pivots

pub returns-else-is_empty-clause-passes : goal.returns-else-is_empty-clause-passes
returns-else-is_empty-clause-passes c h found pivots =
    passes_by c.if-all.value h c.args.f.now.bad_reads.items c.args.f.now.bad_writes.items c.args.p.now (grind (arith, common_steps)) found.bad_reads found.bad_writes pivots
