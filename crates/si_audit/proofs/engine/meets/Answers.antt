-- What a judgement says of each level.
use Rattle.std.proofs.Common.{◌↔◌, subst, sym, IsTrue}
use Rattle.std.proofs.lemmas.Bool.{both_ways}
use Rattle.si_audit.specs.declared.options.Level.{Level}
use Rattle.si_audit.specs.Outcomes.{Meets}
use Rattle.sia_graph.proofs.OnEvidence.Judging.{kept_where}
use Rattle.si_audit.proofs.engine.meets.Goals as goal

pub returns-then-is_kept : goal.returns-then-is_kept
returns-then-is_kept c h exact =
    let kept = (kept_where h c.args.j.now exact).0 (c.is_kept.ensures.0 c.if-is_kept.true) in
    subst (λ (l : Level). IsTrue c.args.j.now.serializable ↔ Meets l h) (sym c.in-Serializable.is)
    (λ yes. (kept, exact.serializable.0 yes), λ meets. exact.serializable.1 meets.1)

pub returns-else-is_kept : goal.returns-else-is_kept
returns-else-is_kept c h exact =
    subst (λ (l : Level). IsTrue c.is_kept.result ↔ Meets l h) (sym c.in-Serializable.is)
    (λ yes. absurd (both_ways _ c.if-is_kept.false yes), λ meets. c.is_kept.ensures.1 ((kept_where h c.args.j.now exact).1 meets.0))

pub returns-in-Si : goal.returns-in-Si
returns-in-Si c h exact =
    let kept = kept_where h c.args.j.now exact in
    subst (λ (l : Level). IsTrue c.is_kept-in-Si.result ↔ Meets l h) (sym c.in-Si.is)
    (λ yes. kept.0 (c.is_kept-in-Si.ensures.0 yes), λ meets. c.is_kept-in-Si.ensures.1 (kept.1 meets))
