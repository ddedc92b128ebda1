use Rattle.std.proofs.Common.{◌++◌, ◌∙◌, ℕ, List, ap, flat_map, take_all}
use Rattle.std.proofs.lemmas.Result.{on_ok_weaker}
use Rattle.si_audit.specs.Lines.{pivot_line, serializable_line, ssi_line, verdict_line}
use Rattle.si_audit.proofs.report.push_back.Goals as goal

-- one line after another, from the last back to the first
pub returns : goal.returns
returns c =
    let o = c.args.out.now.items in
    let all = take_all c.loop-p.p-index c.args.pivots.now c.loop-p-test.false in
    on_ok_weaker c.push_verdict.result
    (λ told. told ∙ ap (λ (x : List ℕ). x ++ verdict_line c.args.verdict.now) (c.in_ok-push_whether-2.ensures ∙ ap (λ (x : List ℕ). x ++ serializable_line c.args.serializable)
    (c.in_ok-push_whether.ensures ∙ ap (λ (x : List ℕ). x ++ ssi_line c.args.pass) (c.loop-p.invariant ∙ ap (λ ps. o ++ flat_map pivot_line ps) all))))
    c.push_verdict.ensures
